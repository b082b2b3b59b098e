use Rattle.std.proofs.Common.{◌≡◌, length, arith}
use Rattle.dependent_groups.specs.Members.{kept_none, kept_same, kept_more, kept_all, kept_inside}
use Rattle.dependent_groups.proofs.scheduled.Goals as goal
use Rattle.dependent_groups.proofs.scheduled.Goals.{then-schedule-k-ne0, else-schedule-k-ne0}

pub loop-k-init : goal.loop-k-init
loop-k-init c = kept_none _ _

pub loop-k-preserved : goal.loop-k-preserved
loop-k-preserved c = elim c.if-schedule-k-ne0.branch [
  | then-schedule-k-ne0 w ↦ rw (w.choices-is, w.count-is) (kept_more _ _ c.loop-k.invariant w.if-schedule-k-ne0.true (c.requires.0 _ c.loop-k-test.true) (omega arith))
  | else-schedule-k-ne0 w ↦ rw (w.choices-is, w.count-is) (kept_same _ _ c.loop-k.invariant w.if-schedule-k-ne0.false)
]

pub invariant_of-result : goal.invariant_of-result
invariant_of-result c =
    let e : c.loop-k.k-index ≡ length c.args.group.now = omega arith in
    record { inside = kept_inside _ _ (rw e at c.loop-k.invariant) c.requires.1 }

pub returns : goal.returns
returns c =
    let e : c.loop-k.k-index ≡ length c.args.group.now = omega arith in
    kept_all _ _ (rw e at c.loop-k.invariant)
