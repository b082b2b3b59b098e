use Rattle.std.proofs.Common.{◌≡◌, ◌∙◌, arith, rules}
use Rattle.scheduling.specs.Schedule.{entry_at}
use Rattle.slot_lists.specs.Marks.{marks_none, marks_more, marks_all, looks_fits, unmarked_at}
use Rattle.slot_lists.proofs.is_misheld.Goals as goal

pub loop-s-init : goal.loop-s-init
loop-s-init c = marks_none _ _ _

pub list-requires-clause-fits : goal.list-requires-clause-fits
list-requires-clause-fits c = looks_fits c.requires c.loop-s.s c.loop-s-test.true

pub loop-s-preserved : goal.loop-s-preserved
loop-s-preserved c = marks_more c.requires c.loop-s.s c.loop-s-test.true c.loop-s.invariant c.list.ensures.holds (omega arith) c.mark_list.ensures

pub returns : goal.returns
returns c =
    let e : c.loop-s.s ≡ c.args.slots = omega arith in
    c.any_below.ensures (unmarked_at _ (entry_at c.args.entries.now)) (λ k h x p. search rules)
    ∙ marks_all c.requires (rw e at c.loop-s.invariant)
