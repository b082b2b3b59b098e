use Rattle.std.proofs.Common.{◌+◌, ◌*◌, refl, sym, ◌∙◌, arith}
use Rattle.counting.specs.FoldLaws.{fold_none, fold_at}
use Rattle.counting.specs.Tests.{byte_most, count_more}
use Rattle.assignment.specs.Inside.{row_in}
use Rattle.assignment.specs.Plan.{is_seat}
use Rattle.satisfies_constraints.specs.Constraints.{times_in}
use Rattle.satisfies_constraints.proofs.assignment_constraints.times_in.Goals as goal

pub loop-s-init : goal.loop-s-init
loop-s-init c = (omega arith, sym (fold_none ◌+◌ 0 _))

pub overflow_add-times : goal.overflow_add-times
overflow_add-times c =
    let a = c.args in
    omega (
      arith,
      c.loop-s.invariant.0,
      c.loop-s-test.true,
      (row_in a.seats.now.inside c.requires).0,
      c.from-times.ensures,
      byte_most (is_seat a.seats.now.plan.now (a.chooser * a.seats.now.slots) a.choice c.loop-s.s),
    )

pub loop-s-preserved : goal.loop-s-preserved
loop-s-preserved c =
    let a = c.args in
    let f = is_seat a.seats.now.plan.now (a.chooser * a.seats.now.slots) a.choice in
    (omega (arith, c.loop-s.invariant.0, c.from-times.ensures, byte_most (f c.loop-s.s)), rw c.from-times.ensures (count_more c.loop-s.s f c.loop-s.invariant.1 refl))

pub returns : goal.returns
unfolding times_in
returns c = c.loop-s.invariant.1 ∙ fold_at _ _ _ (omega (arith, c.loop-s.auto, c.loop-s-test.false))
