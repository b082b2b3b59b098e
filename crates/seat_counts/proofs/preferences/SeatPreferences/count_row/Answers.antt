use Rattle.std.proofs.Common.{arith}
use Rattle.seat_counts.specs.Laws.{added_none, added_more, added_most, added_all}
use Rattle.seat_counts.proofs.preferences.SeatPreferences.count_row.Goals as goal

pub loop-s-init : goal.loop-s-init
loop-s-init c = added_none _ _ _ _ _ _

pub overflow_add-counts : goal.overflow_add-counts
overflow_add-counts c =
    let r = c.args.self.now.reading in
    let q = c.preference_at.result in
    omega (arith, r.few, r.short, c.requires.small q (omega arith), added_most _ _ _ _ _ _ c.loop-s.invariant q (omega arith))

pub loop-s-preserved : goal.loop-s-preserved
loop-s-preserved c = added_more _ _ _ _ _ _ c.loop-s.invariant c.preference_at.ensures.value (omega arith)

pub returns : goal.returns
returns c = added_all _ _ _ _ _ _ (omega arith) c.loop-s.invariant
