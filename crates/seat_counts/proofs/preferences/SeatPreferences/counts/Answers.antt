use Rattle.std.proofs.Common.{arith}
use Rattle.seat_counts.specs.Laws.{holds_none, holds_more, holds_all, counting}
use Rattle.seat_counts.proofs.preferences.SeatPreferences.counts.Goals as goal

pub loop-c-init : goal.loop-c-init
loop-c-init c = holds_none _ _ _ _

pub count_row-requires : goal.count_row-requires
count_row-requires c = counting _ _ _ _ _ c.args.self.now.reading.short c.loop-c-test.true c.loop-c.invariant

pub loop-c-preserved : goal.loop-c-preserved
loop-c-preserved c = holds_more _ _ _ _ _ c.loop-c.invariant c.count_row.ensures

pub returns : goal.returns
returns c = holds_all _ _ _ _ _ _ (omega arith) c.loop-c.invariant
