use Rattle.std.proofs.Common.{arith}
use Rattle.scheduling.specs.Schedule.{entry_at}
use Rattle.seat_counts.specs.Laws.{parts_none, parts_more, part_most, seat_front, front_all}
use Rattle.seat_counts.proofs.plan.part_counts.Goals as goal

pub loop-k-init : goal.loop-k-init
loop-k-init c = parts_none _

pub overflow_add-counts : goal.overflow_add-counts
overflow_add-counts c =
    let p = seat_front c.requires c.seats.ensures c.loop-k-test.true in
    let k = entry_at c.args.plan.now c.loop-k.k-index in
    rw p.2 (omega (arith, c.requires.few, p.0, c.loop-k.invariant.at k p.1, part_most c.loop-k.k-index c.args.plan.now k))

pub loop-k-preserved : goal.loop-k-preserved
loop-k-preserved c =
    let p = seat_front c.requires c.seats.ensures c.loop-k-test.true in
    rw p.2 (parts_more c.loop-k.invariant p.1)

pub returns : goal.returns
returns c = rw (front_all c.requires c.seats.ensures c.loop-k-test.false c.loop-k.auto.k-index-end) at c.loop-k.invariant
