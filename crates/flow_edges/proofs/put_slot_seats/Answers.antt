use Rattle.std.proofs.Common.{◌≡◌, length, arith}
use Rattle.slot_lists.specs.PartsLaws.{list_long, list_choices, list_join}
use Rattle.mip_flow.specs.Edges.{seat_at, slot_seats}
use Rattle.mip_flow.specs.Stored.{room_after, slot_most}
use Rattle.flow_edges.proofs.put_slot_seats.Goals as goal

pub put_seat-requires : goal.put_seat-requires
put_seat-requires c =
    let p = c.requires in
    let h = c.args.seats.now.listed in
    let e = c.list-list.ensures.holds in
    (p.0, p.1, list_choices h p.1 e _ c.loop-k-test.true, room_after _ _ 1 c.loop-k.invariant p.2 (omega (arith, slot_most, list_long h p.1 e)))

pub returns : goal.returns
unfolding slot_seats
returns c =
    let a = c.args in
    let all : c.loop-k.k-index ≡ length c.list-list.result.now = omega arith in
    let e = list_join a.seats.now.listed c.requires.1 c.list-list.ensures.holds (seat_at a.seats.now.offer.now a.c a.s) in
    cc
