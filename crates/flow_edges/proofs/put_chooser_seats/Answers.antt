use Rattle.std.proofs.Common.{◌<◌, arith}
use Rattle.slot_lists.specs.Parts.{list_length}
use Rattle.mip_flow.specs.Stored.{room_after, slots_most, lists_below}
use Rattle.flow_edges.proofs.put_chooser_seats.Goals as goal

pub put_slot_seats-requires : goal.put_slot_seats-requires
put_slot_seats-requires c =
    let p = c.requires in
    let b : c.loop-s.s < c.args.seats.now.offer.now.sizes.slots = omega arith in
    (p.0, b, room_after _ _ _ c.loop-s.invariant p.1 (omega (arith, slots_most, lists_below (list_length c.args.seats.now.lists.now) _ _ b)))
