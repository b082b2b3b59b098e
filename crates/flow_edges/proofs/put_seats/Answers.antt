use Rattle.std.proofs.Common.{◌<◌, suc-mul, mul-le-mul_right, arith}
use Rattle.counting.specs.Fold.{sum_to}
use Rattle.slot_lists.specs.Parts.{list_length}
use Rattle.mip_flow.specs.Stored.{seats_same, room_after, choosers_most}
use Rattle.flow_edges.proofs.put_seats.Goals as goal

pub put_chooser_seats-requires : goal.put_chooser_seats-requires
put_chooser_seats-requires c =
    let z = c.args.seats.now.offer.now.sizes in
    let n = sum_to z.slots (list_length c.args.seats.now.lists.now) in
    let b : c.loop-c.c < z.choosers = omega arith in
    (b, room_after _ _ n c.loop-c.invariant c.requires (omega (arith, choosers_most, suc-mul c.loop-c.c n, mul-le-mul_right n b)))

pub returns-clause-same : goal.returns-clause-same
returns-clause-same c = seats_same _ _ _ c.loop-c.invariant
