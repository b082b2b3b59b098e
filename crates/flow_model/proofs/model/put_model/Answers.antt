use Rattle.std.proofs.Common.{refl, rules}
use Rattle.flow_model.specs.Building.{good_of, lent_of, offered, supplying, listed_in, placed, seat_room, choice_room, grouping, made}
use Rattle.flow_model.proofs.model.put_model.Goals as goal

pub of-offer-requires : goal.of-offer-requires
of-offer-requires c = rw c.sizes_of-sizes.ensures (offered (good_of c.requires.0) (lent_of c.requires.0))

pub put_supplies-requires : goal.put_supplies-requires
put_supplies-requires c = rw c.sizes_of-sizes.ensures (supplying (good_of c.requires.0) _ (lent_of c.requires.0).long.supplies)

pub invariant_of-seats : goal.invariant_of-seats
invariant_of-seats c = record { listed = rw (c.of-offer.ensures, c.sizes_of-sizes.ensures) (listed_in (good_of c.requires.0) c.requires.1) }

pub put_seats-requires : goal.put_seats-requires
put_seats-requires c =
    rw (c.of-offer.ensures, c.sizes_of-sizes.ensures, c.none.ensures)
    (seat_room (good_of c.requires.0) c.args.buffers.now (lent_of c.requires.0) c.requires.1 (record { from = refl; to = refl; max = refl; cost = refl; used = refl }))

pub invariant_of-choices : goal.invariant_of-choices
invariant_of-choices c = record { placed = rw (c.kept-schedule.ensures, c.nodes.ensures, c.of-offer.ensures, c.sizes_of-sizes.ensures) (placed (good_of c.requires.0)) }

pub put_choices-requires : goal.put_choices-requires
put_choices-requires c =
    let p = rw (c.of-offer.ensures, c.sizes_of-sizes.ensures, c.none.ensures) at c.put_seats.ensures.stores in
    rw (c.nodes.ensures, c.of-offer.ensures, c.sizes_of-sizes.ensures)
    (choice_room (good_of c.requires.0) c.args.buffers.now (lent_of c.requires.0) c.requires.1 (record { from = refl; to = refl; max = refl; cost = refl; used = refl }) p)

pub put_groups-requires : goal.put_groups-requires
put_groups-requires c =
    rw c.sizes_of-sizes.ensures
    (grouping (good_of c.requires.0) c.args.buffers.now (lent_of c.requires.0) c.requires.1 (record { entries = refl; ends = refl; blocked = refl; entries_used = refl; ends_used = refl; blocked_used = refl }))

pub returns : goal.returns
returns c =
    let p = rw (c.of-offer.ensures, c.sizes_of-sizes.ensures, c.none.ensures) at c.put_seats.ensures.stores in
    let s = rw (c.kept-schedule.ensures, c.sizes_of-sizes.ensures) at c.put_supplies.ensures in
    let k = rw (c.kept-schedule.ensures, c.nodes.ensures, c.of-offer.ensures, c.sizes_of-sizes.ensures) at c.put_choices.ensures.stores in
    let n = rw (c.kept-schedule.ensures, c.sizes_of-sizes.ensures) at c.put_groups.ensures.stores in
    rw c.sizes_of-sizes.ensures
    (made (good_of c.requires.0) c.args.buffers.now c.requires.1 (record { from = refl; to = refl; max = refl; cost = refl; used = refl }) p
    (record { entries = refl; ends = refl; blocked = refl; entries_used = refl; ends_used = refl; blocked_used = refl }) k n
    (record { supplies = s; from = search rules; to = search rules; max = search rules; cost = search rules; entries = search rules; ends = search rules; blocked = search rules }))
