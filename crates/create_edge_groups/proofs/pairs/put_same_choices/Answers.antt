use Rattle.std.proofs.Common.{arith}
use Rattle.slot_lists.specs.Parts.{list_length, list_entry}
use Rattle.edge_groups.specs.Input.{number_of}
use Rattle.edge_groups.specs.Bounds.{room_after, slots_few, sum_within}
use Rattle.create_edge_groups.proofs.pairs.put_same_choices.Goals as goal

pub put_slot-requires : goal.put_slot-requires
put_slot-requires c =
    let e = c in
    let a = e.args in
    let i = e.loop-s.s in
    let p = e.requires in
    let l = a.input.now.listed in
    let w = sum_within (list_length a.input.now.lists.now) i a.input.now.group.sizes.slots e.loop-s-test.true in (
      p.0,
      p.1,
      e.loop-s-test.true,
      room_after _ _ _ _ _ e.loop-s.invariant p.2 (slots_few (number_of a.input.now.group) (list_length a.input.now.lists.now) (list_entry a.input.now.lists.now) a.a a.b i) (omega (arith, w, l.few)) (omega (arith, w, l.few)),
    )
