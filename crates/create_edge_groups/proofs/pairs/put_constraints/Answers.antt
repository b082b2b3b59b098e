use Rattle.std.proofs.Common.{arith}
use Rattle.slot_lists.specs.Parts.{list_length, list_entry}
use Rattle.edge_groups.specs.Input.{number_of}
use Rattle.edge_groups.specs.Bounds.{room_after, constraints_few}
use Rattle.create_edge_groups.proofs.pairs.put_constraints.Goals as goal

pub put_constraint-requires : goal.put_constraint-requires
put_constraint-requires c =
    let e = c in
    let a = e.args in
    let j = e.loop-j.j in
    let p = e.requires in (
      rw (e.from.ensures, e.get.ensures) (p.0.names j (omega arith)),
      room_after _ _ _ 64 32 e.loop-j.invariant p.1 (constraints_few (number_of a.input.now.group) a.input.now.group.sizes (list_length a.input.now.lists.now) (list_entry a.input.now.lists.now) a.input.now.listed.few a.list.now j) (omega (arith, p.0.count)) (omega (arith, p.0.count)),
    )
