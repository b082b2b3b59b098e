use Rattle.std.proofs.Common.{arith}
use Rattle.slot_lists.specs.Parts.{list_length, list_entry}
use Rattle.mip_flow.specs.IndexLaws.{number_at}
use Rattle.edge_groups.specs.Bounds.{room_after, list_few}
use Rattle.edge_groups.specs.Stored.{groups_same_then}
use Rattle.create_edge_groups.proofs.put_groups.Goals as goal

pub put_dependent-requires : goal.put_dependent-requires
put_dependent-requires c =
    let e = c in
    let a = e.args in
    let g = e.requires in (
      g.dependent,
      room_after _ _ _ 2048 1024 (rw e.assignment.ensures at e.put_constraints.ensures) g.room (list_few (number_at a.index.now.numbers) a.sizes (list_length a.lists.now) (list_entry a.lists.now) g.listed.few a.day.now.assignment g.constraints.count) (omega arith) (omega arith),
    )

pub returns-clause-same : goal.returns-clause-same
returns-clause-same c = groups_same_then _ _ _ _ _ c.put_constraints.ensures c.put_dependent.ensures
