use Rattle.std.proofs.Common.{◌≡◌}
use Rattle.counting.specs.Fold.{join_to}
use Rattle.slot_lists.specs.Parts.{list_length, list_entry}
use Rattle.edge_groups.specs.Input.{number_of}
use Rattle.edge_groups.specs.Names.{constraint_names_at}
use Rattle.edge_groups.specs.Groups.{store_groups}
use Rattle.create_edge_groups.proofs.pairs.put_constraints.Given as goal

abbrev pub invariant-loop-j : goal.invariant-loop-j
invariant-loop-j l = l.groups ≡ store_groups l.input.group.index.now.count l.initial.groups (join_to l.j (constraint_names_at (number_of l.input.group) l.input.group.sizes (list_length l.input.lists.now) (list_entry l.input.lists.now) l.list))
