use Rattle.std.proofs.Common.{◌≡◌}
use Rattle.counting.specs.Fold.{join_to}
use Rattle.edge_groups.specs.Input.{number_of}
use Rattle.edge_groups.specs.Names.{member_start, group_names_at}
use Rattle.edge_groups.specs.Groups.{store_groups}
use Rattle.create_edge_groups.proofs.put_dependent.Given as goal

abbrev pub invariant-loop-g : goal.invariant-loop-g
invariant-loop-g l = (l.start ≡ member_start l.day.lengths l.g) × (l.groups ≡ store_groups l.input.index.now.count l.initial.groups (join_to l.g (group_names_at (number_of l.input) l.input.sizes l.input.schedule.now l.day.lengths l.day.members)))
