use Rattle.std.proofs.Common.{◌≡◌}
use Rattle.counting.specs.Fold.{join_to}
use Rattle.scheduling.specs.Schedule.{entry_at}
use Rattle.edge_groups.specs.Input.{number_of}
use Rattle.edge_groups.specs.Names.{pair_names}
use Rattle.edge_groups.specs.Groups.{store_groups}
use Rattle.create_edge_groups.proofs.pairs.put_slot.Given as goal

abbrev pub invariant-loop-k : goal.invariant-loop-k
invariant-loop-k l = l.groups ≡ store_groups l.input.group.index.now.count l.initial.groups (join_to l.k-index (pair_names (number_of l.input.group) l.a l.b (entry_at l.list)))
