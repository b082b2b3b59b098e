use Rattle.std.proofs.Common.{◌≡◌}
use Rattle.counting.specs.Fold.{join_to}
use Rattle.edge_groups.specs.Groups.{store_groups}
use Rattle.edge_groups.specs.Input.{number_of}
use Rattle.dependent_groups.specs.Members.{member_names}
use Rattle.dependent_groups.proofs.put_choosers.Given as goal

abbrev pub invariant-loop-c : goal.invariant-loop-c
invariant-loop-c l = l.groups ≡ store_groups l.input.index.now.count l.initial.groups (join_to l.c-counter (member_names (number_of l.input) l.members.choices l.members.count))
