use Rattle.std.proofs.Common.{◌≡◌, ◌*◌, ◌≤◌}
use Rattle.counting.specs.Fold.{count_to}
use Rattle.assignment.specs.Plan.{is_seat}
use Rattle.satisfies_constraints.proofs.assignment_constraints.times_in.Given as goal

abbrev pub invariant-loop-s : goal.invariant-loop-s
invariant-loop-s l = (l.times ≤ l.s) × (l.times ≡ count_to l.s (is_seat l.seats.plan.now (l.chooser * l.seats.slots) l.choice))
