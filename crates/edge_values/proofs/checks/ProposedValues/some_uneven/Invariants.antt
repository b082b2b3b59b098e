use Rattle.std.proofs.Common.{◌≡◌, ◌≤◌, length}
use Rattle.counting.specs.Fold.{any_to}
use Rattle.edge_values.specs.Checks.{start_at, uneven_part}
use Rattle.edge_values.proofs.checks.ProposedValues.some_uneven.Given as goal

abbrev pub invariant-loop-end : goal.invariant-loop-end
invariant-loop-end l = (l.start ≡ start_at l.model.ends.now l.end-index) × (l.bad ≡ any_to l.end-index (uneven_part l.self.values.now l.model.entries.now l.model.ends.now)) × (l.start ≤ length l.model.entries.now)
