use Rattle.std.proofs.Common.{◌≡◌, ◌≤◌, ℕ, Bool}
use Rattle.counting.specs.Calls.{AgreesBelow}
use Rattle.counting.specs.Fold.{count_to}
use Rattle.counting.proofs.count_below.Given as goal

abbrev pub invariant-loop-k : goal.invariant-loop-k
invariant-loop-k g l = (l.count ≤ l.k) × ((f : ℕ → Bool) → AgreesBelow (goal.F-post g l.fn.test) l.fn.n f → l.count ≡ count_to l.k f)
