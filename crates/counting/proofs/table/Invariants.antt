use Rattle.std.proofs.Common.{ℕ}
use Rattle.counting.specs.Calls.{AgreesBelow}
use Rattle.counting.specs.Lists.{Filled}
use Rattle.counting.proofs.table.Given as goal

abbrev pub invariant-loop-k : goal.invariant-loop-k
invariant-loop-k g l = (of : ℕ → g.row.T.Denot) → AgreesBelow (goal.F-post g l.fn.f) g.row.N of → Filled of g.row.N l.k l.out
