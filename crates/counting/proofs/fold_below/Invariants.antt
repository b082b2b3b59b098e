use Rattle.std.proofs.Common.{◌≡◌, ℕ}
use Rattle.counting.specs.Calls.{AgreesBelow, AgreesTwo}
use Rattle.counting.specs.Fold.{fold_to}
use Rattle.counting.proofs.fold_below.Given as goal

abbrev pub invariant-loop-k : goal.invariant-loop-k
invariant-loop-k g l = (of : ℕ → g.row.T.Denot) (by : g.row.A.Denot → g.row.T.Denot → g.row.A.Denot) → AgreesBelow (goal.F-post g l.fn.f) l.fn.n of → AgreesTwo (goal.G-post g l.fn.op) by → l.all ≡ fold_to by l.fn.start l.k of
