use Rattle.std.proofs.Common.{ℕ}
use Rattle.counting.specs.Calls.{AgreesBelow}
use Rattle.counting.specs.WrittenLaws.{Fills}
use Rattle.mip_flow_static_data.proofs.put_each.Given as goal

abbrev pub invariant-loop-k : goal.invariant-loop-k
invariant-loop-k g l = (of : ℕ → g.row.T.Denot) → AgreesBelow (goal.F-post g l.fn.f) l.n of → Fills l.initial.out l.at l.k of l.out
