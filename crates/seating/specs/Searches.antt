-- The result of an ask in numbers: SPEC 2.15. Definitions only.
use Rattle.std.specs.Prelude.{ℕ, cond, eqb}
use Rattle.preference_search.specs.Search.{LimitSolveResult, Feasible, Infeasible, Incomplete}

-- 0 feasible, 1 infeasible; a number that is no result reads as incomplete, which claims nothing
abbrev pub result_of : ℕ → LimitSolveResult
result_of n = cond (eqb n 0) Feasible (cond (eqb n 1) Infeasible Incomplete)
