-- What the code's results and what it is told stand for. Definitions only.
use Rattle.std.specs.Prelude.{ℕ, cond, [], Option, Some, None, Result, Ok, Err}
use Rattle.refusal.specs.Number.{number}
use Rattle.refusal.specs.declared.Refusal.{Refusal}
use Rattle.preference_search.specs.Search.{LimitSolveResult, Feasible, Infeasible, Incomplete, Told, told, is_feasible, low_after, high_after}
use Rattle.preference_search.specs.Steps.{step, search_answer, search_refused}
use Rattle.preference_search.specs.declared.asked.Ask.{Ask}
use Rattle.preference_search.specs.declared.asked.Asked.{Asked}
use Rattle.preference_search.specs.declared.Range.{Range}
use Rattle.preference_search.specs.declared.Search.{Search}
use Rattle.preference_search.specs.declared.SearchAnswer.{SearchAnswer}
use Rattle.preference_search.specs.declared.Told as Held
use Rattle.preference_search.specs.declared.Told.TheVariants as Case

-- a plan stands only beside a feasible result
abbrev pub told_by : Held.Told → Told
told_by (Case.Feasible p) = told Feasible p.now
told_by Case.Infeasible = told Infeasible []
told_by Case.Incomplete = told Incomplete []

-- of what is told, what is looked at
abbrev pub looked_at : Told → Told
looked_at t = told t.result (cond (is_feasible t.result) t.plan [])

abbrev pub range_by : Search → Range
range_by s = record { start = s.start; low = s.low; high = s.high }

-- what is left of a range after the answer at m
abbrev pub range_after : Range → ℕ → LimitSolveResult → Range
range_after r m res = record { start = r.start; low = low_after r.low m res; high = high_after r.high m res }

-- the level and the index of an ask; zeros where there is none
abbrev pub level_of : Option Ask → ℕ
level_of (Some a) = a.level
level_of None = 0

abbrev pub index_of : Option Ask → ℕ
index_of (Some a) = a.index
index_of None = 0

-- a search with its ask, and the most asks that it makes
abbrev pub asked_by : Asked → SearchAnswer
asked_by a = search_answer a.most_asks (step (level_of a.ask) (index_of a.ask) a.search)

abbrev pub search_answered : Result Asked Refusal → SearchAnswer
search_answered (Ok a) = asked_by a
search_answered (Err r) = search_refused (number r)
