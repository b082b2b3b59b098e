-- What a run of a search remembers serves later searches of its day and setting (SPEC 9.19): the statement, over the calls' answers. Proved in Remembered.antt. Definitions only.
use Rattle.std.specs.Prelude.{ℕ, ◌<◌, ◌≡◌, Bool, true, false, List}
use Rattle.assignment.specs.Calls.{seats}
use Rattle.assignment.specs.Plan.{kept_plan}
use Rattle.input_data.specs.Checks.{has_bad_levels}
use Rattle.input_data.specs.declared.InputData.{InputData}
use Rattle.input_data.specs.declared.Limits.{Limits}
use Rattle.scheduling.specs.Handed.{kept_of, outside}
use Rattle.scheduling.specs.Schedule.{entry_at}
use Rattle.scheduling.specs.declared.Scheduling.{Scheduling}
use Rattle.preference_search_checks.specs.Checks.{begin_number}
use Rattle.assignment_solver.specs.Calls.{begin_answer}
use Rattle.preference_search.specs.Search.{Told}
use Rattle.preference_search.specs.Steps.{remembers}
use Rattle.preference_search.specs.declared.CachedAssignment.{CachedAssignment}
use Rattle.preference_search.specs.declared.Search.{Search}
use Rattle.preference_search.specs.declared.SearchAnswer.{SearchAnswer}
use Rattle.preference_search_runs.specs.Run.{run}

-- the search in which a run ends, or waits
abbrev pub search_after : Limits → InputData → Scheduling → List ℕ → ℕ → Bool → CachedAssignment → List Told → Search
search_after l d sch levels bound greedy c ts = (run l d levels (begin_answer l d sch levels bound greedy c) ts).search

-- another call of the same day: its schedule passes 11, its levels pass 5
pub record OfDay (d : InputData) (sch : Scheduling) (levels : List ℕ) : Type 0 where
  pub inside : outside d sch ≡ false
  pub ascend : has_bad_levels d.max_preference levels ≡ false

-- equal over the day's choices
pub record Equal (d : InputData) (a b : Scheduling) : Type 0 where
  pub at : (k : ℕ) → k < d.choices → entry_at a.entries k ≡ entry_at b.entries k

-- an answer from memory: done and at its end, without an ask and without a level, with this plan
pub record Recalled (plan : List ℕ) (a : SearchAnswer) : Type 0 where
  pub done : a.number ≡ 0
  pub ended : a.search.asking ≡ false
  pub asks : a.search.asks ≡ 0
  pub level : a.search.level ≡ 0
  pub found : a.search.found ≡ true
  pub optimal : a.search.optimal ≡ true
  pub plan_is : a.search.plan ≡ plan

-- s is what a run of sch left
pub record Serves (l : Limits) (d : InputData) (sch : Scheduling) (greedy : Bool) (s : Search) : Type 0 where
  -- 11 and 13 do not refuse what it remembers
  pub accepted : (sch' : Scheduling) (levels : List ℕ) → OfDay d sch' levels → begin_number l d sch' levels s.cached ≡ 0
  -- a schedule that it remembers is answered with the seats of the remembered plan
  pub answers : (sch' : Scheduling) (levels : List ℕ) (bound : ℕ) → OfDay d sch' levels → remembers d.choices (kept_of d sch') greedy s.cached ≡ true
      → Recalled (kept_plan (seats d) s.cached.plan) (begin_answer l d sch' levels bound greedy s.cached)
  -- where it ended with a plan that is optimal, it remembers its own schedule, and that plan
  pub remembers_it : s.asking ≡ false → s.found ≡ true → s.optimal ≡ true → (sch' : Scheduling) → Equal d sch' sch → remembers d.choices (kept_of d sch') greedy s.cached ≡ true
  pub plan_is : s.asking ≡ false → s.found ≡ true → s.optimal ≡ true → kept_plan (seats d) s.cached.plan ≡ s.plan

-- begun with number 0, and told any answers
pub record RunServes (l : Limits) (d : InputData) (sch : Scheduling) (levels : List ℕ) (bound : ℕ) (greedy : Bool) (c : CachedAssignment) (ts : List Told) : Type 0 where
  pub serves : Serves l d sch greedy (search_after l d sch levels bound greedy c ts)
