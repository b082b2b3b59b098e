-- A run of a search makes no more asks than the number that it reports (SPEC 9.21): the statement, over the calls' answers. Proved in MostAsksHold.antt. Definitions only.
use Rattle.std.specs.Prelude.{ℕ, ◌≤◌, ◌≡◌, Bool, true, false, List, [], length}
use Rattle.input_data.specs.declared.InputData.{InputData}
use Rattle.input_data.specs.declared.Limits.{Limits}
use Rattle.scheduling.specs.Handed.{kept_of}
use Rattle.scheduling.specs.declared.Scheduling.{Scheduling}
use Rattle.assignment_solver.specs.Calls.{begin_answer}
use Rattle.preference_search.specs.Search.{Told, Ask, start_of, most_asks}
use Rattle.preference_search.specs.Steps.{remembers}
use Rattle.preference_search.specs.declared.CachedAssignment.{CachedAssignment}
use Rattle.preference_search.specs.declared.SearchAnswer.{SearchAnswer}
use Rattle.preference_search_runs.specs.Run.{run, asks_of}

-- the answer that a run left last, and its asks in order, the one that waits too
abbrev pub answer_after : Limits → InputData → Scheduling → List ℕ → ℕ → Bool → CachedAssignment → List Told → SearchAnswer
answer_after l d sch levels bound greedy c ts = run l d levels (begin_answer l d sch levels bound greedy c) ts

abbrev pub asks_after : Limits → InputData → Scheduling → List ℕ → ℕ → Bool → CachedAssignment → List Told → List Ask
asks_after l d sch levels bound greedy c ts = asks_of l d levels (begin_answer l d sch levels bound greedy c) ts

-- begun with number 0, and told any answers
pub record FewAsks (l : Limits) (d : InputData) (sch : Scheduling) (levels : List ℕ) (bound : ℕ) (greedy : Bool) (c : CachedAssignment) (ts : List Told) : Type 0 where
  pub few : length (asks_after l d sch levels bound greedy c ts) ≤ (answer_after l d sch levels bound greedy c ts).most_asks
  -- the search's own counter counts them
  pub count_is : (answer_after l d sch levels bound greedy c ts).search.asks ≡ length (asks_after l d sch levels bound greedy c ts)
  -- what is reported is the same through the whole run
  pub most_is : (answer_after l d sch levels bound greedy c ts).most_asks ≡ most_asks greedy (length levels) (start_of levels bound)
  pub without_levels : greedy ≡ false → levels ≡ [] → asks_after l d sch levels bound greedy c ts ≡ []
  pub from_memory : remembers d.choices (kept_of d sch) greedy c ≡ true → asks_after l d sch levels bound greedy c ts ≡ []
