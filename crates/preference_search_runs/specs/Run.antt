-- A whole run of a search: begun by its call, and told answer after answer. That it is the search of SPEC 9 is stated here (SPEC 9.18), over the answers that the contracts of begin and tell give (assignment_solver's Calls.antt), and proved in Whole.antt. Definitions only.
use Rattle.std.specs.Prelude.{ℕ, ◌≡◌, Bool, cond, not, ◌&&◌, List, [], ◌∷◌, ◌++◌, eqb, length}
use Rattle.assignment.specs.Calls.{seats}
use Rattle.assignment.specs.Plan.{bad_plan_for}
use Rattle.counting.specs.Fold.{only_if}
use Rattle.input_data.specs.declared.Limits.{Limits}
use Rattle.input_data.specs.declared.InputData.{InputData}
use Rattle.scheduling.specs.declared.Scheduling.{Scheduling}
use Rattle.scheduling.specs.Handed.{kept_of}
use Rattle.preference_search.specs.Search.{Told, Ask, Outcome, is_feasible, ask_at, ended, searched}
use Rattle.preference_search.specs.Steps.{known_by, remembers, recalled, remembered}
use Rattle.preference_search_checks.specs.Checks.{wrong_length}
use Rattle.assignment_solver.specs.Calls.{tell_answer}
use Rattle.preference_search.specs.declared.CachedAssignment.{CachedAssignment}
use Rattle.preference_search.specs.declared.SearchAnswer.{SearchAnswer}

-- ---- what the caller does

-- it is answered; where it is refused it goes on with the search that it has
abbrev pub if_done : {A : Type 0} → SearchAnswer → A → A → A
if_done b done refused = cond (eqb b.number 0) done refused

abbrev pub answer_to : Limits → InputData → List ℕ → SearchAnswer → Told → SearchAnswer
answer_to l d levels a t = tell_answer l d a.search levels t

unfoldable pub after : Limits → InputData → List ℕ → SearchAnswer → Told → SearchAnswer
after l d levels a t = if_done (answer_to l d levels a t) (answer_to l d levels a t) a

unfoldable pub run : Limits → InputData → List ℕ → SearchAnswer → List Told → SearchAnswer
run l d levels a [] = a
run l d levels a (t ∷ ts) = run l d levels (after l d levels a t) ts

-- the ask that an answer holds, and the asks of a run in order
abbrev pub ask_of : SearchAnswer → List Ask
ask_of a = only_if a.search.asking (ask_at a.index a.level ∷ [])

unfoldable pub asked_after : Limits → InputData → List ℕ → SearchAnswer → List Told → List Ask
asked_after l d levels a [] = []
asked_after l d levels a (t ∷ ts) = if_done (answer_to l d levels a t) (ask_of (answer_to l d levels a t)) [] ++ asked_after l d levels (after l d levels a t) ts

abbrev pub asks_of : Limits → InputData → List ℕ → SearchAnswer → List Told → List Ask
asks_of l d levels a ts = ask_of a ++ asked_after l d levels a ts

-- ---- what the search of SPEC 9 does

-- an answer counts where its plan, if it has one, passes 2 and 13
abbrev pub counts : Limits → InputData → List ℕ → Told → Bool
counts l d sch t = not (wrong_length l t) && not (is_feasible t.result && bad_plan_for d.choices (seats d) sch t.plan)

unfoldable pub counted : Limits → InputData → List ℕ → List Told → List Told
counted l d sch [] = []
counted l d sch (t ∷ ts) = cond (counts l d sch t) (t ∷ counted l d sch ts) (counted l d sch ts)

-- an equal remembered schedule answers at once; otherwise the search is made
abbrev pub outcome : InputData → Scheduling → List ℕ → ℕ → Bool → CachedAssignment → List Told → Outcome
outcome d sch levels bound greedy c ts =
    cond (remembers d.choices (kept_of d sch) greedy c) (ended (recalled d c)) (searched greedy levels bound d.max_preference (seats d) ts)

-- at its end a search remembers, unless it was answered from what is remembered
abbrev pub memory : Bool → List ℕ → Bool → Outcome → CachedAssignment → CachedAssignment
memory hit sch greedy o c = cond (o.over && not hit) (remembered greedy sch o.known c) c

-- ---- the statement: a run is the search, in its asks and their count, in what it knows, in its end, and in what is remembered

pub record SameAsSearch (o : Outcome) (kept : CachedAssignment) (asks : List Ask) (a : SearchAnswer) : Type 0 where
  pub asks_are : asks ≡ o.asks
  pub count_is : a.search.asks ≡ length o.asks
  pub knows_it : known_by a.search ≡ o.known
  pub waits : a.search.asking ≡ not o.over
  pub remembers_it : a.search.cached ≡ kept

-- begun with number 0, and told any answers
pub record RunIsSearch (l : Limits) (d : InputData) (sch : Scheduling) (levels : List ℕ) (bound : ℕ) (greedy : Bool) (c : CachedAssignment) (a : SearchAnswer) (ts : List Told) : Type 0 where
  pub is : SameAsSearch
      (outcome d sch levels bound greedy c (counted l d (kept_of d sch) ts))
      (memory (remembers d.choices (kept_of d sch) greedy c) (kept_of d sch) greedy (outcome d sch levels bound greedy c (counted l d (kept_of d sch) ts)) c)
      (asks_of l d levels a ts)
      (run l d levels a ts)
