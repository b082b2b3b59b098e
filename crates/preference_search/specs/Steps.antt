-- A search that is handed back after each ask: begun, and told an answer. SPEC 3.21, 3.23, 9.1, 9.2, 9.4, 9.9, 9.11 to 9.17, 9.20. Definitions only.
use Rattle.std.specs.Prelude.{ℕ, ◌+◌, ◌-◌, Bool, true, false, cond, not, ◌&&◌, ◌||◌, List, eqb, ltb, length, replicate}
use Rattle.assignment.specs.Calls.{seats}
use Rattle.counting.specs.Fold.{some_below}
use Rattle.input_data.specs.declared.InputData.{InputData}
use Rattle.scheduling.specs.Handed.{kept_of}
use Rattle.scheduling.specs.Schedule.{entry_at}
use Rattle.scheduling.specs.declared.Scheduling.{Scheduling}
use Rattle.preference_search.specs.Search.{Told, known, nothing, marked, found_at, learnt, learnt_greedy, level_at, start_of, middle, ends_at, low_after, high_after, most_asks}
use Rattle.preference_search.specs.declared.CachedAssignment.{CachedAssignment}
use Rattle.preference_search.specs.declared.Known.{Known}
use Rattle.preference_search.specs.declared.Search.{Search}
use Rattle.preference_search.specs.declared.SearchAnswer.{SearchAnswer}

abbrev pub cached : Bool → Bool → List ℕ → List ℕ → CachedAssignment
cached t g sch plan = record { there = t; greedy = g; schedule = record { entries = sch }; plan = plan }

abbrev pub search_with : Bool → Bool → ℕ → ℕ → ℕ → ℕ → List ℕ → Known → CachedAssignment → Search
search_with asking greedy asks start low high sch k c = record {
  asking = asking;
  greedy = greedy;
  found = k.found;
  optimal = k.optimal;
  asks = asks;
  level = k.level;
  start = start;
  low = low;
  high = high;
  schedule = record { entries = sch };
  plan = k.plan;
  cached = c;
}

-- what a step makes: an ask, as its level and index (zeros where there is none), and the search
pub record Step : Type 0 where
  pub level : ℕ
  pub index : ℕ
  pub search : Search

abbrev pub step : ℕ → ℕ → Search → Step
step level index s = record { level = level; index = index; search = s }

-- .. handed back with the most asks that the search makes
abbrev pub search_answer : ℕ → Step → SearchAnswer
search_answer most s = record { number = 0; level = s.level; index = s.index; search = s.search; most_asks = most }

abbrev pub no_plan : List ℕ
no_plan = replicate 512 0

-- zeros: a search that has ended
abbrev pub no_search : Search
no_search = search_with false false 0 0 0 0 (replicate 32 0) (known false 0 no_plan false) (cached false false (replicate 32 0) no_plan)

abbrev pub search_refused : ℕ → SearchAnswer
search_refused n = record { number = n; level = 0; index = 0; search = no_search; most_asks = 0 }

-- ---- remembering

-- a plan is remembered only when found and optimal; otherwise the older one is left
abbrev pub remembered : Bool → List ℕ → Known → CachedAssignment → CachedAssignment
remembered greedy sch k c = cond (k.found && k.optimal) (cached true greedy sch k.plan) c

-- a remembered plan answers a search of the equal schedule, compared over the day's choices, with the same greedy setting
abbrev pub differs_in : List ℕ → List ℕ → ℕ → Bool
differs_in a b k = not (eqb (entry_at a k) (entry_at b k))

abbrev pub is_equal : ℕ → List ℕ → List ℕ → Bool
is_equal choices a b = not (some_below 32 choices (differs_in a b))

abbrev pub same_setting : Bool → Bool → Bool
same_setting a b = (a && b) || (not a && not b)

unfoldable pub remembers : ℕ → List ℕ → Bool → CachedAssignment → Bool
remembers choices sch greedy c = c.there && same_setting greedy c.greedy && is_equal choices sch c.schedule.entries

-- ---- steps

-- the end of a search
abbrev pub over : Bool → ℕ → ℕ → ℕ → ℕ → List ℕ → Known → CachedAssignment → Step
over greedy asks start low high sch k c = step 0 0 (search_with false greedy asks start low high sch k (remembered greedy sch k c))

-- the next ask of a range, or its end; an ask is counted when it is handed out
unfoldable pub next : List ℕ → ℕ → ℕ → ℕ → ℕ → List ℕ → Known → CachedAssignment → Step
next levels asks start low high sch k c =
    cond (ltb high low) (over false asks start low high sch k c)
    (step (level_at levels (middle low high)) (middle low high) (search_with true false (asks + 1) start low high sch k c))

-- the answer of a memory: optimal, without an ask and without a level
abbrev pub recalled : InputData → CachedAssignment → Known
recalled d c = found_at (seats d) 0 c.plan true

unfoldable pub begun_levels : List ℕ → ℕ → List ℕ → CachedAssignment → Step
begun_levels levels start sch c =
    cond (eqb (length levels) 0) (step 0 0 (search_with false false 0 0 0 0 sch nothing c))
    (next levels 0 start start (length levels - 1) sch nothing c)

unfoldable pub begun_step : InputData → Scheduling → List ℕ → ℕ → Bool → CachedAssignment → Step
begun_step d sch levels bound greedy c =
    cond (remembers d.choices (kept_of d sch) greedy c)
    (step 0 0 (search_with false greedy 0 0 0 0 (kept_of d sch) (recalled d c) c))
    (cond greedy (step d.max_preference 0 (search_with true true 1 0 0 0 (kept_of d sch) (marked nothing false) c))
    (begun_levels levels (start_of levels bound) (kept_of d sch) c))

-- the most asks are those of the search, be it made or answered from memory
unfoldable pub begun_answer : InputData → Scheduling → List ℕ → ℕ → Bool → CachedAssignment → SearchAnswer
begun_answer d sch levels bound greedy c = search_answer (most_asks greedy (length levels) (start_of levels bound)) (begun_step d sch levels bound greedy c)

-- what a search knows
abbrev pub known_by : Search → Known
known_by s = known s.found s.level s.plan s.optimal

-- the next ask of a range, where the best plan so far stays
abbrev pub asked_again : List ℕ → Search → ℕ → ℕ → List ℕ → Bool → Step
asked_again levels s low high sch mark = step (level_at levels (middle low high)) (middle low high) (search_with true false (s.asks + 1) s.start low high sch (marked (known_by s) mark) s.cached)

abbrev pub told_range : InputData → Search → List ℕ → Told → Step
told_range d s levels t =
    cond (ends_at s.start (middle s.low s.high) t.result)
    (over false s.asks s.start s.low s.high (kept_of d s.schedule) (learnt (seats d) (level_at levels (middle s.low s.high)) (known_by s) t) s.cached)
    (next levels s.asks s.start (low_after s.low (middle s.low s.high) t.result) (high_after s.high (middle s.low s.high) t.result) (kept_of d s.schedule) (learnt (seats d) (level_at levels (middle s.low s.high)) (known_by s) t) s.cached)

abbrev pub told_greedy : InputData → Search → Told → Step
told_greedy d s t = over true s.asks 0 0 0 (kept_of d s.schedule) (learnt_greedy (seats d) d.max_preference t) s.cached

unfoldable pub told_step : InputData → Search → List ℕ → Told → Step
told_step d s levels t = cond s.greedy (told_greedy d s t) (told_range d s levels t)

-- the most asks of a search that was begun on these levels
abbrev pub most_asks_of : List ℕ → Search → ℕ
most_asks_of levels s = most_asks s.greedy (length levels) s.start

unfoldable pub told_answer : InputData → Search → List ℕ → Told → SearchAnswer
told_answer d s levels t = search_answer (most_asks_of levels s) (told_step d s levels t)
