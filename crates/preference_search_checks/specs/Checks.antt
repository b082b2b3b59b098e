-- The numbers of begin and tell: what is tested of a search, of what it remembers and of what it is told. SPEC 3.2, 3.18, 3.24, 3.25, 9.10. Definitions only.
use Rattle.std.specs.Prelude.{ℕ, Bool, false, not, ◌&&◌, ◌||◌, List, eqb, ltb, leb, length}
use Rattle.assignment.specs.Calls.{seats}
use Rattle.assignment.specs.Plan.{bad_plan_for}
use Rattle.input_data.specs.Bytes.{day_of, lent_number}
use Rattle.input_data.specs.Checks.{first_of, day_number, has_bad_levels}
use Rattle.input_data.specs.Lengths.{plan_length}
use Rattle.input_data.specs.declared.Limits.{Limits}
use Rattle.input_data.specs.declared.InputData.{InputData}
use Rattle.input_data.specs.declared.checks.Beside.{Beside}
use Rattle.scheduling.specs.Handed.{schedule_of, not_schedule, outside}
use Rattle.scheduling.specs.declared.Scheduling.{Scheduling}
use Rattle.preference_search.specs.Search.{Told, is_feasible}
use Rattle.preference_search.specs.Bytes.{not_cached, not_search, cached_in, search_in}
use Rattle.preference_search.specs.declared.CachedAssignment.{CachedAssignment}
use Rattle.preference_search.specs.declared.Search.{Search}

-- what these calls test beside the day: the levels, and a told plan's length
abbrev pub beside_levels : InputData → List ℕ → Bool → Beside
beside_levels d levels wrong = record { bad_lengths = wrong; bad_preferences = false; bad_levels = has_bad_levels d.max_preference levels; bad_costs = false; bad_asked = false }

-- 13 of a plan that is there, beside its schedule
abbrev pub bad_if : InputData → Bool → Scheduling → List ℕ → Bool
bad_if d there sch plan = there && bad_plan_for d.choices (seats d) sch.entries plan

-- 11 and 13 of what is remembered, if anything is
abbrev pub outside_cached : InputData → CachedAssignment → Bool
outside_cached d c = c.there && outside d c.schedule

abbrev pub bad_cached : InputData → CachedAssignment → Bool
bad_cached d c = bad_if d c.there c.schedule c.plan

unfoldable pub begin_number : Limits → InputData → Scheduling → List ℕ → CachedAssignment → ℕ
begin_number l d sch levels c =
    day_number l d (beside_levels d levels false)
    (first_of (outside d sch || outside_cached d c) 11
    (first_of (bad_cached d c) 13 0))

-- 18. it has ended, or its range is not within its start and the last level, or it has counted more than 256 asks; a greedy search has no range
abbrev pub bad_range : ℕ → ℕ → ℕ → ℕ → Bool
bad_range start low high count = ltb low start || ltb high low || leb count high

unfoldable pub spent_at : Bool → Bool → ℕ → ℕ → ℕ → ℕ → ℕ → Bool
spent_at asking greedy asks start low high count = not asking || ltb 256 asks || (not greedy && bad_range start low high count)

abbrev pub spent : Search → ℕ → Bool
spent s count = spent_at s.asking s.greedy s.asks s.start s.low s.high count

-- a told plan is looked at where the result is feasible
abbrev pub wrong_length : Limits → Told → Bool
wrong_length l t = is_feasible t.result && not (eqb (length t.plan) (plan_length l))

-- 13 of the told plan and of the best so far
abbrev pub bad_plans : InputData → Search → Told → Bool
bad_plans d s t = bad_if d (is_feasible t.result) s.schedule t.plan || bad_if d s.found s.schedule s.plan

-- .. and of what is remembered
abbrev pub bad_told : InputData → Search → Told → Bool
bad_told d s t = bad_plans d s t || bad_cached d s.cached

-- 11, 13 and 18 of what a search holds and is told
unfoldable pub held_number : InputData → Search → ℕ → Told → ℕ
held_number d s count t =
    first_of (outside d s.schedule || outside_cached d s.cached) 11
    (first_of (bad_told d s t) 13
    (first_of (spent s count) 18 0))

unfoldable pub tell_number : Limits → InputData → Search → List ℕ → Told → ℕ
tell_number l d s levels t = day_number l d (beside_levels d levels (wrong_length l t)) (held_number d s (length levels) t)

-- ---- on lent bytes

abbrev pub begin_lent_number : Limits → List ℕ → List ℕ → List ℕ → List ℕ → ℕ
begin_lent_number l day sch levels c = lent_number l day (not_schedule sch || not_cached c) (begin_number l (day_of day) (schedule_of sch) levels (cached_in c))

abbrev pub tell_lent_number : Limits → List ℕ → List ℕ → List ℕ → Told → ℕ
tell_lent_number l day s levels t = lent_number l day (not_search s) (tell_number l (day_of day) (search_in s) levels t)
