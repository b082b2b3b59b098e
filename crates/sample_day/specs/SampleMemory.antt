-- What the sample search remembers: a later search of the same schedule is answered with its plan, without an ask. Assumes nothing.
use Rattle.std.specs.Prelude.{ℕ, ◌≡◌, refl, true, false}
use Rattle.std.proofs.Common.{ap, ◌∙◌}
use Rattle.assignment.specs.Plan.{bad_plan_for, kept_plan}
use Rattle.assignment_solver.specs.Calls.{begin_answer}
use Rattle.preference_search.specs.Search.{start_of, middle, search_from, search_levels}
use Rattle.preference_search.specs.Steps.{remembers}
use Rattle.preference_search_checks.specs.Checks.{begin_number}
use Rattle.preference_search.specs.declared.Known.{Known}
use Rattle.counting.specs.Fold.{fold_to, some_below}
use Rattle.counting.specs.Search.{first_to}
use Rattle.input_data.specs.Checks.{first_of, day_number, late_number, member_count, has_bad_levels}
use Rattle.input_data.specs.Lengths.{full_day}
use Rattle.input_data.specs.Numbers.{full_within}
use Rattle.preference_search_runs.specs.Memory.{OfDay, Recalled, Serves}
use Rattle.preference_search_runs.specs.Remembered.{run_serves}
use Rattle.preference_search_runs.specs.Run.{counted}
use Rattle.preference_search_runs.specs.Whole.{run_is_search}
use Rattle.sample_day.specs.SampleDay.{levels, search_day, at_first, planned, nothing_cached, answers, run_of}

pub search_accepted : begin_number full_day search_day at_first levels nothing_cached ≡ 0
unfolding begin_number day_number late_number first_of has_bad_levels member_count some_below fold_to
search_accepted = refl

-- the search from bound 0 on has ended, with the sample plan, which is optimal
record Found : Type 0 where
  ended : (run_of 0 answers).search.asking ≡ false
  found : (run_of 0 answers).search.found ≡ true
  optimal : (run_of 0 answers).search.optimal ≡ true
  plan : (run_of 0 answers).search.plan ≡ kept_plan 4 planned

sample_found : Found
unfolding remembers counted bad_plan_for search_levels search_from start_of first_to middle fold_to
sample_found =
    let r = (run_is_search full_day search_day at_first levels 0 false nothing_cached full_within search_accepted answers).is in
    record {
      ended = r.waits;
      found = ap (λ (k : Known). k.found) r.knows_it;
      optimal = ap (λ (k : Known). k.optimal) r.knows_it;
      plan = ap (λ (k : Known). k.plan) r.knows_it;
    }

pub serves : Serves full_day search_day at_first false (run_of 0 answers).search
serves = (run_serves full_day search_day at_first levels 0 false nothing_cached full_within search_accepted answers).serves

pub same_day : OfDay search_day at_first levels
unfolding some_below has_bad_levels fold_to
same_day = record { inside = refl; ascend = refl }

pub sample_recalled : (bound : ℕ) → Recalled (kept_plan 4 planned) (begin_answer full_day search_day at_first levels bound false (run_of 0 answers).search.cached)
sample_recalled bound =
    let f = sample_found in
    let kept = serves.remembers_it f.ended f.found f.optimal at_first (record { at = λ k h. refl }) in
    let plan = serves.plan_is f.ended f.found f.optimal ∙ f.plan in
    rw plan at (serves.answers at_first levels bound same_day kept)
