-- The asks that searches of the sample day have made when they are begun, and how many they make at most. Assumes nothing.
use Rattle.std.specs.Prelude.{ℕ, ◌≡◌, refl, Bool, true, false, List, [], length}
use Rattle.std.proofs.Common.{sym, ap, ◌∙◌, arith}
use Rattle.assignment_solver.specs.Calls.{begin_answer}
use Rattle.counting.specs.Fold.{fold_to, some_below}
use Rattle.counting.specs.Search.{first_to}
use Rattle.input_data.specs.Checks.{first_of, day_number, late_number, member_count, has_bad_levels}
use Rattle.input_data.specs.Lengths.{full_day}
use Rattle.input_data.specs.Numbers.{full_within}
use Rattle.input_data.specs.declared.InputData.{InputData}
use Rattle.preference_search.specs.Digits.{digits_are, no_digits}
use Rattle.preference_search.specs.Search.{start_of, binary_digits, most_asks}
use Rattle.preference_search.specs.Steps.{remembers, next, begun_levels, begun_step, begun_answer}
use Rattle.preference_search.specs.declared.CachedAssignment.{CachedAssignment}
use Rattle.preference_search.specs.declared.SearchAnswer.{SearchAnswer}
use Rattle.preference_search_checks.specs.Checks.{begin_number}
use Rattle.preference_search_runs.specs.Whole.{begin_is}
use Rattle.sample_day.specs.Rows.{Begins}
use Rattle.sample_day.specs.SampleDay.{levels, all_levels, search_day, levels_day, at_first, nothing_cached, answers, begin_all, begin_none, begin_greedy, begin_again, run_of}
use Rattle.sample_day.specs.SampleMemory.{search_accepted, serves, same_day, sample_recalled}

-- five levels have three digits, one has one, and 256 have nine
pub digits_of_five : binary_digits 5 ≡ 3
digits_of_five = sym (digits_are 5 3 (omega arith) (omega arith))

pub digits_of_one : binary_digits 1 ≡ 1
digits_of_one = sym (digits_are 1 1 (omega arith) (omega arith))

digits_of_256 : binary_digits 256 ≡ 9
digits_of_256 = sym (digits_are 256 9 (omega arith) (omega arith))

begins : (d : InputData) (given : List ℕ) (bound : ℕ) (greedy : Bool) (c : CachedAssignment) (asks most : ℕ) → begin_number full_day d at_first given c ≡ 0
    → (begun_step d at_first given bound greedy c).search.asks ≡ asks → most_asks greedy (length given) (start_of given bound) ≡ most → Begins (begin_answer full_day d at_first given bound greedy c) asks most
unfolding begun_answer
begins d given bound greedy c asks most e p q = rw (begin_is full_day d at_first given bound greedy c full_within e) (record { begun = refl; counted = p; most_is = q })

none_accepted : begin_number full_day search_day at_first [] nothing_cached ≡ 0
unfolding begin_number day_number late_number first_of has_bad_levels member_count some_below fold_to
none_accepted = refl

all_accepted : begin_number full_day levels_day at_first all_levels nothing_cached ≡ 0
unfolding begin_number day_number late_number first_of has_bad_levels member_count some_below fold_to
all_accepted = refl

pub all_begins : Begins begin_all 1 9
unfolding begun_step begun_levels next remembers start_of first_to fold_to
all_begins = begins levels_day all_levels 0 false nothing_cached 1 9 all_accepted refl digits_of_256

pub none_begins : Begins begin_none 0 0
unfolding begun_step begun_levels remembers start_of first_to fold_to
none_begins = begins search_day [] 0 false nothing_cached 0 0 none_accepted refl no_digits

pub greedy_begins : Begins (begin_greedy levels) 1 1
unfolding begun_step remembers fold_to
greedy_begins = begins search_day levels 0 true nothing_cached 1 1 search_accepted refl refl

pub greedy_none_begins : Begins (begin_greedy []) 1 1
unfolding begun_step remembers fold_to
greedy_none_begins = begins search_day [] 0 true nothing_cached 1 1 none_accepted refl refl

again : (bound most : ℕ) → most_asks false 5 (start_of levels bound) ≡ most → Begins (begin_again bound) 0 most
unfolding begun_answer
again bound most q =
    let r = sample_recalled bound in
    let e : begin_number full_day search_day at_first levels (run_of 0 answers).search.cached ≡ 0 = serves.accepted at_first levels same_day in
    record { begun = r.done; counted = r.asks; most_is = ap (λ (a : SearchAnswer). a.most_asks) (begin_is full_day search_day at_first levels bound false (run_of 0 answers).search.cached full_within e) ∙ q }

pub again_begins : Begins (begin_again 0) 0 3
unfolding start_of first_to fold_to
again_begins = again 0 3 digits_of_five

pub again_last_begins : Begins (begin_again 5) 0 1
unfolding start_of first_to fold_to
again_last_begins = again 5 1 digits_of_one
