-- The numbers of begin and tell beside a day that is read, the rest lent as bytes. Definitions only.
use Rattle.std.specs.Prelude.{ℕ, ◌||◌, List, length}
use Rattle.input_data.specs.Checks.{first_of, day_number}
use Rattle.input_data.specs.declared.Limits.{Limits}
use Rattle.input_data.specs.declared.InputData.{InputData}
use Rattle.scheduling.specs.Handed.{schedule_of, not_schedule, outside}
use Rattle.preference_search.specs.Search.{Told}
use Rattle.preference_search.specs.Bytes.{not_cached, not_search, cached_in, search_in}
use Rattle.preference_search_checks.specs.Checks.{beside_levels, wrong_length, outside_cached, bad_cached, held_number}

unfoldable pub begin_read_number : Limits → InputData → List ℕ → List ℕ → List ℕ → ℕ
begin_read_number l d sch levels c =
    day_number l d (beside_levels d levels (not_schedule sch || not_cached c))
    (first_of (outside d (schedule_of sch) || outside_cached d (cached_in c)) 11
    (first_of (bad_cached d (cached_in c)) 13 0))

unfoldable pub tell_read_number : Limits → InputData → List ℕ → List ℕ → Told → ℕ
tell_read_number l d s levels t =
    day_number l d (beside_levels d levels (not_search s || wrong_length l t)) (held_number d (search_in s) (length levels) t)
