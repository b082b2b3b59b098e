-- What the calls begin and tell give, refused or done: SPEC 3.21, 9.1. Definitions only.
use Rattle.std.specs.Prelude.{ℕ, Bool, cond, List, eqb}
use Rattle.input_data.specs.Bytes.{day_of}
use Rattle.input_data.specs.declared.Limits.{Limits}
use Rattle.input_data.specs.declared.InputData.{InputData}
use Rattle.scheduling.specs.Handed.{schedule_of}
use Rattle.scheduling.specs.declared.Scheduling.{Scheduling}
use Rattle.preference_search.specs.Search.{Told}
use Rattle.preference_search.specs.Bytes.{cached_in, search_in}
use Rattle.preference_search.specs.Steps.{search_refused, begun_answer, told_answer}
use Rattle.preference_search.specs.declared.CachedAssignment.{CachedAssignment}
use Rattle.preference_search.specs.declared.Search.{Search}
use Rattle.preference_search.specs.declared.SearchAnswer.{SearchAnswer}
use Rattle.preference_search_checks.specs.Checks.{begin_number, tell_number, begin_lent_number, tell_lent_number}

abbrev pub search_answer_of : ℕ → SearchAnswer → SearchAnswer
search_answer_of n done = cond (eqb n 0) done (search_refused n)

unfoldable pub begin_answer : Limits → InputData → Scheduling → List ℕ → ℕ → Bool → CachedAssignment → SearchAnswer
begin_answer l d sch levels bound greedy c = search_answer_of (begin_number l d sch levels c) (begun_answer d sch levels bound greedy c)

unfoldable pub tell_answer : Limits → InputData → Search → List ℕ → Told → SearchAnswer
tell_answer l d s levels t = search_answer_of (tell_number l d s levels t) (told_answer d s levels t)

-- ---- on lent bytes

unfoldable pub begin_lent : Limits → List ℕ → List ℕ → List ℕ → ℕ → Bool → List ℕ → SearchAnswer
begin_lent l day sch levels bound greedy c = search_answer_of (begin_lent_number l day sch levels c) (begun_answer (day_of day) (schedule_of sch) levels bound greedy (cached_in c))

unfoldable pub tell_lent : Limits → List ℕ → List ℕ → List ℕ → Told → SearchAnswer
tell_lent l day s levels t = search_answer_of (tell_lent_number l day s levels t) (told_answer (day_of day) (search_in s) levels t)
