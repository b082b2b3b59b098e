-- What build and update test, and what moves from one schedule to the next. Definitions only.
use Rattle.std.specs.Prelude.{ℕ, ◌≡◌, false, ◌||◌, List, length}
use Rattle.input_data.specs.Bytes.{wider}
use Rattle.input_data.specs.Checks.{first_of, day_number}
use Rattle.input_data.specs.declared.InputData.{InputData}
use Rattle.input_data.specs.declared.Limits.{Limits}
use Rattle.scheduling.specs.Handed.{not_schedule}
use Rattle.scheduling.specs.Schedule.{entry_at}
use Rattle.schedule_state.specs.Bytes.{not_state, state_in}
use Rattle.schedule_state.specs.Calls.{beside_lists, state_number, names_outside}
use Rattle.schedule_state.specs.State.{state_of}
use Rattle.schedule_state.specs.declared.AssignmentScheduleState.{AssignmentScheduleState}
use Rattle.slot_lists.specs.Walk.{carried}
use Rattle.input_data.specs.declared.checks.Beside.{Beside}

-- the state of the next schedule, and the lists by the walk
pub record StateCarried (l : Limits) (d : InputData) (last next before after : List ℕ) (st : AssignmentScheduleState) : Type 0 where
  pub gives : st ≡ state_of d next
  pub leaves : after ≡ carried l.choices (entry_at last) (entry_at next) d.choices before d.choices

-- the numbers of a build and of an update, once the day is read
abbrev pub build_tested : Limits → InputData → List ℕ → ℕ → ℕ
build_tested l d sch size = day_number l d (wider (not_schedule sch) (beside_lists l size false)) (first_of (names_outside d sch) 11 0)

abbrev pub update_beside : Limits → List ℕ → List ℕ → List ℕ → Beside
update_beside l st sch bytes = wider (not_state st || not_schedule sch) (beside_lists l (length bytes) false)

abbrev pub update_tested : Limits → InputData → List ℕ → List ℕ → List ℕ → ℕ
update_tested l d st sch bytes = state_number l d (state_in st) (update_beside l st sch bytes) (names_outside d sch) bytes
