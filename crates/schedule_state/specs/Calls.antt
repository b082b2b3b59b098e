-- What the calls build, update and slot list give and leave: SPEC 3.2, 3.21, 3.24, 5.4 to 5.11, 5.15. Definitions only.
use Rattle.std.specs.Prelude.{ℕ, ◌*◌, ◌≡◌, Bool, false, cond, not, ◌&&◌, ◌||◌, List, eqb, ltb, leb, length, take, drop}
use Rattle.std.specs.Borrow.{Bor}
use Rattle.input_data.specs.Bytes.{day_of, lent_number}
use Rattle.input_data.specs.Checks.{first_of, day_number}
use Rattle.input_data.specs.Lengths.{lists_length}
use Rattle.input_data.specs.declared.Limits.{Limits}
use Rattle.input_data.specs.declared.InputData.{InputData}
use Rattle.input_data.specs.declared.checks.Beside.{Beside}
use Rattle.scheduling.specs.Handed.{schedule_of, not_schedule, outside, kept_of}
use Rattle.scheduling.specs.Schedule.{entry_at}
use Rattle.scheduling.specs.declared.Scheduling.{Scheduling}
use Rattle.slot_lists.specs.Parts.{PartOf}
use Rattle.slot_lists.specs.Sums.{one, weighed}
use Rattle.slot_lists.specs.Walk.{built, carried}
use Rattle.schedule_state.specs.Bytes.{not_state, state_in}
use Rattle.schedule_state.specs.State.{state_of, zero_state, inconsistent}
use Rattle.schedule_state.specs.declared.AssignmentScheduleState.{AssignmentScheduleState}
use Rattle.schedule_state.specs.declared.StateAnswer.{StateAnswer}
use Rattle.schedule_state.specs.declared.listing.SlotListAnswer.{SlotListAnswer}

-- what these calls test beside the day: the length of the slot lists, and a slot that they are asked about
abbrev pub beside_lists : Limits → ℕ → Bool → Beside
beside_lists l size asked = record { bad_lengths = ltb size (lists_length l); bad_preferences = false; bad_levels = false; bad_costs = false; bad_asked = asked }

-- ---- a fresh build

unfoldable pub build_number : Limits → InputData → Scheduling → ℕ → ℕ
build_number l d sch size = day_number l d (beside_lists l size false) (first_of (outside d sch) 11 0)

abbrev pub built_state : InputData → Scheduling → AssignmentScheduleState
built_state d sch = state_of d (kept_of d sch)

abbrev pub built_lists : Limits → InputData → Scheduling → List ℕ → List ℕ
built_lists l d sch bytes = built l.choices (entry_at (kept_of d sch)) d.choices bytes

-- ---- calls that are handed a state and its slot lists

-- `also`: another schedule that the call is handed names a slot that the day has not
unfoldable pub state_number : Limits → InputData → AssignmentScheduleState → Beside → Bool → List ℕ → ℕ
state_number l d st b also bytes =
    day_number l d b
    (first_of (also || outside d st.schedule) 11
    (first_of (inconsistent l d st bytes) 12 0))

-- ---- an update

abbrev pub update_number : Limits → InputData → AssignmentScheduleState → Scheduling → List ℕ → ℕ
update_number l d st sch bytes = state_number l d st (beside_lists l (length bytes) false) (outside d sch) bytes

-- the state is that of the new schedule, the lists are carried
abbrev pub updated_state : InputData → Scheduling → AssignmentScheduleState
updated_state d sch = state_of d (kept_of d sch)

abbrev pub updated_lists : Limits → InputData → AssignmentScheduleState → Scheduling → List ℕ → List ℕ
updated_lists l d st sch bytes = carried l.choices (entry_at (kept_of d st.schedule)) (entry_at (kept_of d sch)) d.choices bytes d.choices

-- ---- a slot's list

abbrev pub slot_list_number : Limits → InputData → AssignmentScheduleState → ℕ → List ℕ → ℕ
slot_list_number l d st slot bytes = state_number l d st (beside_lists l (length bytes) (leb d.slots slot)) false bytes

-- how many choices the state's schedule puts into the slot
abbrev pub slot_list_length : InputData → AssignmentScheduleState → ℕ → ℕ
slot_list_length d st slot = weighed one (entry_at (kept_of d st.schedule)) d.choices slot

-- the used front of the slot's part
abbrev pub slot_list_in : Limits → InputData → AssignmentScheduleState → ℕ → List ℕ → List ℕ
slot_list_in l d st slot bytes = take (slot_list_length d st slot) (drop (l.choices * slot) bytes)

-- ---- answers

abbrev pub state_answer : ℕ → AssignmentScheduleState → StateAnswer
state_answer n st = record { number = n; state = st }

abbrev pub state_refused : ℕ → StateAnswer
state_refused n = state_answer n zero_state

-- the number, and the state or zeros
abbrev pub state_answer_of : ℕ → AssignmentScheduleState → StateAnswer
state_answer_of n st = state_answer n (cond (eqb n 0) st zero_state)

-- what a call leaves that gives number n: the answer, and in the lent buffer what it makes, or what was there
pub record Leaves (n : ℕ) (st : AssignmentScheduleState) (made before after : List ℕ) (r : StateAnswer) : Type 0 where
  pub gives : r ≡ state_answer_of n st
  pub leaves : after ≡ cond (eqb n 0) made before

-- ---- the calls on bytes

-- 11 of a schedule that is lent, where it has its length
abbrev pub names_outside : InputData → List ℕ → Bool
names_outside d sch = not (not_schedule sch) && outside d (schedule_of sch)

-- what the calls on bytes give and leave, each as one promise
abbrev pub build_lent : Limits → List ℕ → List ℕ → ℕ → ℕ
build_lent l day sch size = lent_number l day (not_schedule sch) (build_number l (day_of day) (schedule_of sch) size)

abbrev pub Built : Limits → List ℕ → List ℕ → List ℕ → List ℕ → StateAnswer → Type 0
Built l day sch before after r =
    Leaves (build_lent l day sch (length before))
    (built_state (day_of day) (schedule_of sch)) (built_lists l (day_of day) (schedule_of sch) before) before after r

abbrev pub update_lent : Limits → List ℕ → List ℕ → List ℕ → List ℕ → ℕ
update_lent l day st sch bytes = lent_number l day (not_state st || not_schedule sch) (update_number l (day_of day) (state_in st) (schedule_of sch) bytes)

abbrev pub Updated : Limits → List ℕ → List ℕ → List ℕ → List ℕ → List ℕ → StateAnswer → Type 0
Updated l day st sch before after r =
    Leaves (update_lent l day st sch before)
    (updated_state (day_of day) (schedule_of sch)) (updated_lists l (day_of day) (state_in st) (schedule_of sch) before) before after r

-- a slot's list: the number, and where the list starts and how long it is, or zeros
abbrev pub slot_list_lent : Limits → List ℕ → List ℕ → ℕ → List ℕ → ℕ
slot_list_lent l day st slot bytes = lent_number l day (not_state st) (slot_list_number l (day_of day) (state_in st) slot bytes)

abbrev pub list_refused : ℕ → SlotListAnswer
list_refused n = record { number = n; start = 0; length = 0 }

abbrev pub list_found : Limits → InputData → AssignmentScheduleState → ℕ → SlotListAnswer
list_found l d st slot = record { number = 0; start = l.choices * slot; length = slot_list_length d st slot }

unfoldable pub slot_list_answer : Limits → List ℕ → List ℕ → ℕ → List ℕ → SlotListAnswer
slot_list_answer l day st slot bytes = cond (eqb (slot_list_lent l day st slot bytes) 0) (list_found l (day_of day) (state_in st) slot) (list_refused (slot_list_lent l day st slot bytes))

-- n elements of a lent slice from `at` on
abbrev pub PartAt : Bor (List ℕ) → ℕ → ℕ → Bor (List ℕ) → Type 0
PartAt x at n r = PartOf x at (take n (drop at x.now)) r

-- the list, which is empty where the call is refused
abbrev pub HandsBack : Limits → List ℕ → List ℕ → ℕ → Bor (List ℕ) → Bor (List ℕ) → Type 0
HandsBack l day st slot x r = PartAt x (slot_list_answer l day st slot x.now).start (slot_list_answer l day st slot x.now).length r
