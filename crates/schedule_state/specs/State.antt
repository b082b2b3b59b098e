-- The state of a schedule, and check 12: SPEC 3.12, 3.23, 5.1 to 5.3, 5.12 to 5.14. Definitions only.
use Rattle.std.specs.Prelude.{ℕ, ◌/◌, ◌%◌, Bool, false, not, ◌&&◌, ◌||◌, List, eqb, get_or, replicate}
use Rattle.counting.specs.Fold.{any_to, table_to}
use Rattle.input_data.specs.Day.{min_at}
use Rattle.input_data.specs.declared.Limits.{Limits}
use Rattle.input_data.specs.declared.InputData.{InputData}
use Rattle.scheduling.specs.Handed.{kept_of}
use Rattle.scheduling.specs.Schedule.{entry_at}
use Rattle.slot_lists.specs.Held.{misheld}
use Rattle.slot_lists.specs.Sums.{weighed}
use Rattle.blocks.specs.Blocks.{blocked_by, cell}
use Rattle.schedule_state.specs.declared.AssignmentScheduleState.{AssignmentScheduleState}

-- covered: the sum of min over the choices that the schedule puts into slot s
abbrev pub covered_at : InputData → List ℕ → ℕ → ℕ
covered_at d sch s = weighed (min_at d) (entry_at sch) d.choices s

abbrev pub blocked_at : InputData → List ℕ → ℕ → ℕ → Bool
blocked_at d sch c k = blocked_by d.assignment sch c k

abbrev pub blocked_cell : InputData → List ℕ → ℕ → Bool
blocked_cell d sch p = blocked_at d sch (p / 32) (p % 32)

-- the state of a schedule, which has none past the day's choices
abbrev pub state_of : InputData → List ℕ → AssignmentScheduleState
state_of d sch = record {
  schedule = record { entries = sch };
  covered = table_to 8 (covered_at d sch);
  blocks = table_to 2048 (blocked_cell d sch);
}

-- the zeros beside a refusal
unfoldable pub zero_state : AssignmentScheduleState
zero_state = record { schedule = record { entries = replicate 32 0 }; covered = replicate 8 0; blocks = replicate 2048 false }

-- 12. A covered count is not the sum of the mins in that slot.
abbrev pub miscounted_at : (ℕ → ℕ) → List ℕ → ℕ → Bool
miscounted_at f covered s = not (eqb (get_or covered s 0) (f s))

unfoldable pub miscounted_in : (ℕ → ℕ) → ℕ → List ℕ → Bool
miscounted_in f slots covered = any_to slots (miscounted_at f covered)

abbrev pub miscounted : InputData → List ℕ → List ℕ → Bool
miscounted d sch covered = miscounted_in (covered_at d sch) d.slots covered

-- 12. The blocks are not those of the schedule.
abbrev pub unlike : Bool → Bool → Bool
unlike a b = (a && not b) || (not a && b)

-- place p of a table is blocked
abbrev pub is_blocked : List Bool → ℕ → Bool
is_blocked b p = get_or b p false

-- two tables differ at place p
abbrev pub unlike_at : List Bool → List Bool → ℕ → Bool
unlike_at a b p = unlike (get_or a p false) (get_or b p false)

abbrev pub misblocked_at : (ℕ → ℕ → Bool) → List Bool → ℕ → ℕ → Bool
misblocked_at f blocks c k = unlike (get_or blocks (cell c k) false) (f c k)

abbrev pub misblocked_row : (ℕ → ℕ → Bool) → ℕ → List Bool → ℕ → Bool
misblocked_row f choices blocks c = any_to choices (misblocked_at f blocks c)

unfoldable pub misblocked : (ℕ → ℕ → Bool) → ℕ → ℕ → List Bool → Bool
misblocked f choosers choices blocks = any_to choosers (misblocked_row f choices blocks)

-- what an array or a table holds, as a function
abbrev pub sums_of : List ℕ → ℕ → ℕ
sums_of a s = get_or a s 0

abbrev pub cells_of : List Bool → ℕ → ℕ → Bool
cells_of b c k = get_or b (cell c k) false

abbrev pub misblocked_in : InputData → List ℕ → List Bool → Bool
misblocked_in d sch blocks = misblocked (blocked_at d sch) d.choosers d.choices blocks

-- 12. The state is not consistent with its own schedule: what it says of lists, covered counts and blocks is not what follows from these.
abbrev pub inconsistent : Limits → InputData → AssignmentScheduleState → List ℕ → Bool
inconsistent l d st bytes =
    misheld l.choices (entry_at (kept_of d st.schedule)) d.choices d.slots bytes
    || miscounted d (kept_of d st.schedule) st.covered
    || misblocked_in d (kept_of d st.schedule) st.blocks
