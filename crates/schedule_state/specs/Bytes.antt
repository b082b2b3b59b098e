-- A state lent as bytes, and the AssignmentScheduleState that they stand for: SPEC 2.8. Definitions only.
use Rattle.std.specs.Prelude.{ℕ, ◌+◌, ◌*◌, ◌≡◌, Bool, List, length, take}
use Rattle.counting.specs.Fold.{table_to}
use Rattle.input_data.specs.Bytes.{not_long, word_at, flag_at}
use Rattle.schedule_state.specs.declared.AssignmentScheduleState.{AssignmentScheduleState}

-- 2 of a state's bytes
abbrev pub not_state : List ℕ → Bool
not_state b = not_long 2112 b

abbrev pub IsState : List ℕ → Type 0
IsState b = length b ≡ 2112

-- the fields of a state, by their places
abbrev pub covered_in : List ℕ → ℕ → ℕ
covered_in b s = word_at b (32 + 4 * s)

abbrev pub block_in : List ℕ → ℕ → Bool
block_in b p = flag_at b (64 + p)

unfoldable pub state_in : List ℕ → AssignmentScheduleState
state_in b = record { schedule = record { entries = take 32 b }; covered = table_to 8 (covered_in b); blocks = table_to 2048 (block_in b) }
