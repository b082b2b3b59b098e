-- A slot's list, as a part of the lent buffer. Definitions only.
use Rattle.std.specs.Prelude.{ℕ, ◌≡◌, false, List, Result, IfOk, leb, length}
use Rattle.std.specs.Borrow.{Bor}
use Rattle.refusal.specs.Number.{outcome}
use Rattle.refusal.specs.declared.Refusal.{Refusal}
use Rattle.input_data.specs.Bytes.{wider}
use Rattle.input_data.specs.declared.InputData.{InputData}
use Rattle.input_data.specs.declared.Limits.{Limits}
use Rattle.input_data.specs.declared.checks.Beside.{Beside}
use Rattle.schedule_state.specs.Bytes.{not_state, state_in}
use Rattle.schedule_state.specs.Calls.{beside_lists, state_number, slot_list_lent, HandsBack}
use Rattle.schedule_state.specs.Good.{Found}
use Rattle.slot_lists.specs.declared.SlotSums.{SlotSums}

-- the number, once the day is read
abbrev pub list_beside : Limits → InputData → List ℕ → ℕ → List ℕ → Beside
list_beside l d st slot bytes = wider (not_state st) (beside_lists l (length bytes) (leb d.slots slot))

abbrev pub list_tested : Limits → InputData → List ℕ → ℕ → List ℕ → ℕ
list_tested l d st slot bytes = state_number l d (state_in st) (list_beside l d st slot bytes) false bytes

-- .. with the sums of the state's schedule
abbrev pub ListFound : Limits → InputData → List ℕ → ℕ → List ℕ → Result SlotSums Refusal → Type 0
ListFound l d st slot bytes r = Found l d (state_in st) (list_beside l d st slot bytes) false bytes r

-- the number, and where the call is accepted the list
pub record Listed (l : Limits) (day st : List ℕ) (slot : ℕ) (x : Bor (List ℕ)) (r : Result (Bor (List ℕ)) Refusal) : Type 0 where
  pub number : outcome r ≡ slot_list_lent l day st slot x.now
  pub part : IfOk r (HandsBack l day st slot x)
