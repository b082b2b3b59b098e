-- A schedule by its entries: 0 is none, s + 1 is slot s. SPEC 1.4, 2.7, 2.12, 3.11. Definitions only.
use Rattle.std.specs.Prelude.{ℕ, zero, suc, Bool, List, ltb, get_or, Option, None, Some}
use Rattle.counting.specs.Fold.{gate, table_to, some_below}

-- the entry of choice k
abbrev pub entry_at : List ℕ → ℕ → ℕ
entry_at sch k = get_or sch k 0

-- by cases of an entry: what holds for none, and what for a slot
module _ {ℓ} {A : Type ℓ} where
  abbrev pub of_entry : ℕ → A → (ℕ → A) → A
  of_entry zero none slot = none
  of_entry (suc s) none slot = slot s

-- the slot that an entry names, if it names one
abbrev pub slot_in : ℕ → Option ℕ
slot_in e = of_entry e None Some

-- 11. a slot at or above the day's count, in an entry of the day's choices
abbrev pub bad_entry : ℕ → ℕ → Bool
bad_entry slots e = ltb slots e

abbrev pub bad_entry_at : ℕ → List ℕ → ℕ → Bool
bad_entry_at slots sch k = bad_entry slots (entry_at sch k)

abbrev pub bad_slots : ℕ → ℕ → List ℕ → Bool
bad_slots choices slots sch = some_below 32 choices (bad_entry_at slots sch)

-- an entry as it is handed back: none past the day's choices
abbrev pub kept_at : ℕ → List ℕ → ℕ → ℕ
kept_at choices sch k = gate (ltb k choices) (entry_at sch k)

abbrev pub kept : ℕ → List ℕ → List ℕ
kept choices sch = table_to 32 (kept_at choices sch)
