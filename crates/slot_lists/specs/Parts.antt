-- A slot's list as a part of the lent buffer: SPEC 5.4, 2.17. Definitions only.
use Rattle.std.specs.Prelude.{ℕ, ◌+◌, ◌*◌, ◌<◌, ◌≤◌, ◌≡◌, List, length, take, drop}
use Rattle.std.specs.Borrow.{Bor}
use Rattle.counting.specs.Fold.{sum_to}
use Rattle.scheduling.specs.Schedule.{entry_at}
use Rattle.slot_lists.specs.Lists.{listed}
use Rattle.slot_lists.specs.declared.lists.SlotLists.{SlotLists}

-- the length of a slot's list, and what stands in it
abbrev pub list_length : SlotLists → ℕ → ℕ
list_length l = entry_at l.lens

abbrev pub list_entry : SlotLists → ℕ → ℕ → ℕ
list_entry l = listed l.stride l.bytes.now

-- r is the part of a lent slice that starts at `at` and holds `bytes`
pub record PartOf (x : Bor (List ℕ)) (at : ℕ) (bytes : List ℕ) (r : Bor (List ℕ)) : Type 0 where
  pub block : r.ref_ptr.0 ≡ x.ref_ptr.0
  pub start : r.ref_ptr.1 ≡ x.ref_ptr.1 + at
  pub holds : r.now ≡ bytes

-- the bytes of a slot's list
abbrev pub list_bytes : SlotLists → ℕ → List ℕ
list_bytes l s = take (entry_at l.lens s) (drop (l.stride * s) l.bytes.now)

abbrev pub IsList : SlotLists → ℕ → Bor (List ℕ) → Type 0
IsList l s r = PartOf l.bytes (l.stride * s) (list_bytes l s) r

-- each slot's list is short enough for its part and names choices below a bound, which are as many at most
pub record Listed (slots bound : ℕ) (l : SlotLists) : Type 0 where
  pub most : slots ≤ 8
  pub fits : (s : ℕ) → s < slots → list_length l s ≤ l.stride
  pub part : (s : ℕ) → s < slots → l.stride * s + l.stride ≤ length l.bytes.now
  pub choice : (s j : ℕ) → s < slots → j < list_length l s → list_entry l s j < bound
  pub few : sum_to slots (list_length l) ≤ bound
