-- Laws of entries. Assumes nothing.
use Rattle.std.specs.Prelude.{ℕ, zero, suc, ◌-◌, ◌<◌, ◌≤◌, ◌≡◌, refl, Bool, true, false, ◌≢◌, List, [], ◌∷◌, ◌++◌, ltb, Some}
use Rattle.std.proofs.Common.{ap, sym, ◌∙◌, arith, lt_of_lt_of_le, ltb-false, lt-ltb}
use Rattle.std.proofs.lemmas.Option.{none-some, same_Some}
use Rattle.counting.specs.Fold.{gate}
use Rattle.counting.specs.FoldLaws.{fold_ext}
use Rattle.counting.specs.Lists.{table_at}
use Rattle.counting.specs.Tests.{below_each}
use Rattle.scheduling.specs.Schedule.{entry_at, of_entry, slot_in, bad_entry_at, bad_slots, kept_at, kept}

-- by cases of an entry: what holds for none, and what for a slot
module _ {ℓ} {A : Type ℓ} where
  pub of_none : (e : ℕ) (none : A) (slot : ℕ → A) → e ≡ 0 → of_entry e none slot ≡ none
  of_none zero none slot q = refl
  of_none (suc s) none slot q = absurd (omega arith)

  pub of_slot_lem : (e : ℕ) (none : A) (slot : ℕ → A) → e ≢ 0 → of_entry e none slot ≡ slot (e - 1)
  of_slot_lem zero none slot q = absurd (q refl)
  of_slot_lem (suc s) none slot q = ap slot (omega arith)

-- the entry that names a slot
pub slot_entry : (e s : ℕ) → Some s ≡ slot_in e → e ≡ suc s
slot_entry zero s f = absurd (none-some s (sym f))
slot_entry (suc t) s f = sym (ap suc (same_Some s t f))

-- ---- laws

-- where 11 does not apply, each entry names one of the day's slots, or none
pub entries_fit : (choices slots : ℕ) (sch : List ℕ) → choices ≤ 32 → bad_slots choices slots sch ≡ false → (k : ℕ) → k < choices → entry_at sch k ≤ slots
entries_fit choices slots sch h e k l = ltb-false slots (entry_at sch k) (below_each 32 choices (bad_entry_at slots sch) h e k l)

-- what is handed back names the same slots
pub kept_at_lem : (choices : ℕ) (sch : List ℕ) (k : ℕ) → k < choices → choices ≤ 32 → entry_at (kept choices sch) k ≡ entry_at sch k
kept_at_lem choices sch k l h = table_at 32 (kept_at choices sch) 0 k (lt_of_lt_of_le l h) ∙ rw (lt-ltb k choices l)

-- what is handed back is handed back as it is
gate_twice : (b : Bool) (x : ℕ) → gate b (gate b x) ≡ gate b x
gate_twice true x = refl
gate_twice false x = refl

pub kept_twice : (n : ℕ) (sch : List ℕ) → kept n (kept n sch) ≡ kept n sch
kept_twice n sch = fold_ext ◌++◌ [] 32 (λ k. kept_at n (kept n sch) k ∷ []) (λ k. kept_at n sch k ∷ []) (λ k h. ap (λ (v : ℕ). v ∷ []) (ap (gate (ltb k n)) (table_at 32 (kept_at n sch) 0 k h) ∙ gate_twice (ltb k n) (entry_at sch k)))
