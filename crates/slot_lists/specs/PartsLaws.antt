-- Laws of a slot's list that is read as a part of the lent buffer. Assumes nothing.
use Rattle.std.specs.Prelude.{ℕ, ◌*◌, ◌<◌, ◌≡◌, List, [], ◌++◌, length}
use Rattle.std.proofs.Common.{arith, ap, ◌∙◌}
use Rattle.counting.specs.Fold.{join_to}
use Rattle.counting.specs.FoldLaws.{fold_at, fold_ext}
use Rattle.scheduling.specs.Schedule.{entry_at}
use Rattle.slot_lists.specs.ListsLaws.{part_length, part_at}
use Rattle.slot_lists.specs.Parts.{list_length, list_entry, list_bytes, Listed}
use Rattle.slot_lists.specs.declared.lists.SlotLists.{SlotLists}

module _ {slots bound : ℕ} {l : SlotLists} (h : Listed slots bound l) {s : ℕ} (b : s < slots) {r : List ℕ} (e : r ≡ list_bytes l s) where
  pub list_long : length r ≡ list_length l s
  list_long = rw e (part_length (l.stride * s) (list_length l s) l.bytes.now (omega (arith, h.fits s b, h.part s b)))

  list_at : (j : ℕ) → j < list_length l s → entry_at r j ≡ list_entry l s j
  list_at j k = rw e (part_at (l.stride * s) (list_length l s) l.bytes.now j k)

  pub list_choices : (j : ℕ) → j < length r → entry_at r j < bound
  list_choices j k = let i : j < list_length l s = omega (arith, list_long) in rw (list_at j i) (h.choice s j b i)

  -- what is made of each of its choices, one after the other
  pub list_join : {A : Type 0} (f : ℕ → List A) → join_to (length r) (λ j. f (entry_at r j)) ≡ join_to (list_length l s) (λ j. f (list_entry l s j))
  list_join f =
      fold_at ◌++◌ [] (λ j. f (entry_at r j)) list_long
      ∙ fold_ext ◌++◌ [] (list_length l s) (λ j. f (entry_at r j)) (λ j. f (list_entry l s j)) (λ j k. ap f (list_at j k))
