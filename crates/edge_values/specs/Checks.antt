-- What checks 14 to 16 ask, groups as they stand one after the other, and the laws of the walks. Assumes nothing.
use Rattle.std.specs.Prelude.{ℕ, ◌+◌, ◌-◌, ◌<◌, ◌≤◌, ◌≡◌, refl, Bool, false, cond, not, ◌||◌, List, eqb, ℤ, pos, length, get_or, take, drop}
use Rattle.std.proofs.Common.{sym, ap, ◌∙◌, add-sub_cancel, arith, ne_eqb}
use Rattle.std.specs.Int.Signed.{lt_z, ◌≤ℤ◌}
use Rattle.std.proofs.lemmas.Int.{ints}
use Rattle.std.proofs.lemmas.Bool.{not-false}
use Rattle.std.proofs.lemmas.List.{get_or-take, length-take-le}
use Rattle.counting.specs.Fold.{any_to}
use Rattle.counting.specs.FoldLaws.{fold_none}
use Rattle.counting.specs.Signed.{eq_z_same, same_eq_z}
use Rattle.counting.specs.Tests.{bool_cases, never, or_split, none_each, each_none}
use Rattle.slot_lists.specs.ListsLaws.{part_length, part_at}
use Rattle.edge_values.specs.Values.{value_at, outside_at, some_outside, differ, differs_at, is_uneven}

-- 14 asks: the tables hold the edges, and no max is above 1,000
pub record Bounded (edges : ℕ) (maxs : List ℕ) (size : ℕ) : Type 0 where
  pub maxs_long : edges ≤ length maxs
  pub values_long : edges ≤ size
  pub light : (e : ℕ) → e < edges → get_or maxs e 0 ≤ 1000

-- 15 asks: the first n of a list name edges that have a value
pub record Naming (n : ℕ) (list : List ℕ) (size : ℕ) : Type 0 where
  pub long : n ≤ length list
  pub named : (i : ℕ) → i < n → get_or list i 0 < size

-- groups stand one after the other: group g begins where the one before it ends
unfoldable pub start_at : List ℕ → ℕ → ℕ
start_at ends g = cond (eqb g 0) 0 (get_or ends (g - 1) 0)

unfoldable pub part_of : List ℕ → List ℕ → ℕ → List ℕ
part_of entries ends g = take (get_or ends g 0 - start_at ends g) (drop (start_at ends g) entries)

abbrev pub uneven_part : List ℤ → List ℕ → List ℕ → ℕ → Bool
uneven_part vs entries ends g = is_uneven vs (part_of entries ends g)

-- 16 asks: groups that stand one after the other, of edges that have a value
pub record Grouped (groups : ℕ) (entries ends : List ℕ) (size : ℕ) : Type 0 where
  pub ends_long : groups ≤ length ends
  pub ascend : (g : ℕ) → g < groups → start_at ends g ≤ get_or ends g 0
  pub inside : (g : ℕ) → g < groups → get_or ends g 0 ≤ length entries
  pub named : (g i : ℕ) → g < groups → i < get_or ends g 0 → get_or entries i 0 < size

-- ---- laws

inside_of : (z : ℤ) (m n : ℕ) → m ≤ n → (lt_z z (pos 0) || lt_z (pos m) z) ≡ false → (pos 0 ≤ℤ z) × (z ≤ℤ pos n)
inside_of z m n h e = let p : (lt_z z (pos 0) ≡ false) × (lt_z (pos m) z ≡ false) = or_split e in (grind (arith, ints), grind (arith, ints))

-- 14 passed: each value is up to 1,000
pub inside_each : (edges : ℕ) (maxs : List ℕ) (vs : List ℤ) → some_outside edges maxs vs ≡ false → Bounded edges maxs (length vs) → (e : ℕ) → e < edges → (pos 0 ≤ℤ value_at vs e) × (value_at vs e ≤ℤ pos 1000)
unfolding some_outside
inside_each edges maxs vs h b e l = inside_of (value_at vs e) (get_or maxs e 0) 1000 (b.light e l) (none_each edges (outside_at maxs vs) h e l)

-- ---- a group whose edges all have the first one's value has one value

abbrev pub differs_first : List ℤ → List ℕ → ℕ → Bool
differs_first vs group i = differ vs group i 0

same_tests : (a b : Bool) → (a ≡ false → b ≡ false) → (b ≡ false → a ≡ false) → a ≡ b
same_tests a b p q = bool_cases a
    (λ s. bool_cases b (λ t. s ∙ sym t) (λ t. never (sym s ∙ q t)))
    (λ s. s ∙ sym (p s))

pub uneven_first : (vs : List ℤ) (group : List ℕ) → any_to (length group) (differs_first vs group) ≡ is_uneven vs group
unfolding is_uneven
uneven_first vs group =
    let n = length group in
    same_tests (any_to n (differs_first vs group)) (any_to n (differs_at vs group))
    (λ h. each_none n (differs_at vs group) (λ i k. each_none n (differ vs group i) (λ j m.
    ap not (eq_z_same _ _ (first h i k ∙ sym (first h j m))))))
    (λ h. each_none n (differs_first vs group) (λ i k. none_each n (differ vs group i) (none_each n (differs_at vs group) h i k) 0 (omega arith)))
  where
    first : any_to (length group) (differs_first vs group) ≡ false → (i : ℕ) → i < length group → value_at vs (get_or group i 0) ≡ value_at vs (get_or group 0 0)
    first h i k = same_eq_z _ _ (not-false _ (none_each (length group) (differs_first vs group) h i k))

-- an empty group has one value
pub uneven_empty : (vs : List ℤ) (group : List ℕ) → length group ≡ 0 → false ≡ is_uneven vs group
unfolding is_uneven
uneven_empty vs group e = sym (rw e (fold_none ◌||◌ false (differs_at vs group)))

-- ---- groups one after the other

pub start_none : (ends : List ℕ) → 0 ≡ start_at ends 0
unfolding start_at
start_none ends = refl

pub start_more : (ends : List ℕ) (g : ℕ) → get_or ends g 0 ≡ start_at ends (g + 1)
unfolding start_at
start_more ends g = rw (ne_eqb (g + 1) 0 (λ e. omega arith), add-sub_cancel)

-- the ends of the first groups, which a walk over them reads
pub end_is : {groups : ℕ} {entries ends : List ℕ} {size : ℕ} → Grouped groups entries ends size → (g : ℕ) → g < length (take groups ends) → (g < groups) × (get_or (take groups ends) g 0 ≡ get_or ends g 0)
end_is {groups = groups} {ends = ends} h g l =
    let b : g < groups = omega (arith, length-take-le groups ends h.ends_long) in
    (b, get_or-take groups ends g 0 b)

pub part_is : (entries ends : List ℕ) (g : ℕ) {a : ℕ} → a ≡ start_at ends g → take (get_or ends g 0 - a) (drop a entries) ≡ part_of entries ends g
unfolding part_of
part_is entries ends g e = rw e

-- the edges of a part have a value
pub part_named : {groups : ℕ} {entries ends : List ℕ} {size : ℕ} → Grouped groups entries ends size → (g : ℕ) → g < groups → (a : ℕ) → a ≡ start_at ends g
    → Naming (length (take (get_or ends g 0 - a) (drop a entries))) (take (get_or ends g 0 - a) (drop a entries)) size
part_named {entries = entries} {ends = ends} h g l a e = record {
  long = omega arith;
  named = λ i b.
      let n = get_or ends g 0 - a in
      let w : length (take n (drop a entries)) ≡ n = part_length a n entries (omega (arith, h.inside g l, h.ascend g l)) in
      rw (part_at a n entries i (omega arith)) (h.named g (a + i) l (omega arith));
}
