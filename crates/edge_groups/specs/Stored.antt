-- Laws of stored lists of named edges: one after the other, and one list edge by edge. Assumes nothing.
use Rattle.std.specs.Prelude.{ℕ, zero, suc, ◌+◌, ◌≡◌, Bool, true, false, ◌&&◌, ltb}
use Rattle.std.proofs.Common.{add-zero, add_assoc, arith, ◌∙◌, length-append}
use Rattle.std.proofs.Math.Path.{refl, sym, ap}
use mathlib.Core.List.{List, [], ◌∷◌, ◌++◌, append_assoc, append-nil}
use Rattle.std.proofs.Math.ListN.{length}
use Rattle.counting.specs.Fold.{only_if, all_to, join_to}
use Rattle.counting.specs.FoldLaws.{fold_none, fold_suc, fold_more}
use Rattle.counting.specs.Tests.{never}
use Rattle.counting.specs.Written.{written}
use Rattle.counting.specs.WrittenLaws.{written_append}
use Rattle.model_buffers.specs.Stored.{Filled, holding, group_closed, groups_with}
use Rattle.model_buffers.specs.declared.groups.Groups.{Groups}
use Rattle.edge_groups.specs.Groups.{each, all_there, present, flat, ends_from, store_groups}

-- ---- what is made of each element

module _ {A B : Type 0} (f : A → List B) where
  pub each_append : (xs ys : List A) → each f (xs ++ ys) ≡ each f xs ++ each f ys
  unfolding each
  each_append [] ys = refl
  each_append (x ∷ xs) ys = ap (λ l. f x ++ l) (each_append xs ys) ∙ sym (append_assoc (f x) (each f xs) (each f ys))

pub ends_append : (m : ℕ) (xs ys : List (List ℕ)) → ends_from m (xs ++ ys) ≡ ends_from m xs ++ ends_from (m + length (flat xs)) ys
unfolding each ends_from
ends_append m [] ys = rw add-zero
ends_append m (x ∷ xs) ys = ap (λ l. (m + length x) ∷ l) (ends_append (m + length x) xs ys ∙ ap (λ k. ends_from (m + length x) xs ++ ends_from k ys) (omega (arith, length-append x (flat xs))))

pub ends_length : (m : ℕ) (xs : List (List ℕ)) → length (ends_from m xs) ≡ length xs
unfolding ends_from
ends_length m [] = refl
ends_length m (x ∷ xs) = ap suc (ends_length (m + length x) xs)

-- ---- lists of named edges, one after the other

pub groups_none : (n : ℕ) (g : Groups) → store_groups n g [] ≡ g
unfolding store_groups each ends_from written
groups_none n g = simp add-zero

pub groups_append : (n : ℕ) (g : Groups) (ls ms : List (List ℕ)) → store_groups n g (ls ++ ms) ≡ store_groups n (store_groups n g ls) ms
unfolding store_groups
groups_append n g ls ms = simp (each_append, ends_append, ends_length, written_append, length-append, add_assoc)

-- how one run of stores follows another
pub ruleset groups_laws = (fold_none, fold_more, groups_none, groups_append)

-- they are stored in the same buffers
pub groups_same : (n : ℕ) (g : Groups) (ls : List (List ℕ)) {g' : Groups} → g' ≡ store_groups n g ls → g' ≡ groups_with g g'
unfolding store_groups
groups_same n g ls p = rw p refl

pub groups_same_then : (n : ℕ) (g g' : Groups) (ls ms : List (List ℕ)) {g'' : Groups} → g' ≡ store_groups n g ls → g'' ≡ store_groups n g' ms → g'' ≡ groups_with g g''
groups_same_then n g g' ls ms p q = groups_same n g (ls ++ ms) (q ∙ rw p (sym (groups_append n g ls ms)))

-- ---- one list, edge by edge

pub there_append : (n : ℕ) (xs ys : List ℕ) → all_there n (xs ++ ys) ≡ (all_there n xs && all_there n ys)
unfolding all_there
there_append n [] ys = refl
there_append n (x ∷ xs) ys = rw (there_append n xs ys) (and_assoc (ltb x n) (all_there n xs) (all_there n ys))
  where
    and_assoc : (a b c : Bool) → (a && (b && c)) ≡ ((a && b) && c)
    and_assoc true b c = refl
    and_assoc false b c = refl

-- where all are there, those that are there are all
present_step : (t : Bool) (a : ℕ) (l p : List ℕ) (r : Bool) → (r ≡ true → p ≡ l) → (t && r) ≡ true → only_if t (a ∷ []) ++ p ≡ a ∷ l
present_step true a l p r h e = ap (λ q. a ∷ q) (h e)
present_step false a l p r h e = never (sym e)

pub present_all : (n : ℕ) (l : List ℕ) → all_there n l ≡ true → present n l ≡ l
unfolding all_there each
present_all n [] e = refl
present_all n (a ∷ l) e = present_step (ltb a n) a l (present n l) (all_there n l) (present_all n l) e

-- the edges of f 0, f 1, .. are there if those of each are
module _ (n : ℕ) (f : ℕ → List ℕ) where
  pub there_each : (m : ℕ) → all_to m (λ i. all_there n (f i)) ≡ all_there n (join_to m f)
  unfolding all_there
  there_each zero = fold_none ◌&&◌ true (λ i. all_there n (f i)) ∙ rw (fold_none ◌++◌ [] f)
  there_each (suc m) = rw (fold_suc ◌&&◌ true m (λ i. all_there n (f i)), there_each m, fold_suc ◌++◌ [] m f, there_append)

-- those of a list that are there were stored, as a group or as blocked
module _ (n : ℕ) (g : Groups) (l : List ℕ) {b : List ℕ} {u : ℕ} where
  pub stored_group : all_there n l ≡ true → Filled g.entries.now g.entries_used (present n l) b u → group_closed (record g { entries = holding g.entries b; entries_used = u }) ≡ store_groups n g (l ∷ [])
  unfolding store_groups each ends_from written
  stored_group t a = rw (a.buffer, a.used, present_all n l t, t) (simp (append-nil, add-zero))

  pub stored_blocked : all_there n l ≡ false → Filled g.blocked.now g.blocked_used (present n l) b u → record g { blocked = holding g.blocked b; blocked_used = u } ≡ store_groups n g (l ∷ [])
  unfolding store_groups each ends_from written
  stored_blocked t a = rw (a.buffer, a.used, t) (simp (append-nil, add-zero))
