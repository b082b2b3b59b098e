-- Laws of joins and tables. Assumes nothing.
use Prim.Native.Nat.{ℕ, zero, suc, ◌+◌, ◌-◌, ◌*◌, ◌<◌, ◌≤◌, min, zero-le}
use Rattle.std.specs.Prelude.{◌≡◌, Bool, true, false, List, [], ◌∷◌, ◌++◌, ltb, length, get_or, set, take, drop, replicate}
use Rattle.std.proofs.Math.Path.{refl}
use Rattle.std.proofs.Common.{sym, ap, ◌∙◌, le_of_eq, add-one, arith, length-set, lt-ltb, le-ltb, take_all, take-suc-set, ext_get_or, length-take-le, length-drop, get_or-take, get_or-drop, get_or-set_same, get_or-set_other}
use Rattle.std.proofs.Math.ListN.{length-append, get_or-append, get_or-eq_default}
use Rattle.std.proofs.lemmas.List.{length-replicate, get_or-replicate, get_or-append_right, get_or_at}
use Rattle.counting.specs.Fold.{fold_to, gate, sum_to, only_if, join_to, table_to}
use Rattle.counting.specs.FoldLaws.{fold_none, fold_suc, fold_more}
use Rattle.counting.specs.Sums.{sum_le, sum_const}
use Rattle.counting.specs.Tests.{eq_cases, lt_cases}

module _ {ℓ} {A : Type ℓ} where
  pub length_join : (n : ℕ) (f : ℕ → List A) → length (join_to n f) ≡ sum_to n (λ k. length (f k))
  unfolding fold_to
  length_join zero f = refl
  length_join (suc n) f = omega (arith, length-append (join_to n f) (f n), length_join n f)

  -- n lists of at most m elements each
  pub length_join_most : (n m : ℕ) (f : ℕ → List A) → ((k : ℕ) → length (f k) ≤ m) → length (join_to n f) ≤ n * m
  length_join_most n m f h = omega (arith, length_join n f, sum_le n (λ k. length (f k)) (λ k. m) (λ k l. h k), sum_const n m)

  -- n lists of at most m k elements each
  pub length_join_sum : (n : ℕ) (m : ℕ → ℕ) (f : ℕ → List A) → ((k : ℕ) → length (f k) ≤ m k) → length (join_to n f) ≤ sum_to n m
  length_join_sum n m f h = omega (arith, length_join n f, sum_le n (λ k. length (f k)) m (λ k l. h k))

  pub only_length : (b : Bool) (x : A) → length (only_if b (x ∷ [])) ≤ 1
  only_length true x = omega arith
  only_length false x = omega arith

  pub length_table : (n : ℕ) (f : ℕ → A) → length (table_to n f) ≡ n
  length_table n f = omega (arith, length_join n (λ k. f k ∷ []), sum_const n 1)

  pub table_more : (n : ℕ) (f : ℕ → A) → table_to (n + 1) f ≡ table_to n f ++ (f n ∷ [])
  table_more n f = fold_more ◌++◌ [] n (λ k. f k ∷ [])

  -- what stands at k of a table
  pub table_at : (n : ℕ) (f : ℕ → A) (d : A) (k : ℕ) → k < n → get_or (table_to n f) k d ≡ f k
  table_at zero f d k l = absurd (omega arith)
  table_at (suc n) f d k l = rw (fold_suc ◌++◌ [] n (λ k. f k ∷ [])) (eq_cases k n
      (λ e t. rw e (get_or_at (table_to n f) (f n) [] d n (length_table n f)))
      (λ e t. let h : k < length (table_to n f) = omega (arith, length_table n f) in
      get_or-append (table_to n f) (f n ∷ []) d k h ∙ table_at n f d k (omega arith)))

  -- an array of n elements that a loop fills from the front: the first i are f 0, f 1, ..
  pub record Filled (f : ℕ → A) (n i : ℕ) (l : List A) : Type ℓ where
    pub long : length l ≡ n
    pub front : take i l ≡ table_to i f

  pub filled_none : (f : ℕ → A) (n : ℕ) (l : List A) → length l ≡ n → Filled f n 0 l
  filled_none f n l e = record { long = e; front = sym (fold_none ◌++◌ [] (λ k. f k ∷ [])) }

  pub filled_more : {f : ℕ → A} {n i : ℕ} {l : List A} {x : A} → i < n → x ≡ f i → Filled f n i l → Filled f n (i + 1) (set l i x)
  filled_more {f = f} {n = n} {i = i} {l = l} {x = x} h e p =
      let b : i < length l = rw p.long h in
      record {
        long = length-set l i x ∙ p.long;
        front = rw (table_more, add-one i, take-suc-set l i x b, p.front, e);
      }

  pub filled_all : {f : ℕ → A} {n i : ℕ} {l : List A} → i ≡ n → Filled f n i l → l ≡ table_to n f
  filled_all {n = n} {l = l} e p = sym (take_all n l (le_of_eq p.long)) ∙ (rw e at p.front)

-- an array of n zeros that a loop fills from the front: the first i are f 0, f 1, .., the rest are zeros
pub record Padded (f : ℕ → ℕ) (n i : ℕ) (l : List ℕ) : Type 0 where
  pub long : length l ≡ n
  pub at : (k : ℕ) → get_or l k 0 ≡ gate (ltb k i) (f k)

zeros_at : (n k : ℕ) → get_or {A = ℕ} (replicate n 0) k 0 ≡ 0
zeros_at n k = lt_cases k n (λ h e. get_or-replicate {A = ℕ} n k 0 0 h) (λ h e. get_or-eq_default {A = ℕ} (replicate n 0) 0 {n = k} (omega (arith, length-replicate {A = ℕ} n 0)))

pub padded_none : (f : ℕ → ℕ) (n : ℕ) → Padded f n 0 (replicate n 0)
padded_none f n = record { long = length-replicate n 0; at = λ k. zeros_at n k ∙ ap (λ (b : Bool). gate b (f k)) (sym (le-ltb k 0 zero-le)) }

pub padded_more : {f : ℕ → ℕ} {n i : ℕ} {l : List ℕ} {x : ℕ} → i < n → x ≡ f i → Padded f n i l → Padded f n (i + 1) (set l i x)
padded_more {f = f} {n = n} {i = i} {l = l} {x = x} h e p = record {
  long = length-set l i x ∙ p.long;
  at = λ k. eq_cases k i
      (λ q t. rw (q, lt-ltb i (i + 1) (omega arith)) (get_or-set_same l i x 0 (omega (arith, p.long)) ∙ e))
      (λ q t. get_or-set_other l i k x 0 q ∙ p.at k ∙ ap (λ (b : Bool). gate b (f k)) (lt_cases k i (λ a u. u ∙ sym (lt-ltb k (i + 1) (omega arith))) (λ a u. u ∙ sym (le-ltb k (i + 1) (omega arith)))));
}

-- the first m of x, copied over an array of zeros
pub padded_front : (x : List ℕ) (n m : ℕ) → m ≤ length x → m ≤ n → Padded (λ k. get_or x k 0) n m (take m x ++ drop m (replicate n 0))
padded_front x n m h l =
    let e : length (take m x) ≡ m = length-take-le m x h in
    record {
      long = length-append (take m x) (drop m (replicate n 0)) ∙ omega (arith, length-drop m (replicate {A = ℕ} n 0), length-replicate {A = ℕ} n 0);
      at = λ k. lt_cases k m
          (λ a t. rw t (get_or-append (take m x) (drop m (replicate n 0)) 0 k (omega arith) ∙ get_or-take m x k 0 a))
          (λ a t. rw t (get_or-append_right (take m x) (drop m (replicate n 0)) m k 0 e a ∙ get_or-drop m (replicate n 0) (k - m) 0 ∙ zeros_at n _));
    }

-- all that are counted, and no more than there are
pub padded_all : {f : ℕ → ℕ} {n i : ℕ} {l : List ℕ} (m : ℕ) → i ≡ min m n → Padded f n i l → l ≡ table_to n (λ k. gate (ltb k m) (f k))
padded_all {f = f} {n = n} {i = i} {l = l} m e p = ext_get_or 0 l (table_to n (λ k. gate (ltb k m) (f k))) (p.long ∙ sym (length_table n (λ k. gate (ltb k m) (f k))))
    (λ k b. let h : k < n = omega (arith, p.long) in
    p.at k ∙ ap (λ (t : Bool). gate t (f k)) (lt_cases k i (λ a u. u ∙ sym (lt-ltb k m (omega arith))) (λ a u. u ∙ sym (le-ltb k m (omega arith)))) ∙ sym (table_at n (λ j. gate (ltb j m) (f j)) 0 k h))
