-- Pairs of numbers in a list, once each: what stands at a pair, and sums over the places as sums over the pairs. Assumes nothing.
use Prim.Native.Nat.{ℕ, zero, suc, ◌+◌, ◌<◌}
use Rattle.std.specs.Prelude.{◌≡◌, Bool, ◌&&◌, eqb, length, get_or}
use Rattle.std.proofs.Math.Path.{refl, sym, ap, ap₂}
use Rattle.std.proofs.Common.{◌∙◌, add-zero, add-suc}
use Rattle.std.proofs.Math.Bool.{true, false}
use mathlib.Core.List.{List, [], ◌∷◌, ◌++◌}
use native.Mathlib.Omega.{arith}
use borrow.Author.Tests.{eqb-true, eq-eqb}
use Rattle.counting.specs.Fold.{fold_to, gate, sum_to, join_to, only_if}
use Rattle.counting.specs.FoldLaws.{fold_ext, fold_none}
use Rattle.counting.specs.Sums.{sum_zeros, sum_swap, sum_gate, sum_at_le, sum_only, sum_weigh, sum_front, gate_mul, OneHot, one_hot, one_hot_same}
use Rattle.counting.specs.Tests.{bool_cases, eqb_sym, and_split, never}

-- ---- gates

pub gate_one : (b : Bool) (x : ℕ) → gate b x ≡ 1 → b ≡ true
gate_one true x e = refl
gate_one false x e = absurd (omega arith)

pub gate_on : {b : Bool} (x : ℕ) → b ≡ true → gate b x ≡ x
gate_on x e = rw e

pub gate_off : {b : Bool} (x : ℕ) → b ≡ false → gate b x ≡ 0
gate_off x e = rw e

pub gate_nothing : (b : Bool) → gate b 0 ≡ 0
gate_nothing true = refl
gate_nothing false = refl

pub gate_and : (a b : Bool) (x : ℕ) → gate (a && b) x ≡ gate a (gate b x)
gate_and true b x = refl
gate_and false b x = refl

pub gate_comm : (a b : Bool) (x : ℕ) → gate a (gate b x) ≡ gate b (gate a x)
gate_comm true b x = refl
gate_comm false true x = refl
gate_comm false false x = refl

-- two tests that give the same number are the same
pub gate_same : (a b : Bool) → gate a 1 ≡ gate b 1 → a ≡ b
gate_same true true e = refl
gate_same true false e = absurd (omega arith)
gate_same false true e = absurd (omega arith)
gate_same false false e = refl

-- a number that counts only where a test holds is gated alike by tests that agree there
pub gate_alike : (m s t : Bool) (x : ℕ) → (m ≡ true → s ≡ t) → (m ≡ false → x ≡ 0) → gate s x ≡ gate t x
gate_alike true s t x p q = ap (λ (b : Bool). gate b x) (p refl)
gate_alike false true true x p q = refl
gate_alike false true false x p q = q refl
gate_alike false false true x p q = sym (q refl)
gate_alike false false false x p q = refl

pub and_join : {a b : Bool} → a ≡ true → b ≡ true → (a && b) ≡ true
and_join p q = rw (p, q)

pub bool_ext : (s t : Bool) → (s ≡ true → t ≡ true) → (t ≡ true → s ≡ true) → s ≡ t
bool_ext true true p q = refl
bool_ext true false p q = sym (p refl)
bool_ext false true p q = q refl
bool_ext false false p q = refl

-- a test of two numbers, by what it means
pub eqb_as : (x y : ℕ) (t : Bool) → (x ≡ y → t ≡ true) → (t ≡ true → x ≡ y) → eqb x y ≡ t
eqb_as x y t p q = bool_ext (eqb x y) t (λ e. p (eqb-true x y e)) (λ e. eq-eqb x y (q e))

-- ---- sums over two indices

pub sum_ext : (n : ℕ) (f g : ℕ → ℕ) → ((k : ℕ) → k < n → f k ≡ g k) → sum_to n f ≡ sum_to n g
sum_ext n f g h = fold_ext ◌+◌ 0 n f g h

pub sum_ext2 : (n m : ℕ) (f g : ℕ → ℕ → ℕ) → ((i j : ℕ) → i < n → j < m → f i j ≡ g i j) → sum_to n (λ i. sum_to m (λ j. f i j)) ≡ sum_to n (λ i. sum_to m (λ j. g i j))
sum_ext2 n m f g h = sum_ext n (λ i. sum_to m (λ j. f i j)) (λ i. sum_to m (λ j. g i j)) (λ i l. sum_ext m (λ j. f i j) (λ j. g i j) (λ j k. h i j l k))

-- the first n, then the other m
pub sum_split : (n m : ℕ) (f : ℕ → ℕ) → sum_to (n + m) f ≡ sum_to n f + sum_to m (λ i. f (n + i))
unfolding fold_to
sum_split n zero f = rw (add-zero n) (omega arith)
sum_split n (suc m) f = rw (add-suc n m) (omega (arith, sum_split n m f))

-- one row of a sum over pairs, and one column
pub row_sum : (n m : ℕ) (f : ℕ → ℕ → ℕ) (c : ℕ) (t : ℕ → Bool) → c < n → sum_to n (λ a. sum_to m (λ b. gate (eqb a c && t b) (f a b))) ≡ sum_to m (λ b. gate (t b) (f c b))
row_sum n m f c t h =
    sum_ext n (λ a. sum_to m (λ b. gate (eqb a c && t b) (f a b))) (λ a. gate (eqb a c) (sum_to m (λ b. gate (t b) (f a b)))) (λ a l.
    sum_ext m (λ b. gate (eqb a c && t b) (f a b)) (λ b. gate (eqb a c) (gate (t b) (f a b))) (λ b k. gate_and (eqb a c) (t b) (f a b))
    ∙ sum_gate m (eqb a c) (λ b. gate (t b) (f a b)))
    ∙ sum_only n (λ a. sum_to m (λ b. gate (t b) (f a b))) c h

pub col_sum : (n m : ℕ) (f : ℕ → ℕ → ℕ) (u : ℕ → Bool) (k : ℕ) → k < m → sum_to n (λ a. sum_to m (λ b. gate (u a && eqb b k) (f a b))) ≡ sum_to n (λ a. gate (u a) (f a k))
col_sum n m f u k h =
    sum_ext n (λ a. sum_to m (λ b. gate (u a && eqb b k) (f a b))) (λ a. gate (u a) (f a k)) (λ a l.
    sum_ext m (λ b. gate (u a && eqb b k) (f a b)) (λ b. gate (u a) (gate (eqb b k) (f a b))) (λ b j. gate_and (u a) (eqb b k) (f a b))
    ∙ sum_gate m (u a) (λ b. gate (eqb b k) (f a b)) ∙ ap (λ (x : ℕ). gate (u a) x) (sum_only m (λ b. f a b) k h))

-- ---- pairs

abbrev pub pair_eq : ℕ → ℕ → ℕ → ℕ → Bool
pair_eq x y a b = eqb x a && eqb y b

pub pair_refl : (a b : ℕ) → pair_eq a b a b ≡ true
pair_refl a b = rw (eq-eqb a a refl, eq-eqb b b refl)

pub pair_true : (x y a b : ℕ) → pair_eq x y a b ≡ true → (x ≡ a) × (y ≡ b)
pair_true x y a b e = let r : (eqb x a ≡ true) × (eqb y b ≡ true) = and_split e in (eqb-true x a r.0, eqb-true y b r.1)

pub pair_sym : (x y a b : ℕ) → pair_eq x y a b ≡ pair_eq a b x y
pair_sym x y a b = ap₂ ◌&&◌ (eqb_sym x a) (eqb_sym y b)

-- a sum over two indices in which one pair alone counts
pub sum_pair : (n m : ℕ) (f : ℕ → ℕ → ℕ) (a b : ℕ) → a < n → b < m → sum_to n (λ i. sum_to m (λ j. gate (pair_eq i j a b) (f i j))) ≡ f a b
sum_pair n m f a b ha hb = row_sum n m f a (λ j. eqb j b) ha ∙ sum_only m (λ j. f a j) b hb

-- (x 0, y 0) .. (x (n - 1), y (n - 1)) are the pairs that pass the test, once each
pub record Pairs (n : ℕ) (x y : ℕ → ℕ) (mem : ℕ → ℕ → Bool) : Type 0 where
  pub once : (a b : ℕ) → sum_to n (λ i. gate (pair_eq (x i) (y i) a b) 1) ≡ gate (mem a b) 1

-- the value that stands at a pair
unfoldable pub value : ℕ → (ℕ → ℕ) → (ℕ → ℕ) → (ℕ → ℕ) → ℕ → ℕ → ℕ
value n x y v a b = sum_to n (λ i. gate (pair_eq (x i) (y i) a b) (v i))

pub value_ext : (n : ℕ) (x y v w : ℕ → ℕ) → ((i : ℕ) → i < n → v i ≡ w i) → (a b : ℕ) → value n x y v a b ≡ value n x y w a b
unfolding value
value_ext n x y v w h a b = sum_ext n (λ i. gate (pair_eq (x i) (y i) a b) (v i)) (λ i. gate (pair_eq (x i) (y i) a b) (w i)) (λ i l. ap (λ (z : ℕ). gate (pair_eq (x i) (y i) a b) z) (h i l))

module _ {n : ℕ} {x y : ℕ → ℕ} {mem : ℕ → ℕ → Bool} (h : Pairs n x y mem) where
  -- what is listed passes the test ..
  pub pairs_in : (i : ℕ) → i < n → mem (x i) (y i) ≡ true
  pairs_in i l = bool_cases (mem (x i) (y i)) (λ e. e) (λ e. absurd (omega (
    arith,
    h.once (x i) (y i),
    sum_at_le n (λ j. gate (pair_eq (x j) (y j) (x i) (y i)) 1) i l,
    gate_on 1 (pair_refl (x i) (y i)),
    gate_off 1 e,
  )))

  -- .. what passes it is listed ..
  pub pairs_has : (a b : ℕ) → mem a b ≡ true → (i : ℕ) × (i < n) × (x i ≡ a) × (y i ≡ b)
  pairs_has a b m =
      let r : OneHot n (λ i. gate (pair_eq (x i) (y i) a b) 1) = one_hot n (λ i. gate (pair_eq (x i) (y i) a b) 1) (h.once a b ∙ gate_on 1 m) in
      let e = pair_true (x r.at) (y r.at) a b (gate_one (pair_eq (x r.at) (y r.at) a b) 1 r.hot) in
      (r.at, r.below, e.0, e.1)

  -- .. and once
  pub pairs_same : (i j : ℕ) → i < n → j < n → x i ≡ x j → y i ≡ y j → i ≡ j
  pairs_same i j li lj p q =
      one_hot_same n (λ a. gate (pair_eq (x a) (y a) (x j) (y j)) 1) (h.once (x j) (y j) ∙ gate_on 1 (pairs_in j lj)) i j li lj
      (λ z. omega (arith, gate_on 1 (and_join (eq-eqb (x i) (x j) p) (eq-eqb (y i) (y j) q))))
      (λ z. omega (arith, gate_on 1 (pair_refl (x j) (y j))))

  -- the value at a pair is that of its place
  pub value_at_lem : (v : ℕ → ℕ) (i : ℕ) → i < n → value n x y v (x i) (y i) ≡ v i
  unfolding value
  value_at_lem v i l =
      sum_ext n (λ j. gate (pair_eq (x j) (y j) (x i) (y i)) (v j)) (λ j. gate (eqb j i) (v j)) (λ j m.
      ap (λ (t : Bool). gate t (v j)) (bool_ext (pair_eq (x j) (y j) (x i) (y i)) (eqb j i)
      (λ t. let r = pair_true (x j) (y j) (x i) (y i) t in eq-eqb j i (pairs_same j i m l r.0 r.1))
      (λ t. rw (eqb-true j i t) (pair_refl (x i) (y i)))))
      ∙ sum_only n v i l

  -- a pair that is not there has the value 0
  pub value_off : (v : ℕ → ℕ) (a b : ℕ) → mem a b ≡ false → value n x y v a b ≡ 0
  unfolding value
  value_off v a b e = sum_zeros n (λ i. gate (pair_eq (x i) (y i) a b) (v i)) (λ i l.
      bool_cases (pair_eq (x i) (y i) a b)
      (λ t. let r = pair_true (x i) (y i) a b t in never (sym (pairs_in i l) ∙ ap₂ mem r.0 r.1 ∙ e))
      (λ t. gate_off (v i) t))

  -- values given by the pair are read back
  pub value_of : (f : ℕ → ℕ → ℕ) (a b : ℕ) → value n x y (λ i. f (x i) (y i)) a b ≡ gate (mem a b) (f a b)
  unfolding value
  value_of f a b =
      sum_ext n (λ i. gate (pair_eq (x i) (y i) a b) (f (x i) (y i))) (λ i. gate (pair_eq (x i) (y i) a b) (f a b)) (λ i l.
      bool_cases (pair_eq (x i) (y i) a b)
      (λ t. let r = pair_true (x i) (y i) a b t in rw t (ap₂ f r.0 r.1))
      (λ t. rw t))
      ∙ sum_weigh n (λ i. pair_eq (x i) (y i) a b) (f a b) ∙ rw (h.once a b) (gate_mul (mem a b) (f a b))

  -- the bridge: a sum over the places is a sum over the pairs
  pub value_sum : (p q : ℕ) → ((a b : ℕ) → mem a b ≡ true → (a < p) × (b < q)) → (v : ℕ → ℕ) (w : ℕ → ℕ → Bool)
      → sum_to n (λ i. gate (w (x i) (y i)) (v i)) ≡ sum_to p (λ a. sum_to q (λ b. gate (w a b) (value n x y v a b)))
  unfolding value
  value_sum p q small v w =
      sum_ext n (λ i. gate (w (x i) (y i)) (v i)) (λ i. sum_to p (λ a. sum_to q (λ b. gate (pair_eq a b (x i) (y i)) (gate (w a b) (v i))))) (λ i l.
      let r = small (x i) (y i) (pairs_in i l) in sym (sum_pair p q (λ a b. gate (w a b) (v i)) (x i) (y i) r.0 r.1))
      ∙ sum_swap n p (λ i a. sum_to q (λ b. gate (pair_eq a b (x i) (y i)) (gate (w a b) (v i))))
      ∙ sum_ext p (λ a. sum_to n (λ i. sum_to q (λ b. gate (pair_eq a b (x i) (y i)) (gate (w a b) (v i))))) (λ a. sum_to q (λ b. gate (w a b) (sum_to n (λ i. gate (pair_eq (x i) (y i) a b) (v i))))) (λ a la.
      sum_swap n q (λ i b. gate (pair_eq a b (x i) (y i)) (gate (w a b) (v i)))
      ∙ sum_ext q (λ b. sum_to n (λ i. gate (pair_eq a b (x i) (y i)) (gate (w a b) (v i)))) (λ b. gate (w a b) (sum_to n (λ i. gate (pair_eq (x i) (y i) a b) (v i)))) (λ b lb.
      sum_ext n (λ i. gate (pair_eq a b (x i) (y i)) (gate (w a b) (v i))) (λ i. gate (w a b) (gate (pair_eq (x i) (y i) a b) (v i))) (λ i li.
      rw (pair_sym a b (x i) (y i)) (gate_comm (pair_eq (x i) (y i) a b) (w a b) (v i)))
      ∙ sum_gate n (w a b) (λ i. gate (pair_eq (x i) (y i) a b) (v i))))

-- ---- sums over a list

module _ {A : Type 0} where
  unfoldable pub total : (A → ℕ) → List A → ℕ
  total f [] = 0
  total f (a ∷ l) = f a + total f l

  pub total_append : (f : A → ℕ) (s t : List A) → total f (s ++ t) ≡ total f s + total f t
  unfolding total
  total_append f [] t = omega arith
  total_append f (a ∷ s) t = omega (arith, total_append f s t)

  pub total_join : (f : A → ℕ) (n : ℕ) (g : ℕ → List A) → total f (join_to n g) ≡ sum_to n (λ i. total f (g i))
  unfolding total fold_to
  total_join f zero g = refl
  total_join f (suc n) g = omega (arith, total_append f (join_to n g) (g n), total_join f n g)

  pub total_only : (f : A → ℕ) (b : Bool) (a : A) → total f (only_if b (a ∷ [])) ≡ gate b (f a)
  unfolding total
  total_only f true a = omega arith
  total_only f false a = refl

  pub total_at : (f : A → ℕ) (d : A) (l : List A) → total f l ≡ sum_to (length l) (λ i. f (get_or l i d))
  unfolding total
  total_at f d [] = sym (fold_none ◌+◌ 0 (λ i. f d))
  total_at f d (a ∷ l) = omega (arith, total_at f d l, sum_front (length l) (λ i. f (get_or (a ∷ l) i d)))
