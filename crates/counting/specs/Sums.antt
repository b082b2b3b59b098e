-- Laws of bounded sums and counts. Assumes nothing.
use Rattle.std.specs.Prelude.{ℕ, zero, suc, ◌+◌, ◌*◌, ◌≤◌, ◌<◌, min, ◌≡◌, refl, Bool, true, false, ◌≢◌, eqb, ltb}
use Rattle.std.proofs.Common.{zero-le, sym, ap, ◌∙◌, le_antisymm, le_refl, suc-mul, mul-le-mul_right, arith, ne_eqb, lt-ltb}
use Rattle.counting.specs.Fold.{fold_to, gate, sum_to, count_to}
use Rattle.counting.specs.FoldLaws.{fold_none, fold_ext, fold_suc}
use Rattle.counting.specs.Tests.{eq_cases, lt_cases}

pub sum_zeros : (n : ℕ) (f : ℕ → ℕ) → ((k : ℕ) → k < n → f k ≡ 0) → sum_to n f ≡ 0
unfolding fold_to
sum_zeros zero f h = refl
sum_zeros (suc n) f h = omega (arith, sum_zeros n f (λ k l. h k (omega arith)), h n (omega arith))

pub sum_add : (n : ℕ) (f g : ℕ → ℕ) → sum_to n (λ k. f k + g k) ≡ sum_to n f + sum_to n g
unfolding fold_to
sum_add zero f g = refl
sum_add (suc n) f g = omega (arith, sum_add n f g)

pub sum_swap : (n m : ℕ) (f : ℕ → ℕ → ℕ) → sum_to n (λ i. sum_to m (λ j. f i j)) ≡ sum_to m (λ j. sum_to n (λ i. f i j))
unfolding fold_to
sum_swap zero m f = sym (sum_zeros m (λ j. 0) (λ k l. refl))
sum_swap (suc n) m f = omega (arith, sum_swap n m f, sum_add m (λ j. sum_to n (λ i. f i j)) (λ j. f n j))

pub sum_le : (n : ℕ) (f g : ℕ → ℕ) → ((k : ℕ) → k < n → f k ≤ g k) → sum_to n f ≤ sum_to n g
unfolding fold_to
sum_le zero f g h = omega arith
sum_le (suc n) f g h = omega (arith, sum_le n f g (λ k l. h k (omega arith)), h n (omega arith))

pub sum_const : (n a : ℕ) → sum_to n (λ k. a) ≡ n * a
unfolding fold_to
sum_const zero a = omega arith
sum_const (suc n) a = omega (arith, sum_const n a)

-- n summands of at most a each
pub sum_most : (n a : ℕ) (f : ℕ → ℕ) → ((k : ℕ) → k < n → f k ≤ a) → sum_to n f ≤ n * a
sum_most n a f h = omega (arith, sum_le n f (λ k. a) h, sum_const n a)

pub sum_gate : (n : ℕ) (b : Bool) (f : ℕ → ℕ) → sum_to n (λ k. gate b (f k)) ≡ gate b (sum_to n f)
sum_gate n true f = refl
sum_gate n false f = sum_zeros n (λ k. 0) (λ k l. refl)

pub sum_mono : (n m : ℕ) (f : ℕ → ℕ) → n ≤ m → sum_to n f ≤ sum_to m f
sum_mono n zero f h = rw (le_antisymm h (zero-le)) (le_refl (sum_to 0 f))
sum_mono n (suc m) f h = eq_cases n (suc m)
    (λ e t. rw e (le_refl (sum_to (suc m) f)))
    (λ e t. omega (arith, sum_mono n m f (omega arith), fold_suc ◌+◌ 0 m f))

pub sum_front : (n : ℕ) (f : ℕ → ℕ) → sum_to (suc n) f ≡ f 0 + sum_to n (λ i. f (suc i))
unfolding fold_to
sum_front zero f = omega arith
sum_front (suc n) f = omega (arith, sum_front n f)

-- one summand is at most the sum
pub sum_at_le : (n : ℕ) (f : ℕ → ℕ) (m : ℕ) → m < n → f m ≤ sum_to n f
unfolding fold_to
sum_at_le zero f m h = omega arith
sum_at_le (suc n) f m h = eq_cases m n
    (λ p e. omega (arith, ap f p))
    (λ p e. omega (arith, sum_at_le n f m (omega arith)))

-- a sum of 0 has summands of 0
pub zeros_of_sum : (n : ℕ) (f : ℕ → ℕ) → sum_to n f ≡ 0 → (k : ℕ) → k < n → f k ≡ 0
zeros_of_sum n f z k h = omega (arith, sum_at_le n f k h)

sum_past : (n : ℕ) (f : ℕ → ℕ) (m : ℕ) → n ≤ m → sum_to n (λ k. gate (eqb k m) (f k)) ≡ 0
sum_past n f m h = sum_zeros n (λ k. gate (eqb k m) (f k)) (λ k l. ap (λ (b : Bool). gate b (f k)) (ne_eqb k m (λ (e : k ≡ m). omega arith)))

-- a sum in which one index alone counts
pub sum_only : (n : ℕ) (f : ℕ → ℕ) (m : ℕ) → m < n → sum_to n (λ k. gate (eqb k m) (f k)) ≡ f m
unfolding fold_to
sum_only zero f m h = omega arith
sum_only (suc n) f m h = eq_cases n m
    (λ p e. rw e (omega (arith, sum_past n f m (omega arith), ap f p)))
    (λ p e. rw e (omega (arith, sum_only n f m (omega arith))))

pub sum_pick : (n : ℕ) (f : ℕ → ℕ) (m : ℕ) → sum_to n (λ k. gate (eqb k m) (f k)) ≡ gate (ltb m n) (f m)
sum_pick n f m = lt_cases m n (λ l t. rw t (sum_only n f m l)) (λ l t. rw t (sum_past n f m l))

-- one summand replaced
pub sum_change : (n : ℕ) (f g : ℕ → ℕ) (i : ℕ) → i < n → ((j : ℕ) → j < n → j ≢ i → f j ≡ g j) → sum_to n f + g i ≡ sum_to n g + f i
unfolding fold_to
sum_change zero f g i h p = omega arith
sum_change (suc n) f g i h p = eq_cases n i
    (λ e t. omega (arith, ap f e, ap g e, fold_ext ◌+◌ 0 n f g (λ j l. p j (omega arith) (omega arith))))
    (λ e t. omega (arith, sum_change n f g i (omega arith) (λ j l. p j (omega arith)), p n (omega arith) e))

pub gate_mul : (b : Bool) (a : ℕ) → gate b 1 * a ≡ gate b a
gate_mul true a = omega arith
gate_mul false a = omega arith

-- so many times a
pub sum_weigh : (n : ℕ) (f : ℕ → Bool) (a : ℕ) → sum_to n (λ j. gate (f j) a) ≡ count_to n f * a
unfolding fold_to
sum_weigh zero f a = omega arith
sum_weigh (suc n) f a = omega (arith, sum_weigh n f a, gate_mul (f n) a)

gate_le : (b : Bool) → gate b 1 ≤ 1
gate_le true = le_refl 1
gate_le false = zero-le

pub count_le : (n : ℕ) (f : ℕ → Bool) → count_to n f ≤ n
count_le n f = omega (arith, sum_most n 1 (λ k. gate (f k) 1) (λ k l. gate_le (f k)))

-- where one fails, fewer than n pass
pub count_lt : (n : ℕ) (f : ℕ → Bool) (k : ℕ) → k < n → f k ≡ false → count_to n f < n
unfolding fold_to
count_lt zero f k l e = absurd (omega arith)
count_lt (suc n) f k l e = eq_cases k n
    (λ p t. let z : f n ≡ false = rw p at e in rw z (omega (arith, count_le n f)))
    (λ p t. omega (arith, count_lt n f k (omega arith) e, gate_le (f n)))

-- a sum that is 1: one summand is 1, and every other is 0
pub record OneHot (n : ℕ) (f : ℕ → ℕ) : Type 0 where
  pub at : ℕ
  pub below : at < n
  pub hot : f at ≡ 1
  pub cold : (k : ℕ) → k < n → k ≢ at → f k ≡ 0

pub one_hot : (n : ℕ) (f : ℕ → ℕ) → sum_to n f ≡ 1 → OneHot n f
unfolding fold_to
one_hot zero f e = absurd (omega arith)
one_hot (suc n) f e = eq_cases (f n) 0
    (λ z t. let r : OneHot n f = one_hot n f (omega arith) in record {
      at = r.at;
      below = omega (arith, r.below);
      hot = r.hot;
      cold = λ k l d. eq_cases k n (λ p q. rw p z) (λ p q. r.cold k (omega arith) d);
    })
    (λ z t. record {
      at = n;
      below = omega arith;
      hot = omega arith;
      cold = λ k l d. zeros_of_sum n f (omega arith) k (omega arith);
    })

-- two indices at which a sum of 1 is not 0 are one
pub one_hot_same : (n : ℕ) (f : ℕ → ℕ) → sum_to n f ≡ 1 → (i j : ℕ) → i < n → j < n → f i ≢ 0 → f j ≢ 0 → i ≡ j
one_hot_same n f e i j hi hj p q =
    let r : OneHot n f = one_hot n f e in
    eq_cases i r.at
    (λ a b. eq_cases j r.at (λ a' b'. omega arith) (λ a' b'. absurd (q (r.cold j hj a'))))
    (λ a b. absurd (p (r.cold i hi a)))

-- the terms below n alone
pub sum_below : (m n : ℕ) (f : ℕ → ℕ) → n ≤ m → sum_to m (λ k. gate (ltb k n) (f k)) ≡ sum_to n f
sum_below zero n f h = let z : n ≡ 0 = omega arith in rw z (fold_none ◌+◌ 0 (λ k. gate (ltb k 0) (f k)) ∙ sym (fold_none ◌+◌ 0 f))
sum_below (suc m) n f h = lt_cases m n
    (λ b v. let z : n ≡ suc m = omega arith in rw z (fold_ext ◌+◌ 0 (suc m) (λ k. gate (ltb k (suc m)) (f k)) f (λ k c. ap (λ (t : Bool). gate t (f k)) (lt-ltb k (suc m) c))))
    (λ b v. fold_suc ◌+◌ 0 m (λ k. gate (ltb k n) (f k)) ∙ rw v (omega (arith, sum_below m n f b)))

-- as many terms as are counted, and no more than there are
pub sum_places : (most n : ℕ) (f : ℕ → ℕ) → sum_to (min n most) f ≡ sum_to most (λ k. gate (ltb k n) (f k))
sum_places most n f = lt_cases n most
    (λ h e. let m : min n most ≡ n = omega arith in ap (λ k. sum_to k f) m ∙ sym (sum_below most n f (omega arith)))
    (λ h e. let m : min n most ≡ most = omega arith in ap (λ k. sum_to k f) m ∙ fold_ext ◌+◌ 0 most f (λ k. gate (ltb k n) (f k)) (λ k l. ap (λ (t : Bool). gate t (f k)) (sym (lt-ltb k n (omega arith)))))

-- a place in a table of n rows of m
pub grid_lt : {n m a b : ℕ} → a < n → b < m → a * m + b < n * m
grid_lt {m = m} {a = a} h l = omega (arith, suc-mul a m, mul-le-mul_right m h)
