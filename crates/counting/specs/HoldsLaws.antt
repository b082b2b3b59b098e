-- A list as a set: how often each number occurs in it. Order plays no part. Assumes nothing.
use Rattle.std.specs.Prelude.{ℕ, zero, suc, ◌+◌, ◌≤◌, ◌<◌, ◌≡◌, refl, Bool, true, false, ◌&&◌, ◌||◌, not, ◌≢◌, eqb, ltb}
use Rattle.std.proofs.Common.{sym, ap, ◌∙◌, arith, eqb-true, eq-eqb, ne_eqb, ltb-true}
use Rattle.std.proofs.Math.Bool.{or-false}
use Rattle.counting.specs.Fold.{gate, sum_to, count_to}
use Rattle.counting.specs.FoldLaws.{fold_none, fold_suc, fold_ext}
use Rattle.counting.specs.Tests.{eq_cases, bool_cases, eqb_sym, lt_cases}
use Rattle.counting.specs.Sums.{sum_at_le, sum_change, sum_swap, sum_only, sum_pick, sum_weigh, sum_most, sum_le, sum_const, sum_zeros, gate_mul, OneHot, one_hot}
use Rattle.counting.specs.Holds.{is_of, times}

-- x 0 .. x (n - 1) are the k that pass the test, once each
pub record Holds (n : ℕ) (x : ℕ → ℕ) (mem : ℕ → Bool) : Type 0 where
  pub once : (k : ℕ) → times n x k ≡ gate (mem k) 1

gate_at : (x : ℕ → ℕ) (k : ℕ) {i j : ℕ} → i ≡ j → gate (is_of x k i) 1 ≡ gate (is_of x k j) 1
gate_at x k e = ap (λ (j : ℕ). gate (is_of x k j) 1) e

gate_of : {a b : ℕ} (k : ℕ) → a ≡ b → gate (eqb a k) 1 ≡ gate (eqb b k) 1
gate_of k e = ap (λ (z : ℕ). gate (eqb z k) 1) e

gate_one : (b : Bool) → gate b 1 ≢ 0 → b ≡ true
gate_one true h = refl
gate_one false h = absurd (h refl)

pub times_ext : (n : ℕ) (x y : ℕ → ℕ) (k : ℕ) → ((j : ℕ) → j < n → x j ≡ y j) → times n x k ≡ times n y k
times_ext n x y k p = fold_ext ◌+◌ 0 n (λ j. gate (is_of x k j) 1) (λ j. gate (is_of y k j) 1) (λ j l. gate_of k (p j l))

pub holds_ext : {n : ℕ} {x y : ℕ → ℕ} {mem mem' : ℕ → Bool} → Holds n x mem → ((j : ℕ) → j < n → x j ≡ y j) → ((k : ℕ) → mem k ≡ mem' k) → Holds n y mem'
holds_ext {n = n} {x = x} {y = y} h p q = record { once = λ k. sym (times_ext n x y k p) ∙ h.once k ∙ ap (λ (b : Bool). gate b 1) (q k) }

pub holds_none : (x : ℕ → ℕ) (mem : ℕ → Bool) → ((k : ℕ) → mem k ≡ false) → Holds 0 x mem
holds_none x mem h = record { once = λ k. fold_none ◌+◌ 0 (λ j. gate (is_of x k j) 1) ∙ ap (λ (b : Bool). gate b 1) (sym (h k)) }

-- one more at the end, which was not there
pub holds_push : {n : ℕ} {x : ℕ → ℕ} {mem : ℕ → Bool} → Holds n x mem → mem (x n) ≡ false → Holds (suc n) x (λ k. mem k || eqb k (x n))
holds_push {n = n} {x = x} {mem = mem} h new = record {
  once = λ k.
      fold_suc ◌+◌ 0 n (λ j. gate (is_of x k j) 1) ∙ eq_cases k (x n)
      (λ p e. rw (e, eqb_sym (x n) k, e, p, new) (omega (arith, rw new at (h.once (x n)))))
      (λ p e. rw (e, eqb_sym (x n) k, e, or-false) (omega (arith, h.once k)));
}

drop_one : (a : ℕ) (m b : Bool) → a + gate b 1 ≡ gate m 1 → a ≡ gate (m && not b) 1
drop_one a true true e = omega arith
drop_one a true false e = omega arith
drop_one a false true e = omega arith
drop_one a false false e = omega arith

-- the last entry moved into place i, and the list one shorter
pub holds_remove : {n : ℕ} {x : ℕ → ℕ} {mem : ℕ → Bool} → Holds (suc n) x mem → (y : ℕ → ℕ) (i : ℕ) → i < suc n → y i ≡ x n → ((j : ℕ) → j < n → j ≢ i → y j ≡ x j) → Holds n y (λ k. mem k && not (eqb k (x i)))
holds_remove {n = n} {x = x} {mem = mem} h y i l last same = record {
  once = λ k.
      rw (eqb_sym k (x i)) (drop_one (times n y k) (mem k) (eqb (x i) k) (eq_cases i n
      (λ p e. omega (arith, h.once k, fold_suc ◌+◌ 0 n (λ j. gate (is_of x k j) 1), gate_at x k p, times_ext n y x k (λ j m. same j m (omega arith))))
      (λ p e. omega (
        arith,
        h.once k,
        fold_suc ◌+◌ 0 n (λ j. gate (is_of x k j) 1),
        gate_of k last,
        sum_change n (λ j. gate (is_of y k j) 1) (λ j. gate (is_of x k j) 1) i (omega arith) (λ j m d. gate_of k (same j m d)),
      ))));
}

-- what is listed is a member
pub holds_in : {n : ℕ} {x : ℕ → ℕ} {mem : ℕ → Bool} → Holds n x mem → (j : ℕ) → j < n → mem (x j) ≡ true
holds_in {n = n} {x = x} {mem = mem} h j l = gate_one (mem (x j)) (λ z. omega (arith, h.once (x j), sum_at_le n (λ i. gate (is_of x (x j) i) 1) j l, ap (λ (b : Bool). gate b 1) (eq-eqb (x j) (x j) refl)))

-- a member is listed
pub holds_has : {n : ℕ} {x : ℕ → ℕ} {mem : ℕ → Bool} → Holds n x mem → (k : ℕ) → mem k ≡ true → (j : ℕ) × (j < n) × (x j ≡ k)
holds_has {n = n} {x = x} h k m =
    let r : OneHot n (λ j. gate (is_of x k j) 1) = one_hot n (λ j. gate (is_of x k j) 1) (h.once k ∙ ap (λ (b : Bool). gate b 1) m) in
    (r.at, r.below, eqb-true (x r.at) k (gate_one (eqb (x r.at) k) (λ z. omega (arith, r.hot))))

-- the bridge: a sum over the places is a sum over the members
pub holds_sum : {n : ℕ} {x : ℕ → ℕ} {mem : ℕ → Bool} → Holds n x mem → (m : ℕ) → ((k : ℕ) → mem k ≡ true → k < m) → (f : ℕ → ℕ) → sum_to n (λ j. f (x j)) ≡ sum_to m (λ k. gate (mem k) (f k))
holds_sum {n = n} {x = x} {mem = mem} h m small f =
    fold_ext ◌+◌ 0 n (λ j. f (x j)) (λ j. sum_to m (λ k. gate (eqb k (x j)) (f k))) (λ j l. sym (sum_only m f (x j) (small (x j) (holds_in h j l))))
    ∙ sum_swap n m (λ j k. gate (eqb k (x j)) (f k))
    ∙ fold_ext ◌+◌ 0 m (λ k. sum_to n (λ j. gate (eqb k (x j)) (f k))) (λ k. gate (mem k) (f k)) (λ k l. simp (eqb_sym k) (sum_weigh n (is_of x k) (f k) ∙ rw (h.once k) (gate_mul (mem k) (f k))))

-- ---- where n numbers hold n members at least once each, they hold them once each, and nothing else

-- numbers below m are counted by their values
times_sum : (n m : ℕ) (x : ℕ → ℕ) → sum_to m (λ k. times n x k) ≡ count_to n (λ j. ltb (x j) m)
times_sum n m x = sum_swap m n (λ k j. gate (is_of x k j) 1)
    ∙ fold_ext ◌+◌ 0 n (λ j. sum_to m (λ k. gate (is_of x k j) 1)) (λ j. gate (ltb (x j) m) 1) (λ j l. simp (eqb_sym (x j)) (sum_pick m (λ k. 1) (x j)))

-- equal sums of numbers of which one is nowhere above the other
pub sum_tight : (n : ℕ) (f g : ℕ → ℕ) → ((k : ℕ) → k < n → f k ≤ g k) → sum_to n g ≤ sum_to n f → (k : ℕ) → k < n → f k ≡ g k
sum_tight zero f g h e k l = absurd (omega arith)
sum_tight (suc n) f g h e k l =
    let a : sum_to n f ≤ sum_to n g = sum_le n f g (λ j b. h j (omega arith)) in
    let b : f n ≤ g n = h n (omega arith) in
    let u = fold_suc ◌+◌ 0 n f in
    let v = fold_suc ◌+◌ 0 n g in
    eq_cases k n (λ p t. rw p (omega arith)) (λ p t. sum_tight n f g (λ j c. h j (omega arith)) (omega arith) k (omega arith))

gate_most : (b : Bool) → gate b 1 ≤ 1
gate_most true = omega arith
gate_most false = omega arith

module _ (n m : ℕ) (x : ℕ → ℕ) (mem : ℕ → Bool) (full : count_to m mem ≡ n) (each : (k : ℕ) → k < m → mem k ≡ true → 1 ≤ times n x k) where
  at_least : (k : ℕ) → k < m → gate (mem k) 1 ≤ times n x k
  at_least k l = bool_cases (mem k) (λ e. rw e (each k l e)) (λ e. rw e (omega arith))

  few : sum_to m (λ k. times n x k) ≤ n
  few = omega (arith, times_sum n m x, sum_most n 1 (λ j. gate (ltb (x j) m) 1) (λ j l. gate_most (ltb (x j) m)))

  pub once_each_lem : (k : ℕ) → k < m → times n x k ≡ gate (mem k) 1
  once_each_lem k l = sym (sum_tight m (λ j. gate (mem j) 1) (λ j. times n x j) at_least (omega (arith, few, full)) k l)

  -- every one of the n numbers is below m
  all_below : (j : ℕ) → j < n → ltb (x j) m ≡ true
  all_below j l = gate_one (ltb (x j) m) (λ z. omega (
    arith,
    sum_tight n (λ i. gate (ltb (x i) m) 1) (λ i. 1) (λ i b. gate_most (ltb (x i) m))
        (omega (arith, sum_const n 1, times_sum n m x, sum_le m (λ k. gate (mem k) 1) (λ k. times n x k) at_least, full)) j l,
  ))

  -- so they hold the members, where every member is below m
  pub holds_all : ((k : ℕ) → m ≤ k → mem k ≡ false) → Holds n x mem
  holds_all out = record {
    once = λ k. lt_cases k m
        (λ l e. once_each_lem k l)
        (λ l e. sum_zeros n (λ j. gate (is_of x k j) 1) (λ j b. ap (λ (t : Bool). gate t 1) (ne_eqb (x j) k (λ q. omega (arith, ltb-true (x j) m (all_below j b)))))
        ∙ ap (λ (t : Bool). gate t 1) (sym (out k l)));
  }
