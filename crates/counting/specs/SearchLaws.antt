-- Laws of the first index at which a test passes. Assumes nothing.
use Rattle.std.specs.Prelude.{ℕ, zero, suc, ◌+◌, ◌-◌, ◌<◌, ◌≤◌, ◌≡◌, refl, Bool, true, false}
use Rattle.std.proofs.Common.{sym, subst, zero-add, suc-add, le_refl, arith, le-ltb, lt-ltb}
use Rattle.counting.specs.Tests.{bool_cases, eq_cases, lt_cases}
use Rattle.counting.specs.Search.{first_to}

-- only the indices below n are tested
pub first_ext : (n : ℕ) (f g : ℕ → Bool) → ((k : ℕ) → k < n → f k ≡ g k) → first_to n f ≡ first_to n g
unfolding first_to
first_ext zero f g h = refl
first_ext (suc n) f g h = rw (first_ext n f g (λ k l. h k (omega arith)), h n (omega arith))

nowhere : (f : ℕ → Bool) (n : ℕ) → ((k : ℕ) → k < n → f k ≡ false) → first_to n f ≡ n
unfolding first_to
nowhere f zero h = refl
nowhere f (suc n) h = rw (nowhere f n (λ k l. h k (omega arith)), le-ltb n n (le_refl n), h n (omega arith))

found_above : (f : ℕ → Bool) (i k : ℕ) → first_to i f ≡ i → f i ≡ true → first_to (k + suc i) f ≡ i
unfolding first_to
found_above f i zero p q = rw (zero-add, p, le-ltb i i (le_refl i), q)
found_above f i (suc k) p q = rw (suc-add, found_above f i k p q, lt-ltb i (k + suc i) (omega arith))

-- a search that counts up ends at n having found nothing
pub first_none : (n : ℕ) (f : ℕ → Bool) → ((k : ℕ) → k < n → f k ≡ false) → n ≡ first_to n f
first_none n f h = sym (nowhere f n h)

-- .. or at r, where the test passes for the first time
pub first_at : (n : ℕ) (f : ℕ → Bool) (r : ℕ) → r < n → ((k : ℕ) → k < r → f k ≡ false) → f r ≡ true → r ≡ first_to n f
first_at n f r l h e = sym (subst (λ m. first_to m f ≡ r) (omega arith) (found_above f r (n - suc r) (nowhere f r h) e))

pub first_most : (n : ℕ) (f : ℕ → Bool) → first_to n f ≤ n
unfolding first_to
first_most zero f = le_refl 0
first_most (suc n) f = lt_cases (first_to n f) n
    (λ l e. rw e (omega arith))
    (λ l e. rw e (bool_cases (f n) (λ t. rw t (omega arith)) (λ t. rw t (le_refl (suc n)))))

-- what is found passes
pub first_passes : (n : ℕ) (f : ℕ → Bool) → first_to n f < n → f (first_to n f) ≡ true
unfolding first_to
first_passes zero f h = absurd (omega arith)
first_passes (suc n) f h = lt_cases (first_to n f) n
    (λ l e. rw e (first_passes n f l))
    (λ l e. rw e (bool_cases (f n) (λ t. rw t t) (λ t. absurd (let z : suc n < suc n = rw (e, t) at h in omega arith))))

-- where one passes, one is found
pub first_found : (n : ℕ) (f : ℕ → Bool) (k : ℕ) → k < n → f k ≡ true → first_to n f < n
unfolding first_to
first_found zero f k l e = absurd (omega arith)
first_found (suc n) f k l e = lt_cases (first_to n f) n
    (λ b t. rw t (omega arith))
    (λ b t. rw t (eq_cases k n
    (λ p q. let g : f n ≡ true = rw p at e in rw g (omega arith))
    (λ p q. absurd (let z : first_to n f < n = first_found n f k (omega arith) e in omega arith))))
