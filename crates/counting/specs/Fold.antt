-- What is made of f 0, f 1, .., f (n - 1): one recursion, and the names of its uses. SPEC 2.17. Definitions only.
use Rattle.std.specs.Prelude.{ℕ, zero, suc, ◌+◌, Bool, true, false, cond, ◌&&◌, ◌||◌, List, [], ◌∷◌, ◌++◌, ltb, ℤ, pos, ◌+ℤ◌}

module _ {ℓ ℓ'} {A : Type ℓ} {B : Type ℓ'} where
  -- start, then f 0 taken in, then f 1, .., then f (n - 1)
  unfoldable pub fold_to : (A → B → A) → A → ℕ → (ℕ → B) → A
  fold_to op start zero f = start
  fold_to op start (suc n) f = op (fold_to op start n f) (f n)

-- a number where a test holds, and 0 elsewhere
abbrev pub gate : Bool → ℕ → ℕ
gate b x = cond b x 0

-- f 0 + f 1 + .. + f (n - 1)
abbrev pub sum_to : ℕ → (ℕ → ℕ) → ℕ
sum_to n f = fold_to ◌+◌ 0 n f

-- the same of integers
abbrev pub sum_z : ℕ → (ℕ → ℤ) → ℤ
sum_z n f = fold_to ◌+ℤ◌ (pos 0) n f

-- how many k < n pass the test
abbrev pub count_to : ℕ → (ℕ → Bool) → ℕ
count_to n f = sum_to n (λ k. gate (f k) 1)

-- every k < n passes the test
abbrev pub all_to : ℕ → (ℕ → Bool) → Bool
all_to n f = fold_to ◌&&◌ true n f

-- some k < n passes the test
abbrev pub any_to : ℕ → (ℕ → Bool) → Bool
any_to n f = fold_to ◌||◌ false n f

module _ {ℓ} {A : Type ℓ} where
  -- a list where a test holds, and none elsewhere
  abbrev pub only_if : Bool → List A → List A
  only_if b l = cond b l []

  -- the lists f 0, f 1, .., one after the other
  abbrev pub join_to : ℕ → (ℕ → List A) → List A
  join_to n f = fold_to ◌++◌ [] n f

  -- the list f 0, f 1, .., f (n - 1)
  abbrev pub table_to : ℕ → (ℕ → A) → List A
  table_to n f = join_to n (λ k. f k ∷ [])

-- k is below n, and a test finds it at fault
abbrev pub fault_below : ℕ → (ℕ → Bool) → ℕ → Bool
fault_below n f k = ltb k n && f k

-- some k < n is at fault; of an array of `most` places no more than these are looked at
unfoldable pub some_below : ℕ → ℕ → (ℕ → Bool) → Bool
unfolding fold_to
some_below most n f = any_to most (fault_below n f)
