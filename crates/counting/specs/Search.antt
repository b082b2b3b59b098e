-- The first index at which a test passes. SPEC 2.17. Definitions only.
use Rattle.std.specs.Prelude.{ℕ, suc, Bool, cond, ltb}
use Rattle.counting.specs.Fold.{fold_to}

-- r is the first below k, or k where there is none: the first below k + 1
abbrev first_step : (ℕ → Bool) → ℕ → ℕ → ℕ
first_step f r k = cond (ltb r k) r (cond (f k) k (suc k))

-- the first k < n at which f holds, or n where there is none
unfoldable pub first_to : ℕ → (ℕ → Bool) → ℕ
unfolding fold_to
first_to n f = fold_to (first_step f) 0 n (λ k. k)
