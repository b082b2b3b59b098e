-- A list as a set: how often each number occurs in it. SPEC 2.17. Definitions only.
use Rattle.std.specs.Prelude.{ℕ, Bool, eqb}
use Rattle.counting.specs.Fold.{count_to}

abbrev pub is_of : (ℕ → ℕ) → ℕ → ℕ → Bool
is_of x k j = eqb (x j) k

-- how many of x 0 .. x (n - 1) are k
abbrev pub times : ℕ → (ℕ → ℕ) → ℕ → ℕ
times n x k = count_to n (is_of x k)
