-- Binary digits: a number is below the power of two that they name, and they are what its leading zeros leave of 32. Assumes nothing.
use Rattle.std.specs.Prelude.{ℕ, zero, suc, ◌+◌, ◌-◌, ◌*◌, ◌^◌, ◌<◌, ◌≤◌, ◌≡◌, Bool, ltb}
use Rattle.std.specs.Int.Count.{count_leading_zeros}
use Rattle.std.proofs.Common.{sym, arith, lt-ltb, le-ltb}
use Rattle.std.proofs.Math.Nat.{two-pow-succ}
use Rattle.std.proofs.Math.Pow.{pow_mono}
use Rattle.std.proofs.lemmas.Bool.{ltb-true}
use Rattle.std.proofs.lemmas.Nat.{leading_length}
use Rattle.counting.specs.SearchLaws.{first_at, first_found, first_passes}
use Rattle.counting.specs.Tests.{lt_cases}
use Rattle.preference_search.specs.Search.{binary_digits}

below_power : (n : ℕ) → n < 2 ^ n
below_power zero = omega arith
below_power (suc n) = omega (arith, below_power n, two-pow-succ n)

-- a number is below the power that its digits name
pub digits_pass : (n : ℕ) → n < 2 ^ binary_digits n
unfolding binary_digits
digits_pass n =
    let f : ℕ → Bool = λ k. ltb n (2 ^ k) in
    ltb-true n _ (first_passes (n + 1) f (first_found (n + 1) f n (omega arith) (lt-ltb n (2 ^ n) (below_power n))))

-- a power above n whose half is not above n is the least above n
pub digits_are : (n m : ℕ) → n < 2 ^ m → 2 ^ m ≤ 2 * n + 1 → m ≡ binary_digits n
unfolding binary_digits
digits_are n m h g =
    let f : ℕ → Bool = λ k. ltb n (2 ^ k) in
    let lower : (k : ℕ) → k < m → 2 ^ k ≤ n = λ k l. omega (arith, two-pow-succ k, pow_mono l) in
    let few : m < n + 1 = lt_cases n m (λ l e. absurd (omega (arith, lower n l, below_power n))) (λ l e. omega arith) in
    first_at (n + 1) f m few (λ k l. le-ltb n (2 ^ k) (lower k l)) (lt-ltb n (2 ^ m) h)

pub no_digits : binary_digits 0 ≡ 0
no_digits = sym (digits_are 0 0 (omega arith) (omega arith))

-- the code's form
pub digits_leading : (n : ℕ) → n < 2 ^ 32 → 32 - count_leading_zeros 32 n ≡ binary_digits n
digits_leading n h =
    let p = leading_length 32 n h in
    omega (arith, p.1, digits_are n p.0 p.2 p.3)
