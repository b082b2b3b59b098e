-- Definitions on the day that bytes stand for, read off the bytes. Assumes nothing.
use Rattle.std.specs.Prelude.{ℕ, ◌+◌, ◌*◌, ◌^◌, ◌<◌, ◌≤◌, ◌≡◌, List, Bool, get_or, length, ◌≢◌}
use Rattle.std.proofs.Math.Path.{refl}
use Rattle.std.proofs.Common.{arith, eqb-true, eq-eqb, ne_eqb, mul-le-mul}
use Rattle.std.proofs.Math.Bool.{false}
use Rattle.counting.specs.Lists.{table_at}
use Rattle.input_data.specs.Day.{min_at, max_at, optional_at, numbers_at, no_numbers}
use Rattle.std.proofs.lemmas.Bool.{not-false}
use Rattle.counting.specs.Tests.{bool_cases}
use Rattle.input_data.specs.Checks.{first_of, too_many, day_number}
use Rattle.input_data.specs.Accepted.{first_zero}
use Rattle.input_data.specs.declared.Limits.{Limits}
use Rattle.input_data.specs.declared.checks.Beside.{Beside}
use Rattle.input_data.specs.Bytes.{not_long, IsDay, word_at, min_in, max_in, optional_in, group_length_in, member_in, numbers_in, list_in, day_of, wider, lent_number}

-- number i of those that stand from `at` on
abbrev pub word_from : List ℕ → ℕ → ℕ → ℕ
word_from b at i = word_at b (at + 4 * i)

-- two numbers of 32 bits have a product of 64
pub product_most : {a b : ℕ} → a < 4294967296 → b < 4294967296 → a * b < 2 ^ 64
product_most {a} {b} h k =
    let x : a ≤ 4294967295 = omega (arith, h) in
    let y : b ≤ 4294967295 = omega (arith, k) in
    let p : a * b ≤ 4294967295 * 4294967295 = mul-le-mul x y in
    omega (arith, p)

module _ (b : List ℕ) where
  pub min_of : (k : ℕ) → k < 32 → min_at (day_of b) k ≡ min_in b k
  unfolding day_of
  min_of k h = table_at 32 (min_in b) 0 k h

  pub max_of : (k : ℕ) → k < 32 → max_at (day_of b) k ≡ max_in b k
  unfolding day_of
  max_of k h = table_at 32 (max_in b) 0 k h

  pub optional_of : (k : ℕ) → k < 32 → optional_at (day_of b) k ≡ optional_in b k
  unfolding day_of
  optional_of k h = table_at 32 (optional_in b) false k h

  pub length_of : (g : ℕ) → g < 16 → get_or (day_of b).lengths g 0 ≡ group_length_in b g
  unfolding day_of
  length_of g h = table_at 16 (group_length_in b) 0 g h

  pub member_of_lem : (i : ℕ) → i < 32 → get_or (day_of b).members i 0 ≡ member_in b i
  unfolding day_of
  member_of_lem i h = table_at 32 (member_in b) 0 i h

  pub numbers_of : (n at j : ℕ) → j < 32 → numbers_at (list_in b n at) j ≡ numbers_in b at j
  unfolding list_in
  numbers_of n at j h = table_at 32 (numbers_in b at) no_numbers j h

  pub count_of : (n at : ℕ) → (list_in b n at).count ≡ n
  unfolding list_in
  count_of n at = refl

-- ---- the number of a call that is lent a day

-- the day has not its length
pub lent_short : (l : Limits) (day : List ℕ) (wrong : Bool) (n : ℕ) → length day ≢ 2044 → 2 ≡ lent_number l day wrong n
unfolding lent_number first_of
lent_short l day wrong n h = simp (ne_eqb (length day) 2044 h)

-- the day has its length: what else has not is one of the lengths that are tested with it
pub lent_number_lem : (l : Limits) (day : List ℕ) (wrong : Bool) (b : Beside) (rest : ℕ) → IsDay day → day_number l (day_of day) (wider wrong b) rest ≡ lent_number l day wrong (day_number l (day_of day) b rest)
unfolding lent_number day_number first_of
lent_number_lem l day wrong b rest h = bool_cases (too_many l (day_of day).choosers (day_of day).choices (day_of day).slots)
    (λ t. simp (eq-eqb (length day) 2044 h, t))
    (λ t. bool_cases wrong (λ w. simp (eq-eqb (length day) 2044 h, t, w)) (λ w. simp (eq-eqb (length day) 2044 h, t, w)))

-- an accepted call's bytes have their lengths
pub record Lent (b : List ℕ) (wrong : Bool) (n : ℕ) : Type 0 where
  pub day : IsDay b
  pub right : wrong ≡ false
  pub zero : n ≡ 0

pub lent_zero : (l : Limits) (day : List ℕ) (wrong : Bool) (n : ℕ) → lent_number l day wrong n ≡ 0 → Lent day wrong n
unfolding lent_number
lent_zero l day wrong n e =
    let p = first_zero (not_long 2044 day) 2 _ (omega arith) e in
    let q = first_zero _ 1 _ (omega arith) p.1 in
    let r = first_zero wrong 2 n (omega arith) q.1 in
    record { day = eqb-true (length day) 2044 (not-false _ p.0); right = r.0; zero = r.1 }

-- and its number is that of the day's own tests
pub lent_is : (l : Limits) (day : List ℕ) (wrong : Bool) (b : Beside) (rest : ℕ) → IsDay day → wrong ≡ false → lent_number l day wrong (day_number l (day_of day) b rest) ≡ day_number l (day_of day) b rest
unfolding lent_number day_number first_of
lent_is l day wrong b rest h w = bool_cases (too_many l (day_of day).choosers (day_of day).choices (day_of day).slots)
    (λ t. simp (eq-eqb (length day) 2044 h, t))
    (λ t. simp (eq-eqb (length day) 2044 h, t, w))
