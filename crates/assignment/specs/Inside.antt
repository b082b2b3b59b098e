-- A plan with room for its seats. Assumes nothing.
use Rattle.std.specs.Prelude.{ℕ, ◌+◌, ◌-◌, ◌*◌, ◌<◌, ◌≤◌, ◌≡◌, List, length, take, drop}
use Rattle.std.proofs.Common.{◌∙◌, mul-le-mul_right, suc-mul, arith, length-take-le, length-drop, get_or-take, get_or-drop}
use Rattle.scheduling.specs.Schedule.{entry_at}

-- a row of a table of n rows of m
pub row_end : {n a : ℕ} (m : ℕ) → a < n → a * m + m ≤ n * m
row_end {a = a} m h = omega (arith, suc-mul a m, mul-le-mul_right m h)

-- a plan has room for so many seats
pub record InPlan (choosers slots size : ℕ) : Type 0 where
  pub few : choosers ≤ 64
  pub short : slots ≤ 8
  pub inside : choosers * slots ≤ size

-- the row of a chooser of the day is in the plan
pub row_in : {choosers slots size c : ℕ} → InPlan choosers slots size → c < choosers → (slots ≤ 8) × (c < 64) × (c * slots + slots ≤ size)
row_in {slots = slots} p h = (p.short, omega (arith, p.few), omega (arith, row_end slots h, p.inside))

-- n entries of a plan from a on, read as a part of it
pub row_length : (a n : ℕ) (plan : List ℕ) → a + n ≤ length plan → length (take (a + n - a) (drop a plan)) ≡ n
row_length a n plan h = let f : a + n - a ≤ length (drop a plan) = omega (arith, length-drop a plan) in omega (arith, length-take-le (a + n - a) (drop a plan) f)

pub row_at : (a n : ℕ) (plan : List ℕ) (i : ℕ) → i < n → entry_at (take (a + n - a) (drop a plan)) i ≡ entry_at plan (a + i)
row_at a n plan i h = get_or-take (a + n - a) (drop a plan) i 0 (omega arith) ∙ get_or-drop a plan i 0
