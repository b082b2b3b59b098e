-- The rows of the sample day that speak of scores alone (SPEC 13.12, 13.15), by computation. Assumes nothing.
use Rattle.std.specs.Prelude.{◌≡◌, refl, true, false, pos, Float}
use Rattle.std.specs.Float.{nan, fin}
use Rattle.std.specs.Float.Ieee.{lt, is_nan}
use Rattle.score.specs.declared.Score.{Score}
use Rattle.std.specs.declared.cmp.Ordering.TheVariants.{Less}
use Rattle.score.specs.Order.{score_order}

abbrev score : Float → Float → Score
score a b = record { major = a; minor = b }

abbrev one : Float
one = fin false 1 (pos 0)

abbrev two : Float
two = fin false 1 (pos 1)

abbrev three : Float
three = fin false 3 (pos 0)

-- with equal majors, minor -0.0 is less than +0.0
pub minus_zero_first : score_order (score one (fin true 0 (pos 0))) (score one (fin false 0 (pos 0))) ≡ Less
unfolding score_order lt is_nan
minus_zero_first = refl

-- (1,3) < (2,1) < (NaN,2) < (1,3): the order has a cycle, so a best is no minimum
pub cycle : (score_order (score one three) (score two one) ≡ Less) × (score_order (score two one) (score nan two) ≡ Less) × (score_order (score nan two) (score one three) ≡ Less)
unfolding score_order lt is_nan
cycle = (refl, refl, refl)
