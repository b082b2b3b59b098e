-- The order of scores: SPEC 11.2, 11.6, 11.8, 11.9. Definitions only.
use Rattle.std.specs.Prelude.{Bool, true, false, ◌&&◌, ◌||◌, ℤ, pos, negsuc}
use Rattle.std.specs.Float.{inf}
use Rattle.std.specs.Float.Ieee.{is_nan}
use Rattle.std.specs.Float.Ieee.Scale.{finite}
use Rattle.score.specs.declared.Score.{Score}
use Rattle.std.specs.declared.cmp.Ordering.{Ordering}
use Rattle.std.specs.declared.cmp.Ordering.TheVariants.{Less, Equal, Greater}
use Rattle.score.specs.TotalOrder.{total_compare}

-- infinite twice
abbrev pub infinite_twice : Score
infinite_twice = record { major = inf false; minor = inf false }

-- a score is finite when its minor is and its major is finite or NaN
abbrev pub finite_score : Score → Bool
finite_score s = finite s.minor && (finite s.major || is_nan s.major)

-- the major's order decides, unless minor alone is to be compared or the majors are equal
abbrev pub by_major : Bool → Ordering → Ordering → Ordering
by_major true major minor = minor
by_major false Less minor = Less
by_major false Equal minor = minor
by_major false Greater minor = Greater

-- two finite scores: minor alone if either major is NaN
unfoldable pub finite_order : Score → Score → Ordering
unfolding total_compare
finite_order a b = by_major (is_nan a.major || is_nan b.major) (total_compare a.major b.major) (total_compare a.minor b.minor)

-- two non-finite scores are equal, and a finite one is less than those
abbrev pub by_finite : Bool → Bool → Ordering → Ordering
by_finite false false o = Equal
by_finite false true o = Greater
by_finite true false o = Less
by_finite true true o = o

unfoldable pub score_order : Score → Score → Ordering
unfolding finite_order
score_order a b = by_finite (finite_score a) (finite_score b) (finite_order a b)

-- the numbers of the answers: -1, 0, 1
abbrev pub order_number : Ordering → ℤ
order_number Less = negsuc 0
order_number Equal = pos 0
order_number Greater = pos 1

abbrev pub is_less : Ordering → Bool
is_less Less = true
is_less Equal = false
is_less Greater = false
