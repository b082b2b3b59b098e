-- IEEE 754-2019, clause 5.10, totalOrder: SPEC 11.7. Definitions only.
-- A NaN is one datum here: the quiet one of positive sign, 7FC00000 (SPEC 2.16).
use Rattle.std.specs.Prelude.{Bool, true, false, cond, not, ◌&&◌, zero, suc, Float}
use Rattle.std.specs.Float.{nan, inf, fin}
use Rattle.std.specs.Float.Ieee.{lt, is_nan}
use Rattle.std.specs.declared.cmp.Ordering.{Ordering}
use Rattle.std.specs.declared.cmp.Ordering.TheVariants.{Less, Equal, Greater}

-- -0 and +0
abbrev pub neg_zero : Float → Bool
neg_zero nan = false
neg_zero (inf s) = false
neg_zero (fin s zero e) = s
neg_zero (fin s (suc m) e) = false

abbrev pub pos_zero : Float → Bool
pos_zero nan = false
pos_zero (inf s) = false
pos_zero (fin s zero e) = not s
pos_zero (fin s (suc m) e) = false

-- Whether x is before y, or equal to it. The clause's points, in the order in which they are tried:
-- d) 2: every x is before +NaN, and 3: the same NaN is equal to itself. d) 2, turned round: +NaN is before no number.
-- a) x < y: yes. b) y < x: no.
-- c) x = y: 2: +0 before -0: no. 1 and 3: -0 before +0, and the same datum: yes.
unfoldable pub total_order : Float → Float → Bool
total_order x y = cond (is_nan y) true (cond (is_nan x) false (cond (lt x y) true (cond (lt y x) false (not (pos_zero x && neg_zero y)))))

-- the order as a comparison: equal where each is before the other or equal to it
unfoldable pub total_compare : Float → Float → Ordering
unfolding total_order
total_compare x y = cond (total_order x y) (cond (total_order y x) Equal Less) Greater
