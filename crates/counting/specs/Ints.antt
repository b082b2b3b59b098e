-- Whether two integers are equal. SPEC 2.17. Definitions only.
use Rattle.std.specs.Prelude.{Bool, false, eqb, ℤ, pos, negsuc}

unfoldable pub eq_z : ℤ → ℤ → Bool
eq_z (pos a) (pos b) = eqb a b
eq_z (pos a) (negsuc b) = false
eq_z (negsuc a) (pos b) = false
eq_z (negsuc a) (negsuc b) = eqb a b
