-- Signed numbers and the bits that hold them: differences, and tests on bits. Assumes nothing.
use Rattle.std.specs.Prelude.{ℕ, zero, suc, ◌-◌, ◌<◌, ◌≤◌, ◌^◌, ◌≡◌, refl, Bool, true, false, cond, ltb, eqb, ℤ, pos, negsuc, neg_ℤ, ◌-ℤ◌}
use Rattle.std.proofs.Common.{sym, ap, ◌∙◌, subst, arith, add-zero, ltb-true, eqb-true, eq-eqb, ne_eqb, to_z-of_z}
use Rattle.std.proofs.Math.IntN.{+ℤ_idl}
use Rattle.std.specs.Int.Signed.{mag}
use Rattle.std.specs.Int.{Width}
use mir.Val.{SFits, to_z, of_z, hbits}
use Rattle.std.proofs.Math.Facts.{to_z_pos}
use Rattle.counting.specs.Ints.{eq_z}
use Rattle.counting.specs.Tests.{bool_cases, never}

-- a number of a signed type reads back from its bits as it is
pub back : (w : Width) (z : ℤ) → mag z < 2 ^ hbits w → to_z w (of_z w z) ≡ z
back w z h = to_z-of_z (record { sfits = h })

-- equal bits, equal numbers
pub bits_same : (w : Width) (a b : ℤ) → mag a < 2 ^ hbits w → mag b < 2 ^ hbits w → of_z w a ≡ of_z w b → a ≡ b
bits_same w a b h k e = sym (back w a h) ∙ ap (to_z w) e ∙ back w b k

-- 0 - b is the negation of b
pub zero_sub_neg : (b : ℕ) → pos 0 -ℤ pos b ≡ neg_ℤ (pos b)
zero_sub_neg b = +ℤ_idl (neg_ℤ (pos b))

mag_cases : (a b n : ℕ) (t : Bool) → ltb a b ≡ t → a < n → b ≤ n → mag (cond t (negsuc (b - suc a)) (pos (a - b))) < n
mag_cases a b n true e h k = omega (arith, ltb-true a b e)
mag_cases a b n false e h k = omega arith

-- the difference of two numbers below n is within n either way
pub mag_sub : (a b n : ℕ) → a < n → b ≤ n → mag (pos a -ℤ pos b) < n
mag_sub a zero n h k = rw add-zero h
mag_sub a (suc b) n h k = mag_cases a (suc b) n (ltb a (suc b)) refl h k

module _ (w : Width) (a b : ℕ) (ha : a < 2 ^ hbits w) (hb : b < 2 ^ hbits w) where
  pub sub_eq : to_z w a -ℤ to_z w b ≡ pos a -ℤ pos b
  sub_eq = rw (to_z_pos w ha, to_z_pos w hb)

  small : SFits w (pos a -ℤ pos b)
  small = record { sfits = mag_sub a b (2 ^ hbits w) ha (omega arith) }

  -- the difference of two numbers that were cast fits, and reads back as the difference
  pub sub_fits : SFits w (to_z w a -ℤ to_z w b)
  sub_fits = subst (SFits w) (sym sub_eq) small

  pub sub_back : to_z w (of_z w (to_z w a -ℤ to_z w b)) ≡ pos a -ℤ pos b
  sub_back = ap (λ z. to_z w (of_z w z)) sub_eq ∙ to_z-of_z small

-- the test of two integers, both ways
pub eq_z_same : (a b : ℤ) → a ≡ b → eq_z a b ≡ true
unfolding eq_z
eq_z_same (pos a) b e = rw (← e) (eq-eqb a a refl)
eq_z_same (negsuc a) b e = rw (← e) (eq-eqb a a refl)

pub same_eq_z : (a b : ℤ) → eq_z a b ≡ true → a ≡ b
unfolding eq_z
same_eq_z (pos a) (pos b) e = ap pos (eqb-true a b e)
same_eq_z (pos a) (negsuc b) e = cc
same_eq_z (negsuc a) (pos b) e = cc
same_eq_z (negsuc a) (negsuc b) e = ap negsuc (eqb-true a b e)

-- a test of bits is a test of the numbers
pub bits_eqb : (w : Width) (a b : ℤ) → mag a < 2 ^ hbits w → mag b < 2 ^ hbits w → eqb (of_z w a) (of_z w b) ≡ eq_z a b
bits_eqb w a b h k = bool_cases (eq_z a b)
    (λ t. eq-eqb (of_z w a) (of_z w b) (ap (of_z w) (same_eq_z a b t)) ∙ sym t)
    (λ t. ne_eqb (of_z w a) (of_z w b) (λ e. never (sym (eq_z_same a b (bits_same w a b h k e)) ∙ t)) ∙ sym t)

pub bits_differ : (w : Width) (a b : ℤ) → mag a < 2 ^ hbits w → mag b < 2 ^ hbits w → (of_z w a ≡ of_z w b → ⊥) → eq_z a b ≡ false
bits_differ w a b h k n = sym (bits_eqb w a b h k) ∙ ne_eqb (of_z w a) (of_z w b) n
