-- The order of 32-bit patterns by sign and magnitude, which is IEEE 754's totalOrder of what they stand for: SPEC 11.7. Definitions only.
use Rattle.std.specs.Prelude.{ℕ, ◌/◌, ◌%◌, Bool, true, false, eqb, leb}

-- the sign bit is set; 2147483648 is 2 ^ 31
abbrev pub is_negative : ℕ → Bool
is_negative b = eqb (b / 2147483648) 1

-- the bits below the sign
abbrev pub magnitude : ℕ → ℕ
magnitude b = b % 2147483648

-- a negative one is before a positive one, of two negative ones the greater magnitude is first, of two positive ones the smaller
abbrev pub in_order : Bool → ℕ → Bool → ℕ → Bool
in_order true m true n = leb n m
in_order true m false n = true
in_order false m true n = false
in_order false m false n = leb m n

-- a is before b, or is b
unfoldable pub bits_before : ℕ → ℕ → Bool
bits_before a b = in_order (is_negative a) (magnitude a) (is_negative b) (magnitude b)
