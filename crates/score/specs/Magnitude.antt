-- A finite float of binary32 in units of 2 ^ -149, its bits below the sign, and that both have one order. Assumes nothing.
use Rattle.std.specs.Prelude.{ℕ, zero, suc, ◌+◌, ◌-◌, ◌*◌, ◌/◌, ◌%◌, ◌^◌, ◌≤◌, ◌<◌, ◌≡◌, refl, Bool, true, false, not, ◌&&◌, cond, T, ltb, leb, eqb, ℤ, pos, negsuc, Float}
use Rattle.std.proofs.Common.{suc-le-suc, zero-le, sym, ap, ◌∙◌, le_trans, le_of_eq, lt_of_lt_of_le, lt_of_le_of_lt, not-le_of_lt, zero-mul, mul-one, one-mul, div-one, mul-div_cancel, mul_assoc, mul_comm, mul_right_comm, add-mul, mul-pos, mul-le-mul_right, le_of_mul-le-mul_right, lt_of_mul-lt-mul_right, mul-lt-mul_of_pos_right, le-div_iff_mul-le, arith, ltb→lt, leb→le, eqb→eq, lit≤, pow-add, pow_pos, lt-ltb, le-ltb, ne_eqb, eq-eqb}
use Rattle.std.proofs.Math.Nat.{zero-div}
use Rattle.std.specs.Float.{nan, inf, fin, binary32}
use Rattle.std.specs.Float.Ieee.{up, down, below, lt, fits, size, to_bits}
use Rattle.std.specs.Float.Ieee.Digits.{back, size-lt, size-le, size_reaches}
use Rattle.std.specs.Float.Ieee.Fits.{and_l, and_r, up_pos, down_pos, kept-lt}
use Rattle.std.specs.Float.Ieee.Nearest.{div_mono}
use Rattle.std.proofs.Math.Pow.{pow-lt}
use Rattle.counting.specs.Tests.{lt_cases}
use Rattle.score.specs.TotalOrder.{neg_zero, pos_zero}

-- ---- the magnitude in units of 2 ^ -149

abbrev pub units : Float → ℕ
units nan = 0
units (inf s) = 0
units (fin s m e) = m * up e * 2 ^ 149 / down e

few : (k l : ℕ) → 2 ^ k ≤ 2 ^ l → k ≤ l
few k l h = lt_cases l k (λ g e. absurd (not-le_of_lt (pow-lt g) h)) (λ g e. g)

exactly : (m : ℕ) (e : ℤ) → down e ≤ 2 ^ 149 → m * up e * 2 ^ 149 / down e * down e ≡ m * up e * 2 ^ 149
exactly m (pos k) h = mul-one (m * 2 ^ k * 2 ^ 149 / 1) ∙ div-one (m * 2 ^ k * 2 ^ 149)
exactly m (negsuc k) h =
    let j = 149 - suc k in
    let e : m * 1 * 2 ^ 149 ≡ m * 1 * 2 ^ j * 2 ^ suc k = ap (λ (z : ℕ). m * 1 * z) (ap (λ (z : ℕ). 2 ^ z) (sym (back 149 (suc k) (few (suc k) 149 h))) ∙ pow-add 2 j (suc k)) ∙ sym (mul_assoc (m * 1) (2 ^ j) (2 ^ suc k)) in
    ap (λ (z : ℕ). z / 2 ^ suc k * 2 ^ suc k) e ∙ ap (λ (z : ℕ). z * 2 ^ suc k) (mul-div_cancel (m * 1 * 2 ^ j) (pow_pos (suc k))) ∙ sym e

one_down : (e : ℤ) → up e * down e ≡ 1 → down e ≤ 2 ^ 149
one_down e h = le_trans (le_trans (le_of_eq (sym (one-mul (down e)))) (le_trans (mul-le-mul_right (down e) (up_pos e)) (le_of_eq h))) (lit≤ tt)

fits_down : (s : Bool) (m : ℕ) (e : ℤ) → T (fits binary32 (fin s m e)) → down e ≤ 2 ^ 149
unfolding fits
fits_down s zero e h = one_down e (eqb→eq (up e * down e) 1 h)
fits_down s (suc m) e h =
    let A = eqb (suc m % 2) 1 && ltb (suc m) (2 ^ 24) in
    let C = leb (down e) (2 ^ 149) in
    let D = ltb (suc m * up e) (2 ^ 128 * down e) in
    leb→le (down e) (2 ^ 149) (and_r A C (and_l (A && C) D h))

no_units : (e : ℤ) → units (fin false 0 e) ≡ 0
no_units e = ap (λ (z : ℕ). z * 2 ^ 149 / down e) (zero-mul (up e)) ∙ zero-div (down e)

pub units_lt : (s : Bool) (m : ℕ) (e : ℤ) → T (fits binary32 (fin s m e)) → units (fin s m e) < 2 ^ 277
unfolding fits
units_lt s zero e F = lt_of_le_of_lt (le_of_eq (no_units e)) (pow_pos 277)
units_lt s (suc m) e F =
    let A = eqb (suc m % 2) 1 && ltb (suc m) (2 ^ 24) in
    let C = leb (down e) (2 ^ 149) in
    let D = ltb (suc m * up e) (2 ^ 128 * down e) in
    let u : suc m * up e < 2 ^ 128 * down e = ltb→lt (suc m * up e) (2 ^ 128 * down e) (and_r (A && C) D F) in
    lt_of_mul-lt-mul_right (down e)
    (lt_of_le_of_lt (le_of_eq (exactly (suc m) e (fits_down s (suc m) e F)))
    (lt_of_lt_of_le (mul-lt-mul_of_pos_right u (pow_pos 149)) (le_of_eq (mul_right_comm (2 ^ 128) (down e) (2 ^ 149)))))

-- ---- lt, by sign and units

ltb_as : (i j k l : ℕ) → (i < j → k < l) → (j ≤ i → l ≤ k) → ltb i j ≡ ltb k l
ltb_as i j k l f g = lt_cases i j (λ h e. e ∙ sym (lt-ltb k l (f h))) (λ h e. e ∙ sym (le-ltb k l (g h)))

-- the order of x and y is that of a and b, where x k = a j and y k = b j
ltb_scaled : (x y a b k j : ℕ) → x * k ≡ a * j → y * k ≡ b * j → 0 < k → 0 < j → ltb x y ≡ ltb a b
ltb_scaled x y a b k j p q K J =
    ltb_as x y a b
    (λ h. lt_of_mul-lt-mul_right j (lt_of_le_of_lt (le_of_eq (sym p)) (lt_of_lt_of_le (mul-lt-mul_of_pos_right h K) (le_of_eq q))))
    (λ h. le_of_mul-le-mul_right {k = j} (le_trans (le_of_eq (sym q)) (le_trans (mul-le-mul_right k h) (le_of_eq p))) J)

-- both over one scale
over : (m ue a de dd l : ℕ) → a * de ≡ m * ue * l → m * ue * dd * l ≡ a * (de * dd)
over m ue a de dd l h = mul_right_comm (m * ue) dd l ∙ ap (λ (z : ℕ). z * dd) (sym h) ∙ mul_assoc a de dd

below_scaled : (s t : Bool) (x y a b k j : ℕ) → x * k ≡ a * j → y * k ≡ b * j → 0 < k → 0 < j → below s x t y ≡ below s a t b
below_scaled false false x y a b k j p q K J = ltb_scaled x y a b k j p q K J
below_scaled false true x y a b k j p q K J = refl
below_scaled true false x y a b k j p q K J = ltb_scaled 0 (x + y) 0 (a + b) k j (zero-mul k ∙ sym (zero-mul j)) (add-mul x y k ∙ ap (λ (z : ℕ). z + y * k) p ∙ ap (λ (z : ℕ). a * j + z) q ∙ sym (add-mul a b j)) K J
below_scaled true true x y a b k j p q K J = ltb_scaled y x b a k j q p K J

pub lt_is : (s : Bool) (m : ℕ) (e : ℤ) (t : Bool) (n : ℕ) (d : ℤ) → T (fits binary32 (fin s m e)) → T (fits binary32 (fin t n d)) → lt (fin s m e) (fin t n d) ≡ below s (units (fin s m e)) t (units (fin t n d))
unfolding lt
lt_is s m e t n d F G =
    let l = 2 ^ 149 in
    let a = units (fin s m e) in
    let b = units (fin t n d) in
    below_scaled s t (m * up e * down d) (n * up d * down e) a b l (down e * down d)
    (over m (up e) a (down e) (down d) l (exactly m e (fits_down s m e F)))
    (over n (up d) b (down d) (down e) l (exactly n d (fits_down t n d G)) ∙ ap (λ (z : ℕ). b * z) (mul_comm (down d) (down e)))
    (pow_pos 149) (mul-pos (down_pos e) (down_pos d))

-- ---- the zeros have no units

some_units : (m u l a d : ℕ) → a * d ≡ suc m * u * l → 0 < u → 0 < l → a ≡ 0 → ⊥
some_units m u l a d h U L e =
    let x : 0 < suc m * u * l = mul-pos (mul-pos (suc-le-suc zero-le) U) L in
    let y : a * d ≡ 0 = ap (λ (z : ℕ). z * d) e ∙ zero-mul d in
    omega arith

pub neg_is : (s : Bool) (m : ℕ) (e : ℤ) → T (fits binary32 (fin s m e)) → neg_zero (fin s m e) ≡ (s && eqb (units (fin s m e)) 0)
neg_is true zero e F = sym (eq-eqb (units (fin true 0 e)) 0 (no_units e))
neg_is false zero e F = refl
neg_is true (suc m) e F = sym (ne_eqb (units (fin true (suc m) e)) 0 (some_units m (up e) (2 ^ 149) (units (fin true (suc m) e)) (down e) (exactly (suc m) e (fits_down true (suc m) e F)) (up_pos e) (pow_pos 149)))
neg_is false (suc m) e F = refl

pub pos_is : (s : Bool) (m : ℕ) (e : ℤ) → T (fits binary32 (fin s m e)) → pos_zero (fin s m e) ≡ (not s && eqb (units (fin s m e)) 0)
pos_is true zero e F = refl
pos_is false zero e F = sym (eq-eqb (units (fin false 0 e)) 0 (no_units e))
pos_is true (suc m) e F = refl
pos_is false (suc m) e F = sym (ne_eqb (units (fin false (suc m) e)) 0 (some_units m (up e) (2 ^ 149) (units (fin false (suc m) e)) (down e) (exactly (suc m) e (fits_down false (suc m) e F)) (up_pos e) (pow_pos 149)))

-- ---- the bits below the sign, of so many units: 8388608 is 2 ^ 23

abbrev pub low_bits : ℕ → ℕ
low_bits n = (size n - 24) * 8388608 + n / 2 ^ (size n - 24)

size_mono : (a b : ℕ) → a ≤ b → size a ≤ size b
size_mono a b h = size-le a (size b) (lt_of_le_of_lt h (size-lt b))

-- digits that were dropped leave a leading one
leading : (b k : ℕ) → 0 < k → size b - 24 ≡ k → 8388608 ≤ b / 2 ^ k
leading b k h e = (le-div_iff_mul-le (pow_pos k)).1 (le_trans (le_of_eq (sym (pow-add 2 23 k))) (size_reaches b (23 + k) (omega arith)))

step : (j k x y : ℕ) → j < k → x < 16777216 → 8388608 ≤ y → j * 8388608 + x ≤ k * 8388608 + y
step j k x y h l m = omega arith

same_drop : (j a b : ℕ) → a ≤ b → j * 8388608 + a / 2 ^ j ≤ j * 8388608 + b / 2 ^ j
same_drop j a b h = let q : a / 2 ^ j ≤ b / 2 ^ j = div_mono a (2 ^ j) b (2 ^ j) (pow_pos j) (pow_pos j) (mul-le-mul_right (2 ^ j) h) in omega arith

pub low_mono : (a b : ℕ) → a ≤ b → low_bits a ≤ low_bits b
low_mono a b h =
    let j = size a - 24 in
    let k = size b - 24 in
    lt_cases j k
    (λ l e. step j k (a / 2 ^ j) (b / 2 ^ k) l (kept-lt 24 a) (leading b k (omega arith) refl))
    (λ l e. let s = size_mono a b h in let q : k ≡ j = omega arith in rw q (same_drop j a b h))

bound : (j x : ℕ) → j ≤ 253 → x < 16777216 → j * 8388608 + x < 2139095040
bound j x h l = omega arith

-- .. are below those of an infinity
pub low_lt : (n : ℕ) → n < 2 ^ 277 → low_bits n < 2139095040
low_lt n h = let s = size-le n 277 h in bound (size n - 24) (n / 2 ^ (size n - 24)) (omega arith) (kept-lt 24 n)

flat : (a b c : ℕ) → a + b + c ≡ a + (b + c)
flat a b c = omega arith

pub bits_is : (s : Bool) (m : ℕ) (e : ℤ) → to_bits binary32 (fin s m e) ≡ cond s 2147483648 0 + low_bits (units (fin s m e))
unfolding to_bits
bits_is s m e = let n = units (fin s m e) in let k = size n - 24 in flat (cond s 2147483648 0) (k * 8388608) (n / 2 ^ k)
