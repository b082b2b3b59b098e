-- total_order is the order of bit patterns, and so an order: reflexive, total, transitive, antisymmetric up to the datum. Assumes nothing.
use Rattle.std.specs.Prelude.{ℕ, ◌+◌, ◌/◌, ◌<◌, ◌≡◌, refl, Bool, true, false, cond, not, ◌&&◌, ◌||◌, ◌≢◌, T, eqb, ltb, leb, ℤ, pos, Float}
use Rattle.std.proofs.Common.{sym, ap, ap₂, ◌∙◌, arith, eq-eqb, ne_eqb, le-leb, leb-true}
use Rattle.std.specs.Float.{nan, inf, fin, binary32}
use Rattle.std.specs.Float.Ieee.{below, lt, fits, is_nan, to_bits, of_bits, nan_bits}
use Rattle.std.specs.Float.Ieee.Bits.{of_bits-to_bits, of_bits-fits, to_bits-of_bits, nan_bits_is}
use Rattle.std.proofs.lemmas.Bool.{lt-leb}
use Rattle.counting.specs.Tests.{bool_cases, lt_cases, never}
use Rattle.score.specs.TotalOrder.{total_order}
use Rattle.score.specs.BitOrder.{is_negative, magnitude, in_order, bits_before}
use Rattle.score.specs.Magnitude.{units, units_lt, lt_is, neg_is, pos_is, low_bits, low_mono, low_lt, bits_is}

-- ---- a float's sign, and its bits below the sign

abbrev sign_of : Float → Bool
sign_of nan = false
sign_of (inf s) = s
sign_of (fin s m e) = s

abbrev rest_of : Float → ℕ
rest_of nan = 2143289344
rest_of (inf s) = 2139095040
rest_of (fin s m e) = low_bits (units (fin s m e))

rest_lt : (x : Float) → T (fits binary32 x) → rest_of x < 2147483648
rest_lt nan F = omega arith
rest_lt (inf s) F = omega arith
rest_lt (fin s m e) F = omega (arith, low_lt (units (fin s m e)) (units_lt s m e F))

bits_of : (x : Float) → to_bits binary32 x ≡ cond (sign_of x) 2147483648 0 + rest_of x
unfolding to_bits
bits_of nan = refl
bits_of (inf true) = refl
bits_of (inf false) = refl
bits_of (fin s m e) = bits_is s m e

-- a pattern by its sign and the rest
sign_rest : (s : Bool) (a : ℕ) → a < 2147483648 → (is_negative (cond s 2147483648 0 + a) ≡ s) × (magnitude (cond s 2147483648 0 + a) ≡ a)
sign_rest true a h = (eq-eqb ((2147483648 + a) / 2147483648) 1 (omega arith), omega arith)
sign_rest false a h = (ne_eqb ((0 + a) / 2147483648) 1 (λ e. omega arith), omega arith)

pattern_order : (s : Bool) (a : ℕ) (t : Bool) (b : ℕ) → a < 2147483648 → b < 2147483648 → bits_before (cond s 2147483648 0 + a) (cond t 2147483648 0 + b) ≡ in_order s a t b
unfolding bits_before
pattern_order s a t b h k = let p = sign_rest s a h in let q = sign_rest t b k in rw (p.0, p.1, q.0, q.1)

-- ---- two finite floats

-- units in order, as their bits are
units_order : (a b : ℕ) → (low_bits a ≡ low_bits b → a ≡ b) → leb a b ≡ leb (low_bits a) (low_bits b)
units_order a b one = lt_cases b a
    (λ h e. lt-leb a b h ∙ sym (lt-leb (low_bits a) (low_bits b) (let l = low_mono b a (omega arith) in let n : low_bits a ≢ low_bits b = λ z. omega (arith, one z) in omega arith)))
    (λ h e. le-leb a b h ∙ sym (le-leb (low_bits a) (low_bits b) (low_mono a b h)))

-- neither less, nor greater, nor +0 before -0
by_signs : (s : Bool) (a : ℕ) (t : Bool) (b : ℕ) → cond (below s a t b) true (cond (below t b s a) false (not ((not s && eqb a 0) && (t && eqb b 0)))) ≡ in_order s a t b
by_signs false a false b = lt_cases a b
    (λ h e. rw e (sym (le-leb a b (omega arith))))
    (λ h e. rw e (lt_cases b a (λ k f. rw f (sym (lt-leb a b k))) (λ k f. rw f (bool_cases (eqb a 0) (λ z. rw z (sym (le-leb a b k))) (λ z. rw z (sym (le-leb a b k)))))))
by_signs true a true b = lt_cases b a
    (λ h e. rw e (sym (le-leb b a (omega arith))))
    (λ h e. rw e (lt_cases a b (λ k f. rw f (sym (lt-leb b a k))) (λ k f. rw f (sym (le-leb b a k)))))
by_signs true a false b = bool_cases (ltb 0 (a + b)) (λ e. rw e) (λ e. rw e)
by_signs false a true b = lt_cases 0 (b + a)
    (λ h e. rw e)
    (λ h e. rw e (let p : eqb a 0 ≡ true = eq-eqb a 0 (omega arith) in let q : eqb b 0 ≡ true = eq-eqb b 0 (omega arith) in rw (p, q)))

signed_order : (s : Bool) (a : ℕ) (t : Bool) (b : ℕ) → (s ≡ t → low_bits a ≡ low_bits b → a ≡ b) → in_order s a t b ≡ in_order s (low_bits a) t (low_bits b)
signed_order true a true b one = units_order b a (λ e. sym (one refl (sym e)))
signed_order true a false b one = refl
signed_order false a true b one = refl
signed_order false a false b one = units_order a b (one refl)

-- one pattern, one datum
same_bits : (x y : Float) → T (fits binary32 x) → T (fits binary32 y) → to_bits binary32 x ≡ to_bits binary32 y → x ≡ y
same_bits x y F G e = sym (of_bits-to_bits binary32 x F) ∙ ap (of_bits binary32) e ∙ of_bits-to_bits binary32 y G

finite_order_lem : (s : Bool) (m : ℕ) (e : ℤ) (t : Bool) (n : ℕ) (d : ℤ) → T (fits binary32 (fin s m e)) → T (fits binary32 (fin t n d))
    → total_order (fin s m e) (fin t n d) ≡ in_order s (low_bits (units (fin s m e))) t (low_bits (units (fin t n d)))
unfolding total_order is_nan
finite_order_lem s m e t n d F G =
    let a = units (fin s m e) in
    let b = units (fin t n d) in
    rw (lt_is s m e t n d F G, lt_is t n d s m e G F, pos_is s m e F, neg_is t n d G)
    (by_signs s a t b
    ∙ signed_order s a t b (λ p q. ap units (same_bits (fin s m e) (fin t n d) F G (bits_is s m e ∙ ap₂ (λ (u : Bool) (v : ℕ). cond u 2147483648 0 + v) p q ∙ sym (bits_is t n d)))))

-- ---- every two floats

float_order : (x y : Float) → T (fits binary32 x) → T (fits binary32 y) → total_order x y ≡ in_order (sign_of x) (rest_of x) (sign_of y) (rest_of y)
unfolding total_order is_nan lt
float_order nan nan F G = refl
float_order nan (inf true) F G = refl
float_order nan (inf false) F G = refl
float_order nan (fin true n d) F G = refl
float_order nan (fin false n d) F G = sym (lt-leb 2143289344 (low_bits (units (fin false n d))) (omega (arith, low_lt (units (fin false n d)) (units_lt false n d G))))
float_order (inf true) nan F G = refl
float_order (inf false) nan F G = refl
float_order (inf true) (inf true) F G = refl
float_order (inf true) (inf false) F G = refl
float_order (inf false) (inf true) F G = refl
float_order (inf false) (inf false) F G = refl
float_order (inf true) (fin true n d) F G = sym (le-leb (low_bits (units (fin true n d))) 2139095040 (omega (arith, low_lt (units (fin true n d)) (units_lt true n d G))))
float_order (inf true) (fin false n d) F G = refl
float_order (inf false) (fin true n d) F G = refl
float_order (inf false) (fin false n d) F G = sym (lt-leb 2139095040 (low_bits (units (fin false n d))) (omega (arith, low_lt (units (fin false n d)) (units_lt false n d G))))
float_order (fin true m e) nan F G = refl
float_order (fin false m e) nan F G = sym (le-leb (low_bits (units (fin false m e))) 2143289344 (omega (arith, low_lt (units (fin false m e)) (units_lt false m e F))))
float_order (fin true m e) (inf true) F G = sym (lt-leb 2139095040 (low_bits (units (fin true m e))) (omega (arith, low_lt (units (fin true m e)) (units_lt true m e F))))
float_order (fin true m e) (inf false) F G = refl
float_order (fin false m e) (inf true) F G = refl
float_order (fin false m e) (inf false) F G = sym (le-leb (low_bits (units (fin false m e))) 2139095040 (omega (arith, low_lt (units (fin false m e)) (units_lt false m e F))))
float_order (fin s m e) (fin t n d) F G = finite_order_lem s m e t n d F G

-- total_order of two floats of binary32 is the order of their bits
pub order_of_bits : (x y : Float) → T (fits binary32 x) → T (fits binary32 y) → total_order x y ≡ bits_before (to_bits binary32 x) (to_bits binary32 y)
order_of_bits x y F G = float_order x y F G ∙ sym (rw (bits_of x, bits_of y) (pattern_order (sign_of x) (rest_of x) (sign_of y) (rest_of y) (rest_lt x F) (rest_lt y G)))

-- a pattern of 32 bits that is no NaN's, save the one that SPEC 2.16 names
pub record Pattern (b : ℕ) : Type 0 where
  pub wide : b < 4294967296
  pub one_nan : nan_bits binary32 b ≡ true → b ≡ 0x7fc0_0000

nan_bits_lem : (x : Float) → is_nan x ≡ true → to_bits binary32 x ≡ 0x7fc0_0000
unfolding is_nan to_bits
nan_bits_lem nan h = refl
nan_bits_lem (inf s) h = never (sym h)
nan_bits_lem (fin s m e) h = never (sym h)

pattern_bits : (b : ℕ) → Pattern b → to_bits binary32 (of_bits binary32 b) ≡ b
pattern_bits b p = bool_cases (is_nan (of_bits binary32 b))
    (λ e. nan_bits_lem (of_bits binary32 b) e ∙ sym (p.one_nan (nan_bits_is binary32 b ∙ e)))
    (λ e. to_bits-of_bits binary32 b p.wide (rw e tt))

-- total_order of what two patterns stand for is the order of the patterns
pub order_of_patterns : (a b : ℕ) → Pattern a → Pattern b → total_order (of_bits binary32 a) (of_bits binary32 b) ≡ bits_before a b
order_of_patterns a b p q = order_of_bits (of_bits binary32 a) (of_bits binary32 b) (of_bits-fits binary32 a) (of_bits-fits binary32 b) ∙ ap₂ bits_before (pattern_bits a p) (pattern_bits b q)

-- ---- the laws of an order, of signs and magnitudes

leb_refl : (a : ℕ) → leb a a ≡ true
leb_refl a = le-leb a a (omega arith)

order_refl : (s : Bool) (a : ℕ) → in_order s a s a ≡ true
order_refl true a = leb_refl a
order_refl false a = leb_refl a

leb_total : (a b : ℕ) → (leb a b || leb b a) ≡ true
leb_total a b = lt_cases a b (λ h e. rw (le-leb a b (omega arith))) (λ h e. bool_cases (leb a b) (λ f. rw f) (λ f. rw f (le-leb b a h)))

order_total : (s : Bool) (a : ℕ) (t : Bool) (b : ℕ) → (in_order s a t b || in_order t b s a) ≡ true
order_total true a true b = leb_total b a
order_total true a false b = refl
order_total false a true b = refl
order_total false a false b = leb_total a b

leb_trans : (a b c : ℕ) → leb a b ≡ true → leb b c ≡ true → leb a c ≡ true
leb_trans a b c p q = le-leb a c (omega (arith, leb-true a b p, leb-true b c q))

order_trans : (s : Bool) (a : ℕ) (t : Bool) (b : ℕ) (u : Bool) (c : ℕ) → in_order s a t b ≡ true → in_order t b u c ≡ true → in_order s a u c ≡ true
order_trans true a true b true c p q = leb_trans c b a q p
order_trans true a t b false c p q = refl
order_trans true a false b true c p q = never (sym q)
order_trans false a true b u c p q = never (sym p)
order_trans false a false b true c p q = never (sym q)
order_trans false a false b false c p q = leb_trans a b c p q

order_antisym : (s : Bool) (a : ℕ) (t : Bool) (b : ℕ) → in_order s a t b ≡ true → in_order t b s a ≡ true → (s ≡ t) × (a ≡ b)
order_antisym true a true b p q = (refl, omega (arith, leb-true b a p, leb-true a b q))
order_antisym true a false b p q = never (sym q)
order_antisym false a true b p q = never (sym p)
order_antisym false a false b p q = (refl, omega (arith, leb-true a b p, leb-true b a q))

-- ---- .. of total_order

pub total_refl : (x : Float) → T (fits binary32 x) → total_order x x ≡ true
total_refl x F = float_order x x F F ∙ order_refl (sign_of x) (rest_of x)

pub total_total : (x y : Float) → T (fits binary32 x) → T (fits binary32 y) → (total_order x y || total_order y x) ≡ true
total_total x y F G = rw (float_order x y F G, float_order y x G F) (order_total (sign_of x) (rest_of x) (sign_of y) (rest_of y))

pub total_trans : (x y z : Float) → T (fits binary32 x) → T (fits binary32 y) → T (fits binary32 z) → total_order x y ≡ true → total_order y z ≡ true → total_order x z ≡ true
total_trans x y z F G H p q = float_order x z F H ∙ order_trans (sign_of x) (rest_of x) (sign_of y) (rest_of y) (sign_of z) (rest_of z) (sym (float_order x y F G) ∙ p) (sym (float_order y z G H) ∙ q)

-- each before the other: the same datum
pub total_antisym : (x y : Float) → T (fits binary32 x) → T (fits binary32 y) → total_order x y ≡ true → total_order y x ≡ true → x ≡ y
total_antisym x y F G p q =
    let e = order_antisym (sign_of x) (rest_of x) (sign_of y) (rest_of y) (sym (float_order x y F G) ∙ p) (sym (float_order y x G F) ∙ q) in
    same_bits x y F G (bits_of x ∙ ap₂ (λ (u : Bool) (v : ℕ). cond u 2147483648 0 + v) e.0 e.1 ∙ sym (bits_of y))

-- ---- by name

-- -0 is before +0, and not the other way round
pub zeros_in_order : (total_order (fin true 0 (pos 0)) (fin false 0 (pos 0)) ≡ true) × (total_order (fin false 0 (pos 0)) (fin true 0 (pos 0)) ≡ false)
unfolding total_order is_nan lt
zeros_in_order = (refl, refl)

-- every number is before +NaN, and +NaN before none
pub before_nan : (x : Float) → is_nan x ≡ false → (total_order x nan ≡ true) × (total_order nan x ≡ false)
unfolding total_order is_nan
before_nan x h = (refl, rw h)
