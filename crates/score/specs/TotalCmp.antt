-- The standard library's total_cmp of two numbers is the comparison of totalOrder. Assumes nothing.
use Rattle.std.specs.Prelude.{ℕ, zero, suc, ◌+◌, ◌*◌, ◌<◌, ◌≡◌, refl, Bool, true, false, ◌||◌, ltb, ℤ, Float}
use Rattle.std.proofs.Common.{sym, ap₂, ◌∙◌, arith, ltb-true, le-ltb, lt-ltb, zero-mul, mul-pos}
use Rattle.std.proofs.Math.Bool.{and-false}
use Rattle.std.specs.Float.{nan, inf, fin, is_sign_negative, total_cmp}
use Rattle.std.specs.Float.Ieee.{up, down, lt, is_nan}
use lib.Ieee.Fits.{up_pos, down_pos}
use Rattle.std.specs.Float.Ieee.Scale.{finite}
use Rattle.std.specs.Ordering.{ordering_then}
use Rattle.std.specs.declared.cmp.Ordering.{Ordering}
use Rattle.std.specs.declared.cmp.Ordering.TheVariants.{Less, Equal, Greater}
use Rattle.counting.specs.Tests.{bool_cases, never, and_split, or_split}
use Rattle.score.specs.declared.Score.{Score}
use Rattle.score.specs.Order.{finite_score, by_major, finite_order}
use Rattle.score.specs.TotalOrder.{neg_zero, pos_zero, total_order, total_compare}

-- a number of positive sign is not -0, and one of negative sign is not +0
plus : (n : ℕ) (d : ℤ) → neg_zero (fin false n d) ≡ false
plus zero d = refl
plus (suc n) d = refl

minus : (n : ℕ) (d : ℤ) → pos_zero (fin true n d) ≡ false
minus zero d = refl
minus (suc n) d = refl

-- a numerator that is not 0 stays so over a common denominator
scaled : (n : ℕ) (e d : ℤ) → 0 < suc n * up e * down d
scaled n e d = mul-pos (mul-pos (omega arith) (up_pos e)) (down_pos d)

-- two numbers by their signs; where neither is less and the signs are not the same, both are zeros
finite_compare : (s : Bool) (m : ℕ) (e : ℤ) (t : Bool) (n : ℕ) (d : ℤ) → total_cmp (fin s m e) (fin t n d) ≡ total_compare (fin s m e) (fin t n d)
unfolding lt is_nan is_sign_negative total_order total_compare
finite_compare false m e false n d = let a : ℕ = m * up e * down d in let b : ℕ = n * up d * down e in bool_cases (ltb a b)
    (λ l. simp (l, le-ltb b a (omega (arith, ltb-true a b l))))
    (λ l. bool_cases (ltb b a) (λ g. simp (l, g)) (λ g. simp (l, g, plus m e, plus n d, and-false)))
finite_compare true m e true n d = let a : ℕ = m * up e * down d in let b : ℕ = n * up d * down e in bool_cases (ltb b a)
    (λ l. simp (l, le-ltb a b (omega (arith, ltb-true b a l))))
    (λ l. bool_cases (ltb a b) (λ g. simp (l, g)) (λ g. simp (l, g, minus m e, minus n d)))
finite_compare false zero e true zero d = simp zero-mul
finite_compare false (suc m) e true n d = simp (lt-ltb 0 (n * up d * down e + suc m * up e * down d) (omega (arith, scaled m e d)))
finite_compare false zero e true (suc n) d = simp (lt-ltb 0 (suc n * up d * down e + 0 * up e * down d) (omega (arith, scaled n d e)))
finite_compare true zero e false zero d = simp zero-mul
finite_compare true (suc m) e false n d = simp (lt-ltb 0 (suc m * up e * down d + n * up d * down e) (omega (arith, scaled m e d)))
finite_compare true zero e false (suc n) d = simp (lt-ltb 0 (0 * up e * down d + suc n * up d * down e) (omega (arith, scaled n d e)))

pub total_cmp_is : (x y : Float) → is_nan x ≡ false → is_nan y ≡ false → total_cmp x y ≡ total_compare x y
unfolding lt is_nan is_sign_negative total_order total_compare
total_cmp_is nan y h k = never h
total_cmp_is (inf s) nan h k = never k
total_cmp_is (inf true) (inf true) h k = refl
total_cmp_is (inf true) (inf false) h k = refl
total_cmp_is (inf false) (inf true) h k = refl
total_cmp_is (inf false) (inf false) h k = refl
total_cmp_is (inf true) (fin t n d) h k = refl
total_cmp_is (inf false) (fin t n d) h k = refl
total_cmp_is (fin s m e) nan h k = never k
total_cmp_is (fin s m e) (inf true) h k = refl
total_cmp_is (fin s m e) (inf false) h k = refl
total_cmp_is (fin s m e) (fin t n d) h k = finite_compare s m e t n d

-- ---- two scores

finite_number : (x : Float) → finite x ≡ true → is_nan x ≡ false
unfolding is_nan
finite_number nan h = never (sym h)
finite_number (inf s) h = refl
finite_number (fin s m e) h = refl

pub minor_number : (s : Score) → finite_score s ≡ true → is_nan s.minor ≡ false
minor_number s h = let p : (finite s.minor ≡ true) × _ = and_split h in finite_number s.minor p.0

then_is : (o m : Ordering) → ordering_then o m ≡ by_major false o m
then_is Less m = refl
then_is Equal m = refl
then_is Greater m = refl

module _ (a b : Score) (ha : finite_score a ≡ true) (hb : finite_score b ≡ true) {m : Ordering} (e : m ≡ total_cmp a.minor b.minor) where
  by_minor : m ≡ total_compare a.minor b.minor
  by_minor = e ∙ total_cmp_is a.minor b.minor (minor_number a ha) (minor_number b hb)

  -- a major is NaN, and the minors decide
  pub nan_decides : (is_nan a.major || is_nan b.major) ≡ true → m ≡ finite_order a b
  unfolding finite_order
  nan_decides h = rw h by_minor

  -- neither is
  pub majors_decide : {o r : Ordering} → (is_nan a.major || is_nan b.major) ≡ false → o ≡ total_cmp a.major b.major → r ≡ ordering_then o m → r ≡ finite_order a b
  unfolding finite_order
  majors_decide {o = o} n q t =
      let z : (is_nan a.major ≡ false) × (is_nan b.major ≡ false) = or_split n in
      let p : o ≡ total_compare a.major b.major = q ∙ total_cmp_is a.major b.major z.0 z.1 in
      t ∙ then_is o m ∙ ap₂ (by_major false) p by_minor ∙ rw (← n)
