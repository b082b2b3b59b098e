-- Tests: taken apart, and over the indices below a bound. Assumes nothing.
use Rattle.std.specs.Prelude.{ℕ, zero, suc, ◌+◌, ◌<◌, ◌≤◌, min, ◌≡◌, refl, Bool, true, false, ◌&&◌, ◌||◌, ◌≢◌, eqb, ltb}
use Rattle.std.proofs.Common.{sym, ap, ◌∙◌, arith, eqb-true, eq-eqb, ne_eqb, ltb-true, ltb-false, lt-ltb}
use Rattle.std.proofs.lemmas.Bool.{eqb-false}
use mir.Val.{bool_byte}
use Rattle.counting.specs.Fold.{gate, count_to, fault_below, some_below, fold_to, all_to, any_to}
use Rattle.counting.specs.FoldLaws.{fold_suc, fold_more, fold_ext}

-- a call gave r, which its contract says is a, and a test found it to be v
pub so {ℓ} : {A : Type ℓ} {r a v : A} → r ≡ a → r ≡ v → a ≡ v
so p q = sym p ∙ q

-- two constructors of Bool are not equal
pub never {ℓ} : {G : Type ℓ} → true ≡ false → G
never e = absurd (let z : ◌≡◌ {A = ℕ} 0 1 = cc in omega arith)

module _ {ℓ} {G : Type ℓ} where
  pub bool_cases : (b : Bool) → (b ≡ true → G) → (b ≡ false → G) → G
  bool_cases true y n = y refl
  bool_cases false y n = n refl

  pub eq_cases : (a b : ℕ) → (a ≡ b → eqb a b ≡ true → G) → (a ≢ b → eqb a b ≡ false → G) → G
  eq_cases a b y n = bool_cases (eqb a b) (λ e. y (eqb-true a b e) e) (λ e. n (eqb-false a b e) e)

  pub lt_cases : (a b : ℕ) → (a < b → ltb a b ≡ true → G) → (b ≤ a → ltb a b ≡ false → G) → G
  lt_cases a b y n = bool_cases (ltb a b) (λ e. y (ltb-true a b e) e) (λ e. n (ltb-false a b e) e)

pub eqb_sym : (a b : ℕ) → eqb a b ≡ eqb b a
eqb_sym a b = eq_cases a b (λ p e. e ∙ sym (eq-eqb b a (sym p))) (λ p e. e ∙ sym (ne_eqb b a (λ q. p (sym q))))

pub and_split : {a b : Bool} → (a && b) ≡ true → (a ≡ true) × (b ≡ true)
and_split {a = true} e = (refl, e)
and_split {a = false} e = never (sym e)

pub or_split : {a b : Bool} → (a || b) ≡ false → (a ≡ false) × (b ≡ false)
or_split {a = true} e = never e
or_split {a = false} e = (refl, e)

-- all pass: each does
pub all_each : (n : ℕ) (f : ℕ → Bool) → all_to n f ≡ true → (k : ℕ) → k < n → f k ≡ true
all_each zero f e k l = absurd (omega arith)
all_each (suc n) f e k l =
    let p : (all_to n f ≡ true) × (f n ≡ true) = and_split (sym (fold_suc ◌&&◌ true n f) ∙ e) in
    eq_cases k n (λ q t. rw q p.1) (λ q t. all_each n f p.0 k (omega arith))

pub each_all : (n : ℕ) (f : ℕ → Bool) → ((k : ℕ) → k < n → f k ≡ true) → all_to n f ≡ true
unfolding fold_to
each_all zero f h = refl
each_all (suc n) f h = rw (each_all n f (λ k l. h k (omega arith)), h n (omega arith))

-- none passes: each fails
pub none_each : (n : ℕ) (f : ℕ → Bool) → any_to n f ≡ false → (k : ℕ) → k < n → f k ≡ false
none_each zero f e k l = absurd (omega arith)
none_each (suc n) f e k l =
    let p : (any_to n f ≡ false) × (f n ≡ false) = or_split (sym (fold_suc ◌||◌ false n f) ∙ e) in
    eq_cases k n (λ q t. rw q p.1) (λ q t. none_each n f p.0 k (omega arith))

pub each_none : (n : ℕ) (f : ℕ → Bool) → ((k : ℕ) → k < n → f k ≡ false) → any_to n f ≡ false
unfolding fold_to
each_none zero f h = refl
each_none (suc n) f h = rw (each_none n f (λ k l. h k (omega arith)), h n (omega arith))

-- one passes: some does
pub one_passes : (n : ℕ) (f : ℕ → Bool) (k : ℕ) → k < n → f k ≡ true → any_to n f ≡ true
one_passes n f k l e = bool_cases (any_to n f) (λ t. t) (λ t. never (sym e ∙ none_each n f t k l))

-- an index at which a test passes
pub record Passes (n : ℕ) (f : ℕ → Bool) : Type 0 where
  pub at : ℕ
  pub below : at < n
  pub holds : f at ≡ true

pub some_passes : (n : ℕ) (f : ℕ → Bool) → any_to n f ≡ true → Passes n f
some_passes zero f e = never (sym e ∙ each_none zero f (λ k l. absurd (omega arith)))
some_passes (suc n) f e = bool_cases (f n)
    (λ t. record { at = n; below = omega arith; holds = t })
    (λ t. let p : Passes n f = some_passes n f (bool_cases (any_to n f) (λ u. u) (λ u. never (sym e ∙ fold_suc ◌||◌ false n f ∙ rw (u, t)))) in
    record { at = p.at; below = omega (arith, p.below); holds = p.holds })

pub below_each : (most n : ℕ) (f : ℕ → Bool) → n ≤ most → some_below most n f ≡ false → (k : ℕ) → k < n → f k ≡ false
unfolding some_below
below_each most n f h e k l = rw (lt-ltb k n l) at (none_each most (fault_below n f) e k (omega arith))

pub each_below : (most n : ℕ) (f : ℕ → Bool) → ((k : ℕ) → k < n → f k ≡ false) → some_below most n f ≡ false
unfolding some_below
each_below most n f h = each_none most (fault_below n f) (λ k l. lt_cases k n (λ b e. rw e (h k b)) (λ b e. rw e))

-- a loop that tests every index: one more
pub any_more : (i : ℕ) (f : ℕ → Bool) {bad t : Bool} → bad ≡ any_to i f → t ≡ f i → (bad || t) ≡ any_to (i + 1) f
any_more i f p q = rw (fold_more ◌||◌ false i f, p, q)

-- a truth value counts as its byte
pub byte_most : (t : Bool) → bool_byte t ≤ 1
byte_most true = omega arith
byte_most false = omega arith

byte_gate : (t : Bool) → bool_byte t ≡ gate t 1
byte_gate true = refl
byte_gate false = refl

pub count_more : (i : ℕ) (f : ℕ → Bool) {n : ℕ} {t : Bool} → n ≡ count_to i f → t ≡ f i → n + bool_byte t ≡ count_to (i + 1) f
count_more i f {t = t} p q = rw (fold_more ◌+◌ 0 i (λ k. gate (f k) 1), ← p, ← q, byte_gate t)

-- where the array has room for them, all are looked at
pub below_any : (most n : ℕ) (f : ℕ → Bool) → n ≤ most → some_below most n f ≡ any_to n f
unfolding some_below
below_any most n f h = bool_cases (any_to n f)
    (λ e. let p : Passes n f = some_passes n f e in
    one_passes most (fault_below n f) p.at (omega (arith, p.below)) (rw (lt-ltb p.at n p.below) p.holds) ∙ sym e)
    (λ e. each_below most n f (none_each n f e) ∙ sym e)

-- a loop over as many places as are counted, and no more than the array has
pub places_all : (most n : ℕ) (f : ℕ → Bool) → any_to (min n most) f ≡ some_below most n f
unfolding some_below
places_all most n f = lt_cases n most
    (λ h e. let m : min n most ≡ n = omega arith in ap (λ k. any_to k f) m ∙ sym (below_any most n f (omega arith)))
    (λ h e. let m : min n most ≡ most = omega arith in ap (λ k. any_to k f) m ∙ sym (fold_ext ◌||◌ false most (fault_below n f) f (λ k l. ap (λ (b : Bool). b && f k) (lt-ltb k n (omega arith)))))
