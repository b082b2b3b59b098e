-- What calls of a function at the numbers below a bound take and give. Definitions only.
use Rattle.std.specs.Prelude.{ℕ, ◌<◌, ◌≡◌}

-- it may be called at each k < n
abbrev pub TakesBelow : (ℕ → Type 0) → ℕ → Type 0
TakesBelow takes n = (k : ℕ) → k < n → takes k

module _ {A : Type 0} where
  -- whatever a call at k < n gives is f k
  abbrev pub AgreesBelow : (ℕ → A → Type 0) → ℕ → (ℕ → A) → Type 0
  AgreesBelow gives n f = (k : ℕ) → k < n → (x : A) → gives k x → x ≡ f k

module _ {X A : Type 0} where
  -- whatever a call at x gives is f x
  abbrev pub AgreesAlways : (X → A → Type 0) → (X → A) → Type 0
  AgreesAlways gives f = (x : X) (a : A) → gives x a → a ≡ f x

module _ {A T : Type 0} where
  -- whatever a call at x and y gives is `by` of them
  abbrev pub AgreesTwo : (A → T → A → Type 0) → (A → T → A) → Type 0
  AgreesTwo gives by = (x : A) (y : T) (z : A) → gives x y z → z ≡ by x y
