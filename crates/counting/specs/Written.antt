-- A lent buffer after a run of stores. SPEC 2.13. Definitions only.
use Rattle.std.specs.Prelude.{ℕ, List}
use Rattle.std.proofs.lemmas.List.Edits.{sets}

module _ {ℓ} {A : Type ℓ} where
  -- d, with the elements of vs stored from index `at` on
  unfoldable pub written : List A → ℕ → List A → List A
  written d at vs = sets d at vs
