-- Laws of the one recursion. Assumes nothing.
use Prim.Native.Nat.{ℕ, zero, suc, ◌+◌, ◌<◌}
use Rattle.std.specs.Prelude.{◌≡◌}
use Rattle.std.proofs.Math.Path.{refl, ap₂}
use Rattle.std.proofs.Common.{ap, arith}
use Rattle.std.proofs.Math.Numerals.{add-one}
use Rattle.counting.specs.Fold.{fold_to}

module _ {ℓ ℓ'} {A : Type ℓ} {B : Type ℓ'} where
  pub fold_none : (op : A → B → A) (start : A) (f : ℕ → B) → fold_to op start 0 f ≡ start
  unfolding fold_to
  fold_none op start f = refl

  pub fold_suc : (op : A → B → A) (start : A) (n : ℕ) (f : ℕ → B) → fold_to op start (suc n) f ≡ op (fold_to op start n f) (f n)
  unfolding fold_to
  fold_suc op start n f = refl

  -- the step, as code counts
  pub fold_more : (op : A → B → A) (start : A) (n : ℕ) (f : ℕ → B) → fold_to op start (n + 1) f ≡ op (fold_to op start n f) (f n)
  unfolding fold_to
  fold_more op start n f = rw add-one

  pub fold_at : (op : A → B → A) (start : A) (f : ℕ → B) {m n : ℕ} → m ≡ n → fold_to op start m f ≡ fold_to op start n f
  fold_at op start f e = ap (λ k. fold_to op start k f) e

  -- only the elements below n are read
  pub fold_ext : (op : A → B → A) (start : A) (n : ℕ) (f g : ℕ → B) → ((k : ℕ) → k < n → f k ≡ g k) → fold_to op start n f ≡ fold_to op start n g
  unfolding fold_to
  fold_ext op start zero f g h = refl
  fold_ext op start (suc n) f g h = ap₂ op (fold_ext op start n f g (λ k l. h k (omega arith))) (h n (omega arith))
