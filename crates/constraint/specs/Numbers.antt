-- Targets and extras by their numbers alone, as the code tests them, and that they are those of the definitions. Assumes nothing.
use Rattle.std.specs.Prelude.{ℕ, zero, suc, ◌≡◌, refl, List, [], ◌∷◌, Bool, true, cond, not, ◌&&◌, ◌||◌, eqb, ltb, ℤ, pos, negsuc}
use Rattle.std.proofs.Common.{sym, ◌∙◌, arith, ne_eqb, eqb-true, lt-ltb, le-ltb, ltb-true}
use Rattle.std.proofs.Math.Bool.{false}
use Rattle.std.specs.Int.Signed.{lt_z}
use Rattle.counting.specs.Ints.{eq_z}
use Rattle.counting.specs.Tests.{eq_cases, bool_cases, never, and_split}
use Rattle.constraint.specs.Kind.{kind_number, kinds, kind_in, kind_of, is_size_limit}
use Rattle.constraint.specs.Cases.{operator_number, negated_operator, operator_of, case_of_target, target_operand, target_of, case_of_extra, extra_operand, extra_of}
use Rattle.constraint.specs.Negation.{negation_refused, negated_with, size_limit_negation, negation_of, constraint_of}
use Rattle.constraint.specs.declared.ConstraintType.{ConstraintType}
use Rattle.constraint.specs.declared.SlotSizeLimitOp.{SlotSizeLimitOp}
use Rattle.constraint.specs.declared.SlotSizeLimitOp.TheVariants.{Eq, Gt, Geq, Neq, Leq, Lt}
use Rattle.constraint.specs.declared.Constraint.{Constraint}
use Rattle.constraint.specs.declared.ConstraintExtra.{ConstraintExtra}
use Rattle.constraint.specs.declared.ConstraintExtra.TheVariants as Extra

-- the cases 1 to 4
abbrev pub is_target : ℕ → Bool
is_target c = ltb 0 c && ltb c 5

-- the numbers 1 to 3 and -1 to -3
abbrev pub is_operator : ℤ → Bool
is_operator z = (not (eq_z z (pos 0)) && lt_z (negsuc 3) z) && lt_z z (pos 4)

abbrev pub has_operator : ℕ → ℤ → Bool
has_operator c z = eqb c 2 && is_operator z

abbrev pub has_extra : ℕ → ℤ → Bool
has_extra c z = eqb c 1 || has_operator c z

-- an extra with its operator negated
abbrev pub negated_extra : ConstraintExtra → ConstraintExtra
negated_extra Extra.None = Extra.None
negated_extra (Extra.Offset z) = Extra.None
negated_extra (Extra.SlotSizeLimitOp o) = Extra.SlotSizeLimitOp (negated_operator o)

-- ---- laws

-- each case of a target by itself, and one that has none
module _ {G : Type 0} (c : ℕ) where
  by_case : ((c ≡ 1) → G) → ((c ≡ 2) → G) → ((c ≡ 3) → G) → ((c ≡ 4) → G) → ((eqb c 1 ≡ false) × (eqb c 2 ≡ false) × (eqb c 3 ≡ false) × (eqb c 4 ≡ false) × (is_target c ≡ false) → G) → G
  by_case f₁ f₂ f₃ f₄ f =
      eq_cases c 1 (λ p e. f₁ p) (λ p₁ e₁.
      eq_cases c 2 (λ p e. f₂ p) (λ p₂ e₂.
      eq_cases c 3 (λ p e. f₃ p) (λ p₃ e₃.
      eq_cases c 4 (λ p e. f₄ p) (λ p₄ e₄.
      f (e₁, e₂, e₃, e₄, eq_cases c 0 (λ p e. rw p) (λ p₀ e₀. rw (lt-ltb 0 c (omega arith), le-ltb c 5 (omega arith))))))))

pub case_is : (c n : ℕ) → case_of_target (target_of c n) ≡ cond (is_target c) c 0
case_is c n = by_case c (λ p. rw p) (λ p. rw p) (λ p. rw p) (λ p. rw p) (λ h. rw (h.0, h.1, h.2, h.3, h.4))

pub operand_is : (c n : ℕ) → target_operand (target_of c n) ≡ cond (is_target c) n 0
operand_is c n = by_case c (λ p. rw p) (λ p. rw p) (λ p. rw p) (λ p. rw p) (λ h. rw (h.0, h.1, h.2, h.3, h.4))

-- the operator that a number stands for
record Operator (z : ℤ) : Type 0 where
  op : SlotSizeLimitOp
  is : operator_of z ≡ Extra.SlotSizeLimitOp op
  number : operator_number op ≡ z

operator : (z : ℤ) → is_operator z ≡ true → Operator z
unfolding operator_of eq_z
operator (pos zero) h = never (sym h)
operator (pos (suc zero)) h = record { op = Eq; is = refl; number = refl }
operator (pos (suc (suc zero))) h = record { op = Gt; is = refl; number = refl }
operator (pos (suc (suc (suc zero)))) h = record { op = Geq; is = refl; number = refl }
operator (pos (suc (suc (suc (suc n))))) h = let k = suc (suc (suc (suc n))) in let p : ((not (eqb k 0) && true) ≡ true) × (ltb k 4 ≡ true) = and_split h in absurd (omega (arith, ltb-true (suc (suc (suc (suc n)))) 4 p.1))
operator (negsuc zero) h = record { op = Neq; is = refl; number = refl }
operator (negsuc (suc zero)) h = record { op = Leq; is = refl; number = refl }
operator (negsuc (suc (suc zero))) h = record { op = Lt; is = refl; number = refl }
operator (negsuc (suc (suc (suc n)))) h = let p : (ltb (suc (suc (suc n))) 3 ≡ true) × (true ≡ true) = and_split h in absurd (omega (arith, ltb-true (suc (suc (suc n))) 3 p.0))

no_operator : (z : ℤ) → is_operator z ≡ false → operator_of z ≡ Extra.None
unfolding operator_of eq_z
no_operator (pos zero) h = refl
no_operator (pos (suc zero)) h = never h
no_operator (pos (suc (suc zero))) h = never h
no_operator (pos (suc (suc (suc zero)))) h = never h
no_operator (pos (suc (suc (suc (suc n))))) h = let k = suc (suc (suc (suc n))) in rw (ne_eqb k 1 (λ e. omega arith), ne_eqb k 2 (λ e. omega arith), ne_eqb k 3 (λ e. omega arith))
no_operator (negsuc zero) h = never h
no_operator (negsuc (suc zero)) h = never h
no_operator (negsuc (suc (suc zero))) h = never h
no_operator (negsuc (suc (suc (suc n)))) h = let k = suc (suc (suc n)) in rw (ne_eqb k 0 (λ e. omega arith), ne_eqb k 1 (λ e. omega arith), ne_eqb k 2 (λ e. omega arith))

pub extra_case_is : (c : ℕ) (z : ℤ) → case_of_extra (extra_of c z) ≡ cond (has_extra c z) c 0
extra_case_is c z =
    eq_cases c 1 (λ p e. rw p) (λ p₁ e₁.
    eq_cases c 2 (λ p e. rw p (bool_cases (is_operator z) (λ t. rw (t, (operator z t).is)) (λ t. rw (t, no_operator z t))))
    (λ p₂ e₂. rw (e₁, e₂)))

pub extra_operand_is : (c : ℕ) (z : ℤ) → extra_operand (extra_of c z) ≡ cond (has_extra c z) z (pos 0)
extra_operand_is c z =
    eq_cases c 1 (λ p e. rw p) (λ p₁ e₁.
    eq_cases c 2 (λ p e. rw p (bool_cases (is_operator z) (λ t. rw (t, (operator z t).is) (operator z t).number) (λ t. rw (t, no_operator z t))))
    (λ p₂ e₂. rw (e₁, e₂)))

-- a kind that is read has the number that it was read from, or 0
kind_in_lem : (ks : List ConstraintType) (k m : ℕ) → (k ≡ m → ⊥) → (0 ≡ m → ⊥) → kind_number (kind_in ks k) ≡ m → ⊥
kind_in_lem [] k m n z = z
kind_in_lem (one ∷ ks) k m n z = eq_cases k (kind_number one) (λ p t. rw t (λ e. n (p ∙ e))) (λ p t. rw t (kind_in_lem ks k m n z))

no_limit : (k : ℕ) → (k ≡ 6 → ⊥) → is_size_limit (kind_of k) ≡ false
unfolding kind_of
no_limit k n = ne_eqb (kind_number (kind_in kinds k)) 6 (kind_in_lem kinds k 6 n (λ e. omega arith))

limit_refused : (c : Constraint) (x : ℕ) (z : ℤ) → has_operator x z ≡ false → size_limit_negation c (extra_of x z) ≡ negation_refused 9
limit_refused c x z h =
    eq_cases x 1 (λ p e. rw p) (λ p₁ e₁.
    eq_cases x 2 (λ p e. rw (p, no_operator z (rw p at h))) (λ p₂ e₂. rw (e₁, e₂)))

limit_negated : (c : Constraint) (x : ℕ) (z : ℤ) → has_operator x z ≡ true → size_limit_negation c (extra_of x z) ≡ negated_with c (negated_extra (operator_of z))
limit_negated c x z h =
    let p : (eqb x 2 ≡ true) × (is_operator z ≡ true) = and_split h in
    rw (eqb-true x 2 p.0, (operator z p.1).is)

-- the case of a negated operator is an operator's
pub negated_case_is : (x : ℕ) (z : ℤ) → has_operator x z ≡ true → case_of_extra (negated_extra (operator_of z)) ≡ 2
negated_case_is x z h = let p : (eqb x 2 ≡ true) × (is_operator z ≡ true) = and_split h in rw (operator z p.1).is

-- the negation of a constraint in numbers: a size limit without an operator, one with, and every other kind
module _ (k l t n x : ℕ) (z : ℤ) where
  pub negation_refused_lem : k ≡ 6 → has_operator x z ≡ false → negation_of (constraint_of k l t n x z) ≡ negation_refused 9
  unfolding negation_of kind_of
  negation_refused_lem e h = rw e (limit_refused (constraint_of 6 l t n x z) x z h)

  pub negation_limit : k ≡ 6 → has_operator x z ≡ true → negation_of (constraint_of k l t n x z) ≡ negated_with (constraint_of 6 l t n x z) (negated_extra (operator_of z))
  unfolding negation_of kind_of
  negation_limit e h = rw e (limit_negated (constraint_of 6 l t n x z) x z h)

  pub negation_else : (k ≡ 6 → ⊥) → negation_of (constraint_of k l t n x z) ≡ negated_with (constraint_of k l t n x z) (extra_of x z)
  unfolding negation_of
  negation_else h = let e : is_size_limit (kind_of k) ≡ false = no_limit k h in rw e
