-- An accepted constraint is told by its numbers as they stand. Assumes nothing.
use Rattle.std.specs.Prelude.{ℕ, ◌<◌, ◌≡◌, false, List, [], ◌∷◌, ◌≢◌, ℤ}
use Rattle.std.proofs.Common.{sym, arith, ltb-true, le-ltb}
use Rattle.counting.specs.Ints.{eq_z}
use Rattle.counting.specs.Signed.{same_eq_z}
use Rattle.counting.specs.Tests.{bool_cases, eq_cases}
use Rattle.constraint.specs.Cases.{case_of_target, target_operand, target_of, case_of_extra, extra_operand, extra_of, operator_number, operator_in, operator_of, operators}
use Rattle.constraint.specs.Kind.{kind_number, kind_of}
use Rattle.constraint.specs.declared.SlotSizeLimitOp.{SlotSizeLimitOp}
use Rattle.input_data.specs.Accepted.{AcceptedList}
use Rattle.input_data.specs.ByNumber.{six, four}
use Rattle.input_data.specs.Checks.{bad_kind}
use Rattle.input_data.specs.Day.{numbers_at, constraint_of_numbers}
use Rattle.input_data.specs.Fits.{left_is, right_is_case, extra_is_case}
use Rattle.input_data.specs.Operands.{left_case, right_case, read_case, bad_operand}
use Rattle.input_data.specs.declared.ConstraintNumbers.{ConstraintNumbers}
use Rattle.input_data.specs.declared.ConstraintList.{ConstraintList}

-- the constraint's kind and target are the numbers themselves
pub record AsNumbers (c : ConstraintNumbers) : Type 0 where
  pub kind : kind_number (kind_of c.kind) ≡ c.kind
  pub target : target_operand (target_of c.target_case c.target) ≡ c.target

-- .. and so is the extra, which kinds 1 to 4 do not read; what is left after kind 5 names a slot, which is a byte
pub record WithExtra (c : ConstraintNumbers) : Type 0 where
  pub numbers : AsNumbers c
  pub slot : c.kind ≢ 1 → c.kind ≢ 2 → c.kind ≢ 3 → c.kind ≢ 4 → c.kind ≢ 5 → c.left < 255
  pub extra : c.kind ≢ 1 → c.kind ≢ 2 → c.kind ≢ 3 → c.kind ≢ 4 → extra_operand (extra_of c.extra_case c.extra) ≡ c.extra

-- .. of every constraint of a list
pub record Numbered (P : ConstraintNumbers → Type 0) (l : ConstraintList) : Type 0 where
  pub each : (j : ℕ) → j < l.count → P (numbers_at l j)

target_back : (t n : ℕ) → 0 < case_of_target (target_of t n) → target_operand (target_of t n) ≡ n
target_back t n h =
    eq_cases t 1 (λ q f. rw q) (λ q₁ a.
    eq_cases t 2 (λ q f. rw q) (λ q₂ b.
    eq_cases t 3 (λ q f. rw q) (λ q₃ c.
    eq_cases t 4 (λ q f. rw q) (λ q₄ d. absurd (let z : 0 < 0 = rw (a, b, c, d) at h in omega arith)))))

operator_back : (os : List SlotSizeLimitOp) (z : ℤ) → 0 < case_of_extra (operator_in os z) → extra_operand (operator_in os z) ≡ z
operator_back [] z h = absurd (omega arith)
operator_back (o ∷ os) z h = bool_cases (eq_z z (operator_number o))
    (λ t. rw t (sym (same_eq_z z (operator_number o) t)))
    (λ t. rw t (operator_back os z (rw t at h)))

extra_back : (c : ℕ) (z : ℤ) → 0 < case_of_extra (extra_of c z) → extra_operand (extra_of c z) ≡ z
unfolding operator_of
extra_back c z h =
    eq_cases c 1 (λ q f. rw q) (λ q₁ a.
    eq_cases c 2 (λ q f. let g : 0 < case_of_extra (operator_in operators z) = rw q at h in rw q (operator_back operators z g)) (λ q₂ b. absurd (let y : 0 < 0 = rw (a, b) at h in omega arith)))

module _ (choosers choices slots : ℕ) (c : ConstraintNumbers) (fine : bad_operand choosers choices slots (constraint_of_numbers c) ≡ false) where
  target_is : (w : ℕ) → 0 < w → right_case (kind_of c.kind) ≡ w → target_operand (target_of c.target_case c.target) ≡ c.target
  target_is w h e = target_back c.target_case c.target (omega (arith, right_is_case choosers choices slots (constraint_of_numbers c) fine, e))

  extra_is : (w : ℕ) → 0 < w → read_case (kind_of c.kind) ≡ w → extra_operand (extra_of c.extra_case c.extra) ≡ c.extra
  extra_is w h e = extra_back c.extra_case c.extra (omega (arith, extra_is_case choosers choices slots (constraint_of_numbers c) fine (omega (arith, e)), e))

  slot_left : left_case (kind_of c.kind) ≡ 1 → c.left < slots
  slot_left e = ltb-true c.left slots (rw e at (left_is choosers choices slots (constraint_of_numbers c) fine))

  plain : (w : ℕ) → 0 < w → right_case (kind_of c.kind) ≡ w → kind_number (kind_of c.kind) ≡ c.kind → AsNumbers c
  plain w h e k = record { kind = k; target = target_is w h e }

  scheduling_numbers : slots < 256 → bad_kind 1 6 c.kind ≡ false → WithExtra c
  unfolding kind_of
  scheduling_numbers few b = six c.kind b
      (λ q. record { numbers = plain 1 (omega arith) (rw q) (rw q); slot = λ a b c d e. absurd (a q); extra = λ a b c d. absurd (a q) })
      (λ q. record { numbers = plain 1 (omega arith) (rw q) (rw q); slot = λ a b c d e. absurd (b q); extra = λ a b c d. absurd (b q) })
      (λ q. record { numbers = plain 2 (omega arith) (rw q) (rw q); slot = λ a b c d e. absurd (c q); extra = λ a b c d. absurd (c q) })
      (λ q. record { numbers = plain 2 (omega arith) (rw q) (rw q); slot = λ a b c d e. absurd (d q); extra = λ a b c d. absurd (d q) })
      (λ q. record { numbers = plain 2 (omega arith) (rw q) (rw q); slot = λ a b c d e. absurd (e q); extra = λ a b c d. extra_is 1 (omega arith) (rw q) })
      (λ q. record { numbers = plain 4 (omega arith) (rw q) (rw q); slot = λ a b c d e. omega (arith, slot_left (rw q)); extra = λ a b c d. extra_is 2 (omega arith) (rw q) })

  assignment_numbers : bad_kind 65536 65539 c.kind ≡ false → AsNumbers c
  unfolding kind_of
  assignment_numbers b = four c.kind b
      (λ q. plain 2 (omega arith) (rw q) (rw q))
      (λ q. plain 2 (omega arith) (rw q) (rw q))
      (λ q. plain 2 (omega arith) (rw q) (rw q))
      (λ q. plain 3 (omega arith) (rw q) (rw q))

module _ {choosers choices slots : ℕ} {l : ConstraintList} where
  pub scheduling_numbered : slots < 256 → AcceptedList choosers choices slots 1 6 l → Numbered WithExtra l
  scheduling_numbered few a = record { each = λ j h. scheduling_numbers choosers choices slots (numbers_at l j) (a.operands j h) few (simp (le-ltb _ _ (a.kind_least j h), le-ltb _ _ (a.kind_most j h))) }

  pub assignment_numbered : AcceptedList choosers choices slots 65536 65539 l → Numbered AsNumbers l
  assignment_numbered a = record { each = λ j h. assignment_numbers choosers choices slots (numbers_at l j) (a.operands j h) (simp (le-ltb _ _ (a.kind_least j h), le-ltb _ _ (a.kind_most j h))) }
