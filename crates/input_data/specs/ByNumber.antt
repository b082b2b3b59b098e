-- Check 9 by the kind's number, where 8 does not apply, is check 9 of the Rust's constraint. Assumes nothing.
use Rattle.std.specs.Prelude.{ℕ, ◌-◌, ◌≡◌, refl, Bool, true, cond, not, ◌&&◌, eqb}
use Rattle.std.proofs.Math.Path.{ap}
use Rattle.std.proofs.Math.Bool.{false, ◌||◌}
use Rattle.std.proofs.Common.{arith, ltb-false}
use Rattle.std.proofs.Math.Dec.{ltb}
use Rattle.counting.specs.FoldLaws.{fold_ext}
use Rattle.counting.specs.Tests.{eq_cases, bool_cases, or_split, none_each}
use Rattle.counting.specs.Fold.{fault_below, some_below}
use Rattle.constraint.specs.Kind.{kind_of}
use Rattle.constraint.specs.Cases.{case_of_target, target_operand, target_of, case_of_extra, extra_of}
use Rattle.input_data.specs.declared.ConstraintNumbers.{ConstraintNumbers}
use Rattle.input_data.specs.declared.ConstraintList.{ConstraintList}
use Rattle.input_data.specs.Day.{constraint_of_numbers, numbers_at}
use Rattle.input_data.specs.Operands.{left_fits, right_fits, extra_fits, bad_operand}
use Rattle.input_data.specs.Checks.{bad_kind, bad_kind_at, bad_kinds, bad_operand_at, bad_operands, first_of}

abbrev pub extra_by_number : ConstraintNumbers → Bool
extra_by_number c = cond (ltb c.kind 5) true (eqb (case_of_extra (extra_of c.extra_case c.extra)) (c.kind - 4))

abbrev pub scheduling_by_number : ℕ → ℕ → ConstraintNumbers → Bool
scheduling_by_number choices slots c =
    ltb c.left (cond (eqb c.kind 6) slots choices)
    && (eqb c.target_case (cond (eqb c.kind 6) 4 (cond (ltb c.kind 3) 1 2)) && (eqb c.kind 6 || ltb c.target (cond (ltb c.kind 3) slots choices)))
    && extra_by_number c

abbrev pub assignment_by_number : ℕ → ℕ → ConstraintNumbers → Bool
assignment_by_number choosers choices c =
    ltb c.left (cond (eqb c.kind 65536) choices choosers)
    && (eqb c.target_case (cond (eqb c.kind 65539) 3 2) && ltb c.target (cond (eqb c.kind 65539) choosers choices))

-- a target that is of the case w: its number is w, and its operand the number beside it
module _ (t n : ℕ) (p : ℕ → Bool) where
  abbrev Right : ℕ → Type 0
  Right w = (eqb (case_of_target (target_of t n)) w && p (target_operand (target_of t n))) ≡ (eqb t w && p n)

  right : (w : ℕ) → Right w → Right w
  right w e = e

  by_case : (w : ℕ) → (t ≡ 1 → Right w) → (t ≡ 2 → Right w) → (t ≡ 3 → Right w) → (t ≡ 4 → Right w) → (eqb t 1 ≡ false → eqb t 2 ≡ false → eqb t 3 ≡ false → eqb t 4 ≡ false → Right w) → Right w
  by_case w a b c d e =
      eq_cases t 1 (λ q f. a q) (λ q₁ f₁.
      eq_cases t 2 (λ q f. b q) (λ q₂ f₂.
      eq_cases t 3 (λ q f. c q) (λ q₃ f₃.
      eq_cases t 4 (λ q f. d q) (λ q₄ f₄. e f₁ f₂ f₃ f₄))))

  right_1 : Right 1
  right_1 = by_case 1 (λ q. rw q) (λ q. rw q) (λ q. rw q) (λ q. rw q) (λ a b c d. simp (a, b, c, d))

  right_2 : Right 2
  right_2 = by_case 2 (λ q. rw q) (λ q. rw q) (λ q. rw q) (λ q. rw q) (λ a b c d. simp (a, b, c, d))

  right_3 : Right 3
  right_3 = by_case 3 (λ q. rw q) (λ q. rw q) (λ q. rw q) (λ q. rw q) (λ a b c d. simp (a, b, c, d))

  right_4 : Right 4
  right_4 = by_case 4 (λ q. rw q) (λ q. rw q) (λ q. rw q) (λ q. rw q) (λ a b c d. simp (a, b, c, d))

pub six : {G : Type 0} (k : ℕ) → bad_kind 1 6 k ≡ false → (k ≡ 1 → G) → (k ≡ 2 → G) → (k ≡ 3 → G) → (k ≡ 4 → G) → (k ≡ 5 → G) → (k ≡ 6 → G) → G
six k e a b c d x y =
    let s : (ltb k 1 ≡ false) × (ltb 6 k ≡ false) = or_split e in
    eq_cases k 1 (λ q f. a q) (λ q₁ f₁.
    eq_cases k 2 (λ q f. b q) (λ q₂ f₂.
    eq_cases k 3 (λ q f. c q) (λ q₃ f₃.
    eq_cases k 4 (λ q f. d q) (λ q₄ f₄.
    eq_cases k 5 (λ q f. x q) (λ q₅ f₅. y (omega (arith, ltb-false k 1 s.0, ltb-false 6 k s.1)))))))

pub four : {G : Type 0} (k : ℕ) → bad_kind 65536 65539 k ≡ false → (k ≡ 65536 → G) → (k ≡ 65537 → G) → (k ≡ 65538 → G) → (k ≡ 65539 → G) → G
four k e a b c d =
    let s : (ltb k 65536 ≡ false) × (ltb 65539 k ≡ false) = or_split e in
    eq_cases k 65536 (λ q f. a q) (λ q₁ f₁.
    eq_cases k 65537 (λ q f. b q) (λ q₂ f₂.
    eq_cases k 65538 (λ q f. c q) (λ q₃ f₃. d (omega (arith, ltb-false k 65536 s.0, ltb-false 65539 k s.1)))))

module _ (choosers choices slots : ℕ) (c : ConstraintNumbers) where
  pub scheduling_fits : bad_kind 1 6 c.kind ≡ false → (left_fits choosers choices slots (constraint_of_numbers c) && right_fits choosers choices slots (constraint_of_numbers c) && extra_fits (constraint_of_numbers c)) ≡ scheduling_by_number choices slots c
  unfolding left_fits right_fits extra_fits kind_of
  scheduling_fits e = six c.kind e
      (λ q. rw (q, right_1 c.target_case c.target (λ n. ltb n slots)))
      (λ q. rw (q, right_1 c.target_case c.target (λ n. ltb n slots)))
      (λ q. rw (q, right_2 c.target_case c.target (λ n. ltb n choices)))
      (λ q. rw (q, right_2 c.target_case c.target (λ n. ltb n choices)))
      (λ q. rw (q, right_2 c.target_case c.target (λ n. ltb n choices)))
      (λ q. rw (q, right_4 c.target_case c.target (λ n. true)))

  pub scheduling_bad : bad_kind 1 6 c.kind ≡ false → bad_operand choosers choices slots (constraint_of_numbers c) ≡ not (scheduling_by_number choices slots c)
  scheduling_bad e = ap not (scheduling_fits e)

  and_true : (x : Bool) → (x && true) ≡ x
  and_true true = refl
  and_true false = refl

  assignment_fits : bad_kind 65536 65539 c.kind ≡ false → (left_fits choosers choices slots (constraint_of_numbers c) && right_fits choosers choices slots (constraint_of_numbers c) && extra_fits (constraint_of_numbers c)) ≡ assignment_by_number choosers choices c
  unfolding left_fits right_fits extra_fits kind_of
  assignment_fits e = four c.kind e
      (λ q. rw (q, right_2 c.target_case c.target (λ n. ltb n choices)) (and_true _))
      (λ q. rw (q, right_2 c.target_case c.target (λ n. ltb n choices)) (and_true _))
      (λ q. rw (q, right_2 c.target_case c.target (λ n. ltb n choices)) (and_true _))
      (λ q. rw (q, right_3 c.target_case c.target (λ n. ltb n choosers)) (and_true _))

  pub assignment_bad : bad_kind 65536 65539 c.kind ≡ false → bad_operand choosers choices slots (constraint_of_numbers c) ≡ not (assignment_by_number choosers choices c)
  assignment_bad e = ap not (assignment_fits e)

-- a test of each constraint of a list, by its numbers
abbrev pub bad_numbers_at : (ConstraintNumbers → Bool) → ConstraintList → ℕ → Bool
bad_numbers_at fits l j = not (fits (numbers_at l j))

abbrev pub bad_numbers : (ConstraintNumbers → Bool) → ConstraintList → Bool
bad_numbers fits l = some_below 32 l.count (bad_numbers_at fits l)

abbrev pub bad_scheduling : ℕ → ℕ → ConstraintList → Bool
bad_scheduling choices slots l = bad_numbers (scheduling_by_number choices slots) l

abbrev pub bad_assignment : ℕ → ℕ → ConstraintList → Bool
bad_assignment choosers choices l = bad_numbers (assignment_by_number choosers choices) l

-- where 8 does not apply to a list, 9 may be tested by the kinds' numbers
module _ (choosers choices slots least most : ℕ) (fits : ConstraintNumbers → Bool)
    (same : (c : ConstraintNumbers) → bad_kind least most c.kind ≡ false → bad_operand choosers choices slots (constraint_of_numbers c) ≡ not (fits c)) where
  by_number : (l : ConstraintList) → bad_kinds least most l ≡ false → bad_operands choosers choices slots l ≡ bad_numbers fits l
  unfolding some_below
  by_number l e = fold_ext ◌||◌ false 32 (fault_below l.count (bad_operand_at choosers choices slots l)) (fault_below l.count (bad_numbers_at fits l))
      (λ k h. bool_cases (ltb k l.count)
      (λ t. ap (λ (x : Bool). ltb k l.count && x) (same (numbers_at l k) (rw t at (none_each 32 (fault_below l.count (bad_kind_at least most l)) e k h))))
      (λ t. rw t))

-- in the order of checks: 9 is looked at where 8 applies to neither list
pub eight_nine : (choosers choices slots : ℕ) (s a : ConstraintList) (asked : Bool) (rest : ℕ)
    → first_of (bad_kinds 1 6 s || bad_kinds 65536 65539 a) 8 (first_of (bad_scheduling choices slots s || bad_assignment choosers choices a || asked) 9 rest)
    ≡ first_of (bad_kinds 1 6 s || bad_kinds 65536 65539 a) 8 (first_of (bad_operands choosers choices slots s || bad_operands choosers choices slots a || asked) 9 rest)
unfolding first_of
eight_nine choosers choices slots s a asked rest = bool_cases (bad_kinds 1 6 s || bad_kinds 65536 65539 a)
    (λ e. rw e)
    (λ e. let p : (bad_kinds 1 6 s ≡ false) × (bad_kinds 65536 65539 a ≡ false) = or_split e in
    rw (by_number choosers choices slots 1 6 (scheduling_by_number choices slots) (λ c. scheduling_bad choosers choices slots c) s p.0, by_number choosers choices slots 65536 65539 (assignment_by_number choosers choices) (λ c. assignment_bad choosers choices slots c) a p.1))
