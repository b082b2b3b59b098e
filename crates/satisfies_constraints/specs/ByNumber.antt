-- The tests of one constraint by its kind's number, as the code makes them, and that they are the definitions on constraints that passed 8 and 9. Assumes nothing.
use Rattle.std.specs.Prelude.{ℕ, ◌<◌, ◌≤◌, ◌≡◌, refl, Bool, cond, not, ◌&&◌, ◌||◌, List, ◌≢◌, eqb, ltb, leb, ℤ, pos, negsuc}
use Rattle.std.proofs.Common.{sym, ◌∙◌, arith}
use borrow.Author.Tests.{ltb-true, le-ltb}
use Rattle.assignment.specs.Plan.{is_scheduled, is_in_choice}
use Rattle.constraint.specs.Cases.{operator_number, case_of_target, target_operand, case_of_extra, extra_operand}
use Rattle.constraint.specs.Kind.{kind_number, kind_of}
use Rattle.constraint.specs.declared.Constraint.{Constraint}
use Rattle.constraint.specs.declared.ConstraintExtra.{ConstraintExtra}
use Rattle.constraint.specs.declared.ConstraintExtra.TheVariants as Extra
use Rattle.constraint.specs.declared.ConstraintTarget.{ConstraintTarget}
use Rattle.constraint.specs.declared.ConstraintTarget.TheVariants as Target
use Rattle.constraint.specs.declared.ConstraintType.{ConstraintType}
use Rattle.constraint.specs.declared.ConstraintType.TheVariants.{Invalid, ChoiceIsInSlot, ChoiceIsNotInSlot, ChoicesAreInSameSlot, ChoicesAreNotInSameSlot, ChoicesHaveOffset, SlotHasLimitedSize, SlotContainsChoice, SlotNotContainsChoice, SlotsHaveSameChoices, ChoicesHaveSameChoosers, ChooserIsInChoice, ChooserIsNotInChoice, ChoosersHaveSameChoices, ChoiceContainsChooser, ChoiceNotContainsChooser}
use Rattle.constraint.specs.declared.SlotSizeLimitOp.{SlotSizeLimitOp}
use Rattle.constraint.specs.declared.SlotSizeLimitOp.TheVariants.{Eq, Gt, Geq, Neq, Leq, Lt}
use Rattle.counting.specs.Ints.{eq_z}
use Rattle.counting.specs.Tests.{eq_cases}
use Rattle.input_data.specs.Accepted.{AcceptedList}
use Rattle.input_data.specs.ByNumber.{four}
use Rattle.input_data.specs.Day.{numbers_at, constraint_at}
use Rattle.input_data.specs.Fits.{left_is, right_is, right_is_case, extra_is_case}
use Rattle.input_data.specs.Numbered.{AsNumbers, WithExtra, scheduling_numbered, assignment_numbered}
use Rattle.input_data.specs.Operands.{left_case, right_case, read_case}
use Rattle.input_data.specs.declared.ConstraintNumbers.{ConstraintNumbers}
use Rattle.input_data.specs.declared.ConstraintList.{ConstraintList}
use Rattle.scheduling.specs.Schedule.{entry_at}
use Rattle.slot_lists.specs.Sums.{in_slot}
use Rattle.satisfies_constraints.specs.Constraints.{of_slot, of_choice, of_chooser, of_limit, of_offset, of_operator, apart, has_offset, has_size, size_of, scheduling_kind_met, scheduling_at, same_choosers, same_choices, assignment_kind_met, assignment_at}

-- ---- what the code computes

-- the operators' numbers: = 1, > 2, ≥ 3, ≠ −1, ≤ −2, < −3
unfoldable pub size_by_number : ℤ → ℕ → ℕ → Bool
unfolding eq_z
size_by_number op count limit =
    cond (eq_z op (pos 1)) (eqb count limit)
    (cond (eq_z op (pos 2)) (ltb limit count)
    (cond (eq_z op (pos 3)) (leb limit count)
    (cond (eq_z op (negsuc 0)) (not (eqb count limit))
    (cond (eq_z op (negsuc 1)) (leb count limit)
    (ltb count limit)))))

unfoldable pub meets_schedule : ℕ → List ℕ → ℕ → ℕ → ℕ → ℤ → Bool
unfolding has_offset size_by_number eq_z
meets_schedule choices sch kind left right extra =
    cond (eqb kind 1) (in_slot (entry_at sch) right left)
    (cond (eqb kind 2) (not (in_slot (entry_at sch) right left))
    (cond (eqb kind 3) (eqb (entry_at sch left) (entry_at sch right))
    (cond (eqb kind 4) (apart (entry_at sch left) (entry_at sch right))
    (cond (eqb kind 5) (has_offset (entry_at sch left) (entry_at sch right) extra)
    (size_by_number extra (size_of choices sch left) right)))))

unfoldable pub meets_plan : ℕ → ℕ → ℕ → List ℕ → List ℕ → ℕ → ℕ → ℕ → Bool
meets_plan choosers choices slots sch plan kind left right =
    cond (eqb kind 65536) (not (is_scheduled sch left && is_scheduled sch right) || same_choosers choosers slots plan left right)
    (cond (eqb kind 65537) (not (is_scheduled sch right) || is_in_choice slots plan left right)
    (cond (eqb kind 65538) (not (is_in_choice slots plan left right))
    (same_choices choices slots plan left right)))

-- ---- a target and an extra of the case that is read

pub of_slot_lem : (t : ConstraintTarget) (p : ℕ → Bool) → case_of_target t ≡ 1 → of_slot t p ≡ p (target_operand t)
unfolding of_slot
of_slot_lem Target.None p e = absurd (omega arith)
of_slot_lem (Target.Slot s) p e = refl
of_slot_lem (Target.Choice k) p e = absurd (omega arith)
of_slot_lem (Target.Chooser c) p e = absurd (omega arith)
of_slot_lem (Target.Limit n) p e = absurd (omega arith)

pub of_choice_lem : (t : ConstraintTarget) (p : ℕ → Bool) → case_of_target t ≡ 2 → of_choice t p ≡ p (target_operand t)
unfolding of_choice
of_choice_lem Target.None p e = absurd (omega arith)
of_choice_lem (Target.Slot s) p e = absurd (omega arith)
of_choice_lem (Target.Choice k) p e = refl
of_choice_lem (Target.Chooser c) p e = absurd (omega arith)
of_choice_lem (Target.Limit n) p e = absurd (omega arith)

pub of_chooser_lem : (t : ConstraintTarget) (p : ℕ → Bool) → case_of_target t ≡ 3 → of_chooser t p ≡ p (target_operand t)
unfolding of_chooser
of_chooser_lem Target.None p e = absurd (omega arith)
of_chooser_lem (Target.Slot s) p e = absurd (omega arith)
of_chooser_lem (Target.Choice k) p e = absurd (omega arith)
of_chooser_lem (Target.Chooser c) p e = refl
of_chooser_lem (Target.Limit n) p e = absurd (omega arith)

of_limit_lem : (t : ConstraintTarget) (p : ℕ → Bool) → case_of_target t ≡ 4 → of_limit t p ≡ p (target_operand t)
unfolding of_limit
of_limit_lem Target.None p e = absurd (omega arith)
of_limit_lem (Target.Slot s) p e = absurd (omega arith)
of_limit_lem (Target.Choice k) p e = absurd (omega arith)
of_limit_lem (Target.Chooser c) p e = absurd (omega arith)
of_limit_lem (Target.Limit n) p e = refl

of_offset_lem : (x : ConstraintExtra) (p : ℤ → Bool) → case_of_extra x ≡ 1 → of_offset x p ≡ p (extra_operand x)
unfolding of_offset
of_offset_lem Extra.None p e = absurd (omega arith)
of_offset_lem (Extra.Offset z) p e = refl
of_offset_lem (Extra.SlotSizeLimitOp o) p e = absurd (omega arith)

size_number : (o : SlotSizeLimitOp) (count limit : ℕ) → has_size o count limit ≡ size_by_number (operator_number o) count limit
unfolding has_size size_by_number eq_z
size_number Eq count limit = refl
size_number Gt count limit = refl
size_number Geq count limit = refl
size_number Neq count limit = refl
size_number Leq count limit = refl
size_number Lt count limit = refl

of_operator_lem : (x : ConstraintExtra) (count limit : ℕ) → case_of_extra x ≡ 2 → of_operator x (λ o. has_size o count limit) ≡ size_by_number (extra_operand x) count limit
unfolding of_operator
of_operator_lem Extra.None count limit e = absurd (omega arith)
of_operator_lem (Extra.Offset z) count limit e = absurd (omega arith)
of_operator_lem (Extra.SlotSizeLimitOp o) count limit e = size_number o count limit

-- ---- one constraint whose target and extra are of the cases that its kind reads

by_scheduling : (choices : ℕ) (sch : List ℕ) (k : ConstraintType) (left : ℕ) (t : ConstraintTarget) (x : ConstraintExtra)
    → 1 ≤ kind_number k → kind_number k ≤ 6 → case_of_target t ≡ right_case k → (read_case k ≢ 0 → case_of_extra x ≡ read_case k)
    → scheduling_kind_met choices sch k left t x ≡ meets_schedule choices sch (kind_number k) left (target_operand t) (extra_operand x)
unfolding scheduling_kind_met meets_schedule
by_scheduling choices sch Invalid left t x l m e f = absurd (omega arith)
by_scheduling choices sch ChoiceIsInSlot left t x l m e f = of_slot_lem t _ e
by_scheduling choices sch ChoiceIsNotInSlot left t x l m e f = of_slot_lem t _ e
by_scheduling choices sch ChoicesAreInSameSlot left t x l m e f = of_choice_lem t _ e
by_scheduling choices sch ChoicesAreNotInSameSlot left t x l m e f = of_choice_lem t _ e
by_scheduling choices sch ChoicesHaveOffset left t x l m e f = of_choice_lem t _ e ∙ of_offset_lem x _ (f (λ z. omega arith))
by_scheduling choices sch SlotHasLimitedSize left t x l m e f = of_limit_lem t _ e ∙ of_operator_lem x _ _ (f (λ z. omega arith))
by_scheduling choices sch SlotContainsChoice left t x l m e f = absurd (omega arith)
by_scheduling choices sch SlotNotContainsChoice left t x l m e f = absurd (omega arith)
by_scheduling choices sch SlotsHaveSameChoices left t x l m e f = absurd (omega arith)
by_scheduling choices sch ChoicesHaveSameChoosers left t x l m e f = absurd (omega arith)
by_scheduling choices sch ChooserIsInChoice left t x l m e f = absurd (omega arith)
by_scheduling choices sch ChooserIsNotInChoice left t x l m e f = absurd (omega arith)
by_scheduling choices sch ChoosersHaveSameChoices left t x l m e f = absurd (omega arith)
by_scheduling choices sch ChoiceContainsChooser left t x l m e f = absurd (omega arith)
by_scheduling choices sch ChoiceNotContainsChooser left t x l m e f = absurd (omega arith)

by_assignment : (choosers choices slots : ℕ) (sch plan : List ℕ) (k : ConstraintType) (left : ℕ) (t : ConstraintTarget)
    → 65536 ≤ kind_number k → kind_number k ≤ 65539 → case_of_target t ≡ right_case k
    → assignment_kind_met choosers choices slots sch plan k left t ≡ meets_plan choosers choices slots sch plan (kind_number k) left (target_operand t)
unfolding assignment_kind_met meets_plan
by_assignment choosers choices slots sch plan Invalid left t l m e = absurd (omega arith)
by_assignment choosers choices slots sch plan ChoiceIsInSlot left t l m e = absurd (omega arith)
by_assignment choosers choices slots sch plan ChoiceIsNotInSlot left t l m e = absurd (omega arith)
by_assignment choosers choices slots sch plan ChoicesAreInSameSlot left t l m e = absurd (omega arith)
by_assignment choosers choices slots sch plan ChoicesAreNotInSameSlot left t l m e = absurd (omega arith)
by_assignment choosers choices slots sch plan ChoicesHaveOffset left t l m e = absurd (omega arith)
by_assignment choosers choices slots sch plan SlotHasLimitedSize left t l m e = absurd (omega arith)
by_assignment choosers choices slots sch plan SlotContainsChoice left t l m e = absurd (omega arith)
by_assignment choosers choices slots sch plan SlotNotContainsChoice left t l m e = absurd (omega arith)
by_assignment choosers choices slots sch plan SlotsHaveSameChoices left t l m e = absurd (omega arith)
by_assignment choosers choices slots sch plan ChoicesHaveSameChoosers left t l m e = of_choice_lem t _ e
by_assignment choosers choices slots sch plan ChooserIsInChoice left t l m e = of_choice_lem t _ e
by_assignment choosers choices slots sch plan ChooserIsNotInChoice left t l m e = of_choice_lem t _ e
by_assignment choosers choices slots sch plan ChoosersHaveSameChoices left t l m e = of_chooser_lem t _ e
by_assignment choosers choices slots sch plan ChoiceContainsChooser left t l m e = absurd (omega arith)
by_assignment choosers choices slots sch plan ChoiceNotContainsChooser left t l m e = absurd (omega arith)

-- ---- the constraints of an accepted list, by their numbers as they stand

-- what is left after kind 5 names a slot, which is a byte
abbrev pub SlotLeft : ℕ → ℕ → Type 0
SlotLeft kind left = kind ≢ 1 → kind ≢ 2 → kind ≢ 3 → kind ≢ 4 → kind ≢ 5 → left < 255

-- kinds 1 to 4 do not read the extra
schedule_extra : (choices : ℕ) (sch : List ℕ) (left kind right : ℕ) {z z' : ℤ} → (kind ≢ 1 → kind ≢ 2 → kind ≢ 3 → kind ≢ 4 → z ≡ z') → meets_schedule choices sch kind left right z ≡ meets_schedule choices sch kind left right z'
unfolding meets_schedule
schedule_extra choices sch left kind right h =
    eq_cases kind 1 (λ q e. rw e) (λ q₁ e₁.
    eq_cases kind 2 (λ q e. rw (e₁, e)) (λ q₂ e₂.
    eq_cases kind 3 (λ q e. rw (e₁, e₂, e)) (λ q₃ e₃.
    eq_cases kind 4 (λ q e. rw (e₁, e₂, e₃, e)) (λ q₄ e₄. rw (h q₁ q₂ q₃ q₄)))))

schedule_eq : (choices : ℕ) (sch : List ℕ) (left : ℕ) {k k' r r' : ℕ} (z : ℤ) → k ≡ k' → r ≡ r' → meets_schedule choices sch k left r z ≡ meets_schedule choices sch k' left r' z
schedule_eq choices sch left z p q = rw (p, q)

plan_eq : (choosers choices slots : ℕ) (sch plan : List ℕ) (left : ℕ) {k k' r r' : ℕ} → k ≡ k' → r ≡ r' → meets_plan choosers choices slots sch plan k left r ≡ meets_plan choosers choices slots sch plan k' left r'
plan_eq choosers choices slots sch plan left p q = rw (p, q)

module _ {choosers choices slots : ℕ} {l : ConstraintList} (a : AcceptedList choosers choices slots 1 6 l) (few : slots ≤ 8) (j : ℕ) (h : j < l.count) where
  abbrev numbers : ConstraintNumbers
  numbers = numbers_at l j

  abbrev con : Constraint
  con = constraint_at l j

  with_extra : WithExtra numbers
  with_extra = (scheduling_numbered (omega arith) a).each j h

  pub slot_left : SlotLeft (numbers_at l j).kind (numbers_at l j).left
  slot_left = with_extra.slot

  pub schedule_numbers : (n : ℕ) (sch : List ℕ) → meets_schedule n sch (numbers_at l j).kind (numbers_at l j).left (numbers_at l j).target (numbers_at l j).extra ≡ scheduling_at n sch l j
  schedule_numbers n sch =
      let w = with_extra in
      let k = w.numbers.kind in
      sym (by_scheduling n sch con.kind con.left con.right con.extra (omega (arith, k, a.kind_least j h)) (omega (arith, k, a.kind_most j h)) (right_is_case choosers choices slots con (a.operands j h)) (extra_is_case choosers choices slots con (a.operands j h))
      ∙ schedule_eq n sch con.left (extra_operand con.extra) k w.numbers.target
      ∙ schedule_extra n sch con.left numbers.kind numbers.target w.extra)

-- the choosers that a constraint names are of the day
pub record OperandsIn (choosers kind left right : ℕ) : Type 0 where
  pub is_in : kind ≡ 65537 → left < choosers
  pub is_not_in : kind ≡ 65538 → left < choosers
  pub same : kind ≢ 65536 → kind ≢ 65537 → kind ≢ 65538 → (left < choosers) × (right < choosers)

module _ {choosers choices slots : ℕ} {l : ConstraintList} (a : AcceptedList choosers choices slots 65536 65539 l) (j : ℕ) (h : j < l.count) where
  abbrev asked : ConstraintNumbers
  asked = numbers_at l j

  abbrev rule : Constraint
  rule = constraint_at l j

  as_numbers : AsNumbers asked
  as_numbers = (assignment_numbered a).each j h

  left_chooser : left_case rule.kind ≡ 3 → asked.left < choosers
  left_chooser e = ltb-true _ _ (rw e at (left_is choosers choices slots rule (a.operands j h)))

  right_chooser : right_case rule.kind ≡ 3 → asked.target < choosers
  right_chooser e = rw as_numbers.target at (ltb-true (target_operand rule.right) choosers (rw e at (right_is choosers choices slots rule (a.operands j h))))

  pub operands_in : OperandsIn choosers (numbers_at l j).kind (numbers_at l j).left (numbers_at l j).target
  unfolding kind_of
  operands_in = four asked.kind (simp (le-ltb _ _ (a.kind_least j h), le-ltb _ _ (a.kind_most j h)))
      (λ q. record { is_in = λ z. absurd (omega arith); is_not_in = λ z. absurd (omega arith); same = λ z y x. absurd (z q) })
      (λ q. record { is_in = λ z. left_chooser (rw q); is_not_in = λ z. absurd (omega arith); same = λ z y x. absurd (y q) })
      (λ q. record { is_in = λ z. absurd (omega arith); is_not_in = λ z. left_chooser (rw q); same = λ z y x. absurd (x q) })
      (λ q. record { is_in = λ z. absurd (omega arith); is_not_in = λ z. absurd (omega arith); same = λ z y x. (left_chooser (rw q), right_chooser (rw q)) })

  pub plan_numbers : (sch plan : List ℕ) → meets_plan choosers choices slots sch plan (numbers_at l j).kind (numbers_at l j).left (numbers_at l j).target ≡ assignment_at choosers choices slots sch plan l j
  plan_numbers sch plan =
      let n = as_numbers.kind in
      sym (by_assignment choosers choices slots sch plan rule.kind rule.left rule.right (omega (arith, n, a.kind_least j h)) (omega (arith, n, a.kind_most j h)) (right_is_case choosers choices slots rule (a.operands j h))
      ∙ plan_eq choosers choices slots sch plan rule.left n as_numbers.target)
