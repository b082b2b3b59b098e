-- A plan that seats everybody meets the assignment constraints, where ties are groups. Assumes nothing.
use Prim.Native.Nat.{ℕ, suc, ◌-◌, ◌*◌, ◌<◌, ◌≤◌}
use Rattle.std.specs.Prelude.{◌≡◌, Bool, ◌&&◌, ◌||◌, List, ◌≢◌}
use Rattle.std.proofs.Math.Path.{refl, sym, ap}
use Rattle.std.proofs.Common.{◌∙◌}
use Rattle.std.proofs.Math.Bool.{true, false, not}
use native.Mathlib.Omega.{arith}
use Rattle.std.proofs.Math.Dec.{eqb}
use borrow.Author.Tests.{eqb-true, eq-eqb, ne_eqb, ltb-true}
use Rattle.assignment.specs.Plan.{is_scheduled, is_seat, is_in_choice}
use Rattle.constraint.specs.Cases.{case_of_target, target_operand}
use Rattle.constraint.specs.Kind.{kind_number, kind_of}
use Rattle.constraint.specs.declared.Constraint.{Constraint}
use Rattle.constraint.specs.declared.ConstraintType.{ConstraintType}
use Rattle.constraint.specs.declared.ConstraintType.TheVariants.{ChoicesHaveSameChoosers, ChooserIsInChoice, ChooserIsNotInChoice, ChoosersHaveSameChoices}
use Rattle.counting.specs.Fold.{gate}
use Rattle.counting.specs.Tests.{eq_cases, bool_cases, never, or_split, each_all, one_passes, some_passes, Passes, below_each}
use Rattle.input_data.specs.Accepted.{AcceptedList}
use Rattle.input_data.specs.Day.{numbers_at, constraint_at}
use Rattle.input_data.specs.Fits.{left_is, right_is, right_is_case}
use Rattle.input_data.specs.Operands.{left_case, right_case, is_one_of}
use Rattle.input_data.specs.declared.InputData.{InputData}
use Rattle.plans.specs.Seatable.{choice_in, sits, member_of}
use Rattle.satisfies_constraints.specs.Constraints.{times_in, as_often, same_choosers, likewise, same_choices, assignment_kind_met, assignment_at, assignment_met}
use Rattle.satisfies_constraints.specs.ByNumber.{of_choice_lem, of_chooser_lem}
use Rattle.scheduling.specs.Schedule.{entry_at}
use Rattle.blocks.specs.Blocks.{beside_in, blocks_by, blocks_at, blocked_by}
use Rattle.feasible_plans.specs.Premises.{ShareGroup, Tied}
use Rattle.feasible_plans.specs.Seats.{Stands, seat_same, allowed, times_scheduled, times_unscheduled}

-- a list of assignment constraints that was accepted has four kinds
kind_cases : {G : Type 0} (n : ℕ) → 65536 ≤ n → n ≤ 65539 → (n ≡ 65536 → G) → (n ≡ 65537 → G) → (n ≡ 65538 → G) → (n ≡ 65539 → G) → G
kind_cases n l m a b c e = eq_cases n 65536 (λ p t. a p) (λ p t. eq_cases n 65537 (λ q u. b q) (λ q u. eq_cases n 65538 (λ r v. c r) (λ r v. e (omega arith))))

module _ {d : InputData} {sch : List ℕ} {limit : ℕ} {preferences plan bytes : List ℕ} (st : Stands d sch limit preferences plan bytes) where
  -- no assignment constraint blocks a seat of the plan
  unblocked : (c s j : ℕ) → c < d.choosers → s < d.slots → j < d.assignment.count → d.assignment.count ≤ 32 → blocks_by (constraint_at d.assignment j) sch c (choice_in d plan c s) ≡ false
  unfolding blocked_by
  unblocked c s j hc hs hj few = below_each 32 d.assignment.count (blocks_at d.assignment sch c (choice_in d plan c s)) few (allowed st c s hc hs).unblocked j hj

  -- ChoicesHaveSameChoosers
  same_choosers_lem : (a b : ℕ) → a < d.choices → b < d.choices → entry_at sch a ≢ 0 → entry_at sch b ≢ 0 → ((c : ℕ) → c < d.choosers → sits d sch plan c a ≡ sits d sch plan c b) → same_choosers d.choosers d.slots bytes a b ≡ true
  unfolding same_choosers
  same_choosers_lem a b ha hb ea eb h = each_all d.choosers (as_often d.slots bytes a b) (λ c hc. eq-eqb (times_in d.slots bytes c a) (times_in d.slots bytes c b)
      (times_scheduled st c a hc ha ea ∙ ap (λ (t : Bool). gate t 1) (h c hc) ∙ sym (times_scheduled st c b hc hb eb)))

  -- members of one group have the same choosers
  shared : (a b : ℕ) → a ≢ b → entry_at sch a ≢ 0 → entry_at sch b ≢ 0 → ShareGroup d a b → (c : ℕ) → c < d.choosers → sits d sch plan c a ≡ sits d sch plan c b
  shared a b n ea eb g c hc =
      let one : entry_at d.lengths g.group ≢ 1 = λ z. n (sym g.left_is ∙ ap (member_of d g.group) (let q : g.left ≡ g.right = omega (arith, z, g.left_in, g.right_in) in q) ∙ g.right_is) in
      let l : entry_at sch (member_of d g.group g.left) ≢ 0 = rw g.left_is ea in
      let r : entry_at sch (member_of d g.group g.right) ≢ 0 = rw g.right_is eb in
      rw (g.left_is, g.right_is) at (st.seatable.together g.group g.is_group one c hc g.left g.right g.left_in g.right_in l r)

  tie_met : (a b : ℕ) → a < d.choices → b < d.choices → (a ≢ b → entry_at sch a ≢ 0 → entry_at sch b ≢ 0 → ShareGroup d a b) → (not (is_scheduled sch a && is_scheduled sch b) || same_choosers d.choosers d.slots bytes a b) ≡ true
  tie_met a b ha hb g = eq_cases (entry_at sch a) 0
      (λ ea t. rw t)
      (λ ea t. rw t (eq_cases (entry_at sch b) 0
      (λ eb u. rw u)
      (λ eb u. rw u (same_choosers_lem a b ha hb ea eb (λ c hc. eq_cases a b (λ p v. rw p) (λ p v. shared a b p ea eb (g p ea eb) c hc))))))

  -- ChooserIsInChoice: in the choice's slot every other choice is blocked
  is_in_met : (j c k : ℕ) → j < d.assignment.count → d.assignment.count ≤ 32 → kind_number (constraint_at d.assignment j).kind ≡ 65537 → (constraint_at d.assignment j).left ≡ c → target_operand (constraint_at d.assignment j).right ≡ k
      → c < d.choosers → k < d.choices → (not (is_scheduled sch k) || is_in_choice d.slots bytes c k) ≡ true
  unfolding is_in_choice
  is_in_met j c k hj few kind left right hc hk = eq_cases (entry_at sch k) 0
      (λ e t. rw t)
      (λ e t. rw t (
      let s : ℕ = entry_at sch k - 1 in
      let hs : s < d.slots = omega (arith, st.fits k hk) in
      let x : ℕ = choice_in d plan c s in
      let b : blocks_by (constraint_at d.assignment j) sch c x ≡ false = unblocked c s j hc hs hj few in
      let same : entry_at sch x ≡ entry_at sch k = (allowed st c s hc hs).slot ∙ (let z : suc s ≡ entry_at sch k = omega arith in z) in
      let q : not (eqb x k) ≡ false = beside_no x kind left right hc e same b in
      one_passes d.slots (is_seat bytes (c * d.slots) k) s hs (ap (λ v. eqb v k) (seat_same st c s hc hs) ∙ not_no q)))
    where
      not_no : {b : Bool} → not b ≡ false → b ≡ true
      not_no {b = true} e = refl
      not_no {b = false} e = never e

      beside_no : (x : ℕ) → kind_number (constraint_at d.assignment j).kind ≡ 65537 → (constraint_at d.assignment j).left ≡ c → target_operand (constraint_at d.assignment j).right ≡ k → c < d.choosers → entry_at sch k ≢ 0 → entry_at sch x ≡ entry_at sch k → blocks_by (constraint_at d.assignment j) sch c x ≡ false → not (eqb x k) ≡ false
      beside_no x p q r h e same b =
          let z : ((beside_in sch k x) || false) ≡ false = rw (p, q, r, eq-eqb c c refl) at b in
          let u : (beside_in sch k x ≡ false) × (◌≡◌ {A = Bool} false false) = or_split z in
          rw (ne_eqb (entry_at sch k) 0 e, eq-eqb (entry_at sch x) (entry_at sch k) same) at u.0

  -- ChooserIsNotInChoice: its choice is blocked
  is_not_in_met : (j c k : ℕ) → j < d.assignment.count → d.assignment.count ≤ 32 → kind_number (constraint_at d.assignment j).kind ≡ 65538 → (constraint_at d.assignment j).left ≡ c → target_operand (constraint_at d.assignment j).right ≡ k
      → c < d.choosers → not (is_in_choice d.slots bytes c k) ≡ true
  unfolding is_in_choice
  is_not_in_met j c k hj few kind left right hc = bool_cases (is_in_choice d.slots bytes c k)
      (λ e. let p : Passes d.slots (is_seat bytes (c * d.slots) k) = some_passes d.slots (is_seat bytes (c * d.slots) k) e in
      let x : choice_in d plan c p.at ≡ k = sym (seat_same st c p.at hc p.below) ∙ eqb-true _ _ p.holds in
      let b : blocks_by (constraint_at d.assignment j) sch c k ≡ false = rw x at (unblocked c p.at j hc p.below hj few) in
      never (rw (kind, left, right, eq-eqb c c refl, eq-eqb k k refl) at b))
      (λ e. rw e)

  -- ChoosersHaveSameChoices
  same_choices_lem : (a b : ℕ) → a < d.choosers → b < d.choosers → ((k : ℕ) → k < d.choices → entry_at sch k ≢ 0 → sits d sch plan a k ≡ sits d sch plan b k) → same_choices d.choices d.slots bytes a b ≡ true
  unfolding same_choices
  same_choices_lem a b ha hb h = each_all d.choices (likewise d.slots bytes a b) (λ k hk. eq-eqb (times_in d.slots bytes a k) (times_in d.slots bytes b k) (eq_cases (entry_at sch k) 0
      (λ e t. times_unscheduled st a k ha e ∙ sym (times_unscheduled st b k hb e))
      (λ e t. times_scheduled st a k ha hk e ∙ ap (λ (x : Bool). gate x 1) (h k hk e) ∙ sym (times_scheduled st b k hb hk e))))

  -- ---- each constraint of the list, and all

  module _ (ok : AcceptedList d.choosers d.choices d.slots 65536 65539 d.assignment) (tied : Tied d sch) (j : ℕ) (hj : j < d.assignment.count) where
    abbrev con : Constraint
    con = constraint_at d.assignment j

    abbrev left : ℕ
    left = con.left

    abbrev right : ℕ
    right = target_operand con.right

    -- what check 9 says of the operands of a kind
    operands : (k : ConstraintType) → con.kind ≡ k → (is_one_of d.choosers d.choices d.slots (left_case k) left ≡ true) × (is_one_of d.choosers d.choices d.slots (right_case k) right ≡ true)
    operands k e = (rw e at (left_is d.choosers d.choices d.slots con (ok.operands j hj)), rw e at (right_is d.choosers d.choices d.slots con (ok.operands j hj)))

    -- .. and of the target's case
    case : (k : ConstraintType) → con.kind ≡ k → case_of_target con.right ≡ right_case k
    case k e = right_is_case d.choosers d.choices d.slots con (ok.operands j hj) ∙ ap right_case e

    -- its kind is that of its number
    of_number : (k : ConstraintType) → kind_of (numbers_at d.assignment j).kind ≡ k → con.kind ≡ k
    of_number k e = e

    abbrev Met : Type 0
    Met = assignment_at d.choosers d.choices d.slots sch bytes d.assignment j ≡ true

    met : Met
    unfolding assignment_kind_met kind_of
    met = kind_cases (numbers_at d.assignment j).kind (ok.kind_least j hj) (ok.kind_most j hj)
        (λ e. let k : con.kind ≡ ChoicesHaveSameChoosers = rw e in let o = operands ChoicesHaveSameChoosers k in
        rw k (of_choice_lem con.right _ (case ChoicesHaveSameChoosers k) ∙ tie_met left right (ltb-true _ _ o.0) (ltb-true _ _ o.1) (tied.shares j hj (ap kind_number k))))
        (λ e. let k : con.kind ≡ ChooserIsInChoice = rw e in let o = operands ChooserIsInChoice k in
        rw k (of_choice_lem con.right _ (case ChooserIsInChoice k) ∙ is_in_met j left right hj ok.count (ap kind_number k) refl refl (ltb-true _ _ o.0) (ltb-true _ _ o.1)))
        (λ e. let k : con.kind ≡ ChooserIsNotInChoice = rw e in let o = operands ChooserIsNotInChoice k in
        rw k (of_choice_lem con.right _ (case ChooserIsNotInChoice k) ∙ is_not_in_met j left right hj ok.count (ap kind_number k) refl refl (ltb-true _ _ o.0)))
        (λ e. let k : con.kind ≡ ChoosersHaveSameChoices = rw e in let o = operands ChoosersHaveSameChoices k in
        rw k (of_chooser_lem con.right _ (case ChoosersHaveSameChoices k) ∙ same_choices_lem left right (ltb-true _ _ o.0) (ltb-true _ _ o.1) (λ x hx ex. st.seatable.same j hj (ap kind_number k) x hx ex)))

  pub assignment_met_lem : AcceptedList d.choosers d.choices d.slots 65536 65539 d.assignment → Tied d sch → assignment_met d sch bytes ≡ true
  unfolding assignment_met
  assignment_met_lem ok tied = each_all d.assignment.count (assignment_at d.choosers d.choices d.slots sch bytes d.assignment) (λ j hj. met ok tied j hj)
