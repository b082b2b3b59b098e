-- A plan that seats everybody passes Scoring::is_feasible, and its schedule Scheduling::is_feasible. Assumes nothing.
use Rattle.std.specs.Prelude.{ℕ, suc, ◌-◌, ◌<◌, ◌≤◌, ◌≡◌, Bool, true, List, ◌≢◌, eqb}
use Rattle.std.proofs.Common.{sym, ap, ◌∙◌, le_refl, arith}
use borrow.Author.Tests.{ne_eqb, le-leb}
use Rattle.counting.specs.Fold.{gate, sum_to}
use Rattle.counting.specs.Sums.{sum_swap, sum_only, sum_le, sum_const, sum_gate}
use Rattle.counting.specs.Tests.{eq_cases, eqb_sym, each_all}
use Rattle.input_data.specs.Accepted.{Accepted}
use Rattle.input_data.specs.Day.{min_at, max_at}
use Rattle.input_data.specs.declared.Limits.{Limits}
use Rattle.input_data.specs.declared.InputData.{InputData}
use Rattle.plans.specs.Pairs.{sum_ext}
use Rattle.plans.specs.Seatable.{choice_in, sits, seats_in}
use Rattle.scheduling.specs.Schedule.{entry_at}
use Rattle.feasibility.specs.Feasible.{all_placed, seats_all, all_seated, schedule_feasible, plan_feasible}
use Rattle.slot_lists.specs.Sums.{in_slot, weighed}
use Rattle.feasible_plans.specs.Premises.{Premises}
use Rattle.feasible_plans.specs.Seats.{Stands, allowed, none_twice_lem, all_filled_lem}
use Rattle.feasible_plans.specs.Rules.{assignment_met_lem}

module _ {d : InputData} {sch : List ℕ} {limit : ℕ} {preferences plan bytes : List ℕ} (st : Stands d sch limit preferences plan bytes) where
  pub plan_feasible_lem : {l : Limits} → Accepted l d → Premises d sch → plan_feasible d sch bytes ≡ true
  unfolding plan_feasible
  plan_feasible_lem a p = rw (p.scheduling, assignment_met_lem st a.assignment p.tied, none_twice_lem st, all_filled_lem st)

  -- in a slot every chooser has one choice
  one_choice : (c s : ℕ) → c < d.choosers → s < d.slots → sum_to d.choices (λ k. gate (in_slot (entry_at sch) s k) (gate (sits d sch plan c k) 1)) ≡ 1
  one_choice c s hc hs =
      let x : ℕ = choice_in d plan c s in
      let a = allowed st c s hc hs in
      sum_ext d.choices (λ k. gate (in_slot (entry_at sch) s k) (gate (sits d sch plan c k) 1)) (λ k. gate (eqb k x) 1) (λ k hk. eq_cases (entry_at sch k) (suc s)
      (λ e t. let z : entry_at sch k - 1 ≡ s = omega arith in rw (t, z) (ap (λ (b : Bool). gate b 1) (eqb_sym x k)))
      (λ e t. rw (t, ne_eqb k x (λ q. e (ap (entry_at sch) q ∙ a.slot)))))
      ∙ sum_only d.choices (λ k. 1) x a.choice

  -- so the seats of a slot's choices are the choosers
  slot_seats_lem : (s : ℕ) → s < d.slots → weighed (seats_in d sch plan) (entry_at sch) d.choices s ≡ d.choosers
  slot_seats_lem s hs =
      sum_ext d.choices (λ k. gate (in_slot (entry_at sch) s k) (seats_in d sch plan k)) (λ k. sum_to d.choosers (λ c. gate (in_slot (entry_at sch) s k) (gate (sits d sch plan c k) 1)))
      (λ k hk. sym (sum_gate d.choosers (in_slot (entry_at sch) s k) (λ c. gate (sits d sch plan c k) 1)))
      ∙ sum_swap d.choices d.choosers (λ k c. gate (in_slot (entry_at sch) s k) (gate (sits d sch plan c k) 1))
      ∙ sum_ext d.choosers (λ c. sum_to d.choices (λ k. gate (in_slot (entry_at sch) s k) (gate (sits d sch plan c k) 1))) (λ c. 1) (λ c hc. one_choice c s hc hs)
      ∙ (let z : sum_to d.choosers (λ c. 1) ≡ d.choosers = omega (arith, sum_const d.choosers 1) in z)

  -- weights of which one is at most the other for the choices of a slot
  weighed_le : (f g : ℕ → ℕ) (s : ℕ) → ((k : ℕ) → k < d.choices → entry_at sch k ≢ 0 → f k ≤ g k) → weighed f (entry_at sch) d.choices s ≤ weighed g (entry_at sch) d.choices s
  weighed_le f g s h = sum_le d.choices (λ k. gate (in_slot (entry_at sch) s k) (f k)) (λ k. gate (in_slot (entry_at sch) s k) (g k)) (λ k hk. eq_cases (entry_at sch k) (suc s)
      (λ e t. rw t (h k hk (λ z. absurd (omega arith))))
      (λ e t. rw t (le_refl 0)))

  all_seated_lem : all_seated d sch ≡ true
  unfolding all_seated
  all_seated_lem = each_all d.slots (seats_all d sch) (λ s hs.
      let n = slot_seats_lem s hs in
      let a : weighed (min_at d) (entry_at sch) d.choices s ≤ d.choosers = omega (arith, n, weighed_le (min_at d) (seats_in d sch plan) s st.seatable.least) in
      let b : d.choosers ≤ weighed (max_at d) (entry_at sch) d.choices s = omega (arith, n, weighed_le (seats_in d sch plan) (max_at d) s st.seatable.most) in
      rw (le-leb _ _ a, le-leb _ _ b))

  -- with no unmarked choice left out
  pub schedule_feasible_lem : Premises d sch → all_placed d sch ≡ true → schedule_feasible d sch ≡ true
  unfolding schedule_feasible
  schedule_feasible_lem p q = rw (q, all_seated_lem, p.scheduling)
