-- A plan that seats everybody is accepted by the calls of the verdict, which say yes. Assumes nothing.
use Rattle.std.specs.Prelude.{ℕ, ◌+◌, ◌*◌, ◌/◌, ◌%◌, ◌<◌, ◌≡◌, List, length}
use Rattle.std.proofs.Math.Path.{refl, ap, subst}
use Rattle.std.proofs.Math.Bool.{true, false}
use Rattle.std.proofs.Common.{div-add-mod', mod-lt, div-lt_iff_lt-mul, arith, eq-eqb, ne_eqb}
use Rattle.std.proofs.lemmas.Bool.{lt-leb}
use Rattle.assignment.specs.Calls.{beside_plan, seats}
use Rattle.assignment.specs.Plan.{unseated, bad_plan_for}
use Rattle.counting.specs.Tests.{eq_cases, each_none}
use Rattle.input_data.specs.Accepted.{Accepted, number_accepted}
use Rattle.input_data.specs.Checks.{first_of}
use Rattle.input_data.specs.Lengths.{plan_length}
use Rattle.input_data.specs.declared.Limits.{Limits}
use Rattle.input_data.specs.declared.InputData.{InputData}
use Rattle.scheduling.specs.Handed.{outside, kept_of}
use Rattle.scheduling.specs.Schedule.{entry_at}
use Rattle.scheduling.specs.ScheduleLaws.{kept_at_lem}
use Rattle.scheduling.specs.declared.Scheduling.{Scheduling}
use Rattle.feasibility.specs.Checks.{parts_number}
use Rattle.scoring.specs.Calls.{verdict, beside_none, schedule_number, schedule_answer, verdict_number, plan_answer}
use Rattle.feasibility.specs.Feasible.{all_placed}
use Rattle.feasible_plans.proofs.Feasibility.{plan_feasible_lem, schedule_feasible_lem}
use Rattle.feasible_plans.specs.Premises.{Premises}
use Rattle.feasible_plans.specs.Seats.{Stands, seat_same, allowed}

module _ {l : Limits} {d : InputData} (a : Accepted l d) (sch : Scheduling) (inside : outside d sch ≡ false) {limit : ℕ} {preferences plan bytes : List ℕ} (st : Stands d (kept_of d sch) limit preferences plan bytes) where
  -- a seat is a choice that has a slot
  seated : (c s : ℕ) → c < d.choosers → s < d.slots → unseated d.choices sch.entries bytes (c * d.slots + s) ≡ false
  seated c s hc hs =
      let p = allowed st c s hc hs in
      let e : entry_at sch.entries (entry_at plan (c * d.slots + s)) ≡ s + 1 = omega (arith, kept_at_lem d.choices sch.entries (entry_at plan (c * d.slots + s)) p.choice st.few, p.slot) in
      rw (seat_same st c s hc hs, lt-leb d.choices (entry_at plan (c * d.slots + s)) p.choice, ne_eqb (entry_at sch.entries (entry_at plan (c * d.slots + s))) 0 (λ z. absurd (omega (arith, z, e))))

  -- so that 13 does not apply
  all_seated_lem : bad_plan_for d.choices (seats d) sch.entries bytes ≡ false
  unfolding bad_plan_for
  all_seated_lem = each_none (seats d) (unseated d.choices sch.entries bytes) (λ i h.
      let hs : 0 < d.slots = eq_cases d.slots 0 (λ z t. absurd (omega (arith, ap (λ (m : ℕ). d.choosers * m) z))) (λ z t. omega arith) in
      subst (λ j. unseated d.choices sch.entries bytes j ≡ false) (div-add-mod' i d.slots) (seated (i / d.slots) (i % d.slots) ((div-lt_iff_lt-mul hs).1 h) (mod-lt i hs)))

  pub plan_answered : length bytes ≡ plan_length l → Premises d (kept_of d sch) → plan_answer l d sch bytes ≡ verdict 0 true
  unfolding plan_answer verdict_number parts_number first_of
  plan_answered n p = rw (
    number_accepted l d (beside_plan l (length bytes) false false) a (record { lengths = rw (eq-eqb (length bytes) (plan_length l) n); preferences = refl; levels = refl; costs = refl; asked = refl; none = refl }) (parts_number true true d sch bytes),
    inside,
    all_seated_lem,
    plan_feasible_lem st a p,
  )

  pub schedule_answered : Premises d (kept_of d sch) → all_placed d (kept_of d sch) ≡ true → schedule_answer l d sch ≡ verdict 0 true
  unfolding schedule_answer schedule_number first_of
  schedule_answered p q = rw (
    number_accepted l d beside_none a (record { lengths = refl; preferences = refl; levels = refl; costs = refl; asked = refl; none = refl }) (first_of (outside d sch) 11 0),
    inside,
    schedule_feasible_lem st p q,
  )
