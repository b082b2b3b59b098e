-- Demand 3 holds: the proof of DemandThree.antt. Assumes nothing.
use Rattle.std.specs.Prelude.{ℕ, ◌<◌, ◌≤◌, ◌≡◌, refl, Bool, cond, ◌||◌, List, [], ◌↔◌, eqb, ℤ, length}
use Rattle.std.proofs.Common.{sym, ap, ◌∙◌}
use Rattle.std.proofs.Math.Bool.{false}
use Rattle.std.proofs.Math.Dec.{ltb}
use borrow.Author.Tests.{le-ltb}
use Rattle.assignment.specs.Calls.{seats}
use Rattle.counting.specs.Tests.{or_split, eq_cases}
use Rattle.input_data.specs.Accepted.{Past, accepted, past, number_accepted}
use Rattle.input_data.specs.Checks.{first_of}
use Rattle.input_data.specs.Lengths.{Within, lists_length}
use Rattle.input_data.specs.declared.Limits.{Limits}
use Rattle.input_data.specs.declared.InputData.{InputData}
use Rattle.model_buffers.specs.Lengths.{short_buffers, short_values}
use Rattle.model_buffers.specs.declared.Lengths.{Lengths}
use Rattle.plans.specs.CanBeHad.{CanBeHad}
use Rattle.plans.specs.Model.{ModelInput, entries_of, network_of, wrong_model_tables, beside_model, number_with, model_number, enter_number}
use Rattle.plans.proofs.Plans.{plans_seatable, same_plans, within_limit}
use Rattle.plans.specs.Seatable.{Seatable}
use Rattle.carried_states.specs.Agreement.{Carried, after_build, run_updates, AsFresh}
use Rattle.schedule_state.specs.Calls.{state_number}
use Rattle.scheduling.specs.Handed.{outside, kept_of}
use Rattle.carried_states.proofs.CarriedAgrees.{carried_agrees}
use Rattle.schedule_state.specs.Good.{choices_most, kept_fits}
use Rattle.schedule_updates.specs.Numbers.{UpdateAccepted, update_accepted, build_inside, build_ready}
use Rattle.input_data.specs.Numbers.{first_not}
use Rattle.schedule_state.specs.State.{inconsistent}
use Rattle.scheduling.specs.Schedule.{entry_at}
use Rattle.scheduling.specs.ScheduleLaws.{kept_twice}
use Rattle.edge_values.specs.Values.{values_number}
use Rattle.feasible_plans.specs.DemandThree.{carried_model, fresh_model, last_schedule, Granted, DemandThree}
use Rattle.feasible_plans.proofs.Answers.{plan_answered, schedule_answered}
use Rattle.feasible_plans.specs.Seats.{Stands}

-- a state and its lists that an update of the day takes
record Consistent (l : Limits) (d : InputData) (x : ModelInput) : Type 0 where
  inside : outside d x.state.schedule ≡ false
  consistent : inconsistent l d x.state x.lists ≡ false
  room : lists_length l ≤ length x.lists

module _ (l : Limits) (w : Within l) where
  -- where one model with these tables is accepted, so is another of a consistent state
  model_zero : (x y : ModelInput) (lens : Lengths) (short : Bool) → x.day ≡ y.day → x.preferences ≡ y.preferences → x.costs ≡ y.costs → number_with l x lens short ≡ 0 → Consistent l y.day y → model_number l y lens ≡ 0
  unfolding state_number first_of
  model_zero x y lens short p q r e c =
      let d = x.day in
      let rest = first_of (false || outside d x.state.schedule) 11 (first_of (inconsistent l d x.state x.lists) 12 0) in
      let a = accepted l d (beside_model l x lens short) rest w e in
      let b = past l d (beside_model l x lens short) rest e in
      let u : ((wrong_model_tables x || ltb (length x.lists) (lists_length l) || short_buffers l lens) ≡ false) × (short ≡ false) = or_split b.lengths in
      let v : ((wrong_model_tables x || ltb (length x.lists) (lists_length l)) ≡ false) × (short_buffers l lens ≡ false) = or_split u.0 in
      let w : (wrong_model_tables x ≡ false) × (ltb (length x.lists) (lists_length l) ≡ false) = or_split v.0 in
      let t : wrong_model_tables y ≡ false = rw (p, q, r) at w.0 in
      let z : Past (beside_model l y lens false) 0 = record {
        lengths = rw (t, v.1, le-ltb (length y.lists) (lists_length l) c.room);
        preferences = rw (p, q) at b.preferences;
        levels = refl;
        costs = rw r at b.costs;
        asked = refl;
        none = refl;
      } in
      number_accepted l y.day (beside_model l y lens false) (rw p at a) z _ ∙ rw (c.inside, c.consistent)

  -- values that were accepted got past the tests before them
  entered : {x : ModelInput} {plan : List ℕ} (h : CanBeHad l x plan) → number_with l x h.lengths (short_values l (length h.values) h.room) ≡ 0
  entered {x = x} h = first_of_lem (enter_number l x h.lengths (length h.values) h.room) (values_number (network_of l x) h.values) h.accepted
    where
      first_of_lem : (n m : ℕ) → cond (eqb n 0) m n ≡ 0 → n ≡ 0
      first_of_lem n m e = eq_cases n 0 (λ p t. p) (λ p t. absurd (p (rw t at e)))

  module _ (d : InputData) (x : Carried) (buffer : List ℕ) (long : lists_length l ≤ length buffer) (f : AsFresh l d x buffer) where
    last_inside : outside d x.schedule ≡ false
    last_inside = build_inside l d x.schedule (length buffer) w f.accepted

    -- what is carried is consistent: an update to the same schedule takes it
    taken : UpdateAccepted l d x.state x.schedule x.lists
    taken = update_accepted l d x.state x.schedule x.lists w (f.next x.schedule ∙ none)
      where
        none : first_of (outside d x.schedule) 11 0 ≡ 0
        none = sym (first_not (outside d x.schedule) 11 0 last_inside refl)

  module _ (d : InputData) (x : Carried) (buffer : List ℕ) (long : lists_length l ≤ length buffer) (f : AsFresh l d x buffer) (limit : ℕ) (preferences : List ℕ) (costs : List ℤ) where
    abbrev old : ModelInput
    old = carried_model d x limit preferences costs

    abbrev new : ModelInput
    new = fresh_model l d x buffer limit preferences costs

    old_consistent : Consistent l d old
    old_consistent = let t = taken d x buffer long f in record { inside = t.from; consistent = t.consistent; room = t.ready.room }

    -- so is the fresh build, which is carried through no update
    new_consistent : Consistent l d new
    new_consistent =
        let g = carried_agrees l w d x.schedule buffer f.accepted [] tt buffer long in
        let t = taken d (after_build l d x.schedule buffer) buffer long g in
        record { inside = t.from; consistent = t.consistent; room = t.ready.room }

    same_schedule : entries_of old ≡ entries_of new
    same_schedule = ap (kept_of d) f.agree.schedule

    same : (plan : List ℕ) → CanBeHad l old plan ↔ CanBeHad l new plan
    same plan = (
      (λ h. (same_plans l w old new h.lengths (model_zero old old h.lengths _ refl refl refl (entered h) old_consistent) (model_zero old new h.lengths _ refl refl refl (entered h) new_consistent) refl same_schedule refl refl plan).0 h),
      (λ h. (same_plans l w old new h.lengths (model_zero new old h.lengths _ refl refl refl (entered h) old_consistent) (model_zero new new h.lengths _ refl refl refl (entered h) new_consistent) refl same_schedule refl refl plan).1 h),
    )

    -- the carried schedule, read, is the one that was accepted last
    last_read : entries_of old ≡ last_schedule d x
    last_read = same_schedule ∙ kept_twice d.choices x.schedule.entries

    granted : (plan : List ℕ) → CanBeHad l old plan → Granted l d x limit preferences plan
    granted plan h =
        let e = model_zero old old h.lengths _ refl refl refl (entered h) old_consistent in
        let r = build_ready l d x.schedule (length buffer) w f.accepted in
        let s : Seatable d (last_schedule d x) limit preferences plan = rw last_read at ((plans_seatable l w old h.lengths e plan).0 h) in
        let inside = last_inside d x buffer long f in
        let stands : (bytes : List ℕ) → ((i : ℕ) → i < seats d → entry_at bytes i ≡ entry_at plan i) → Stands d (last_schedule d x) limit preferences plan bytes = λ bytes b. record {
          few = choices_most r;
          fits = kept_fits r x.schedule inside;
          seatable = s;
          front = b;
        } in
        record {
          within = within_limit l w old plan h;
          feasible = λ p bytes b. plan_answered r.day x.schedule inside (stands bytes b.front) b.long p;
          schedule = λ p q. schedule_answered r.day x.schedule inside (stands plan (λ i b. refl)) p q;
        }

pub demand_three : DemandThree
demand_three l w d sch lent e calls fed buffer long =
    let f = carried_agrees l w d sch lent e calls fed buffer long in
    let x = run_updates l (after_build l d sch lent) calls in
    record {
      agrees = f;
      same = λ limit preferences costs plan. same l w d x buffer long f limit preferences costs plan;
      granted = λ limit preferences costs plan h. granted l w d x buffer long f limit preferences costs plan h;
    }
