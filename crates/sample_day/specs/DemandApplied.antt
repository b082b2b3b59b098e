-- Demand 3 applied: a day with two classes that must have the same people, an accepted update, a refused one and another accepted one, and a plan
-- that can be had after them. Assumes nothing.
use Rattle.std.specs.Prelude.{ℕ, ◌<◌, ◌≡◌, refl, true, false, cond, List, [], ◌∷◌, ◌++◌, eqb, ℤ, pos, length, replicate, take}
use Rattle.std.proofs.Common.{sym, ap, subst, ◌∙◌, arith}
use Rattle.std.proofs.Math.ListN.{get_or-append}
use Rattle.carried_states.specs.Agreement.{Call, Carried, number_of, after_build, updated, after_update, run_updates, Fed}
use Rattle.carried_states.proofs.CarriedAgrees.{carried_agrees}
use Rattle.constraint.specs.Kind.{kind_of}
use Rattle.counting.specs.Fold.{fold_to, some_below}
use Rattle.counting.specs.Ints.{eq_z}
use Rattle.counting.specs.Search.{first_to}
use Rattle.counting.specs.Tests.{eq_cases}
use Rattle.edge_groups.specs.Groups.{each, all_there}
use Rattle.edge_groups.specs.Names.{slot_names, same_choices_names, constraint_names, constraints_names, chooser_names, group_names, member_start, dependent_names, names}
use Rattle.decoding.specs.Decode.{choice_for, decoded}
use Rattle.edge_values.specs.Values.{some_outside, some_used, is_uneven, some_uneven, flow, some_unbalanced, values_number}
use Rattle.feasible_plans.specs.DemandThree.{Demand, Begins, last_schedule, carried_model, fresh_model}
use Rattle.feasible_plans.proofs.DemandThreeHolds.{demand_three}
use Rattle.feasible_plans.specs.Premises.{ShareGroup, Premises}
use Rattle.input_data.specs.Checks.{first_of, day_number, late_number, member_count, has_bad_preferences, has_bad_costs}
use Rattle.input_data.specs.Day.{no_numbers}
use Rattle.input_data.specs.Lengths.{full_day}
use Rattle.input_data.specs.Numbers.{full_within}
use Rattle.input_data.specs.Operands.{left_fits, right_fits, extra_fits}
use Rattle.input_data.specs.declared.ConstraintNumbers.{ConstraintNumbers}
use Rattle.input_data.specs.declared.InputData.{InputData}
use Rattle.mip_flow.specs.Edges.{preference_of, is_open, slot_seats, chooser_seats, open_seats, scheduled}
use Rattle.mip_flow.specs.Index.{number_from, edge_of}
use Rattle.mip_flow_static_data.specs.Nodes.{supplies}
use Rattle.plans.specs.CanBeHad.{CanBeHad}
use Rattle.plans.specs.Model.{ModelInput, seats_of, choices_of, names_of, network_of, plan_of, enter_number}
use Rattle.satisfies_constraints.specs.Constraints.{scheduling_met}
use Rattle.blocks.specs.Blocks.{blocked_by}
use Rattle.schedule_state.specs.Calls.{build_number, built_lists, state_number, update_number}
use Rattle.schedule_state.specs.State.{miscounted_in, misblocked}
use Rattle.scheduling.specs.Handed.{outside}
use Rattle.scheduling.specs.Schedule.{entry_at}
use Rattle.scheduling.specs.declared.Scheduling.{Scheduling}
use Rattle.scoring.specs.Calls.{verdict, plan_answer}
use Rattle.slot_lists.specs.Held.{misheld}
use Rattle.slot_lists.specs.Lists.{left_by}
use Rattle.slot_lists.specs.Walk.{carried, visit}
use Rattle.model_buffers.specs.Buffers.{lengths_of}
use Rattle.sample_day.specs.SampleDay.{no_constraints, buffer, zeros, zero_plan}

-- ---- the day: ChoicesHaveSameChoosers of choices 0 and 2, which are a dependent group

abbrev pub same_choosers_tie : ConstraintNumbers
same_choosers_tie = record { kind = 65536; left = 0; target_case = 2; target = 2; extra_case = 0; extra = pos 0 }

-- 2 choosers, 4 choices of one chooser each, 2 slots
abbrev pub paired_day : InputData
paired_day = record {
  choosers = 2;
  choices = 4;
  slots = 2;
  max_preference = 2;
  mins = 1 ∷ 1 ∷ 1 ∷ 1 ∷ replicate 28 0;
  maxs = 1 ∷ 1 ∷ 1 ∷ 1 ∷ replicate 28 0;
  optional = replicate 32 false;
  scheduling = no_constraints;
  assignment = record { count = 1; entries = same_choosers_tie ∷ replicate 31 no_numbers };
  groups = 1;
  lengths = 2 ∷ replicate 15 0;
  members = 0 ∷ 2 ∷ replicate 30 0;
}

-- 0 1 in slot 0 and 2 3 in slot 1; then 1 and 3 change places; then 0 and 2 do. A third slot is named by the refused one.
abbrev pub schedule₀ : Scheduling
schedule₀ = record { entries = 1 ∷ 1 ∷ 2 ∷ 2 ∷ replicate 28 0 }

abbrev pub schedule₁ : Scheduling
schedule₁ = record { entries = 1 ∷ 2 ∷ 2 ∷ 1 ∷ replicate 28 0 }

abbrev pub wrong_schedule : Scheduling
wrong_schedule = record { entries = 3 ∷ 2 ∷ 2 ∷ 1 ∷ replicate 28 0 }

abbrev pub schedule₂ : Scheduling
schedule₂ = record { entries = 2 ∷ 2 ∷ 1 ∷ 1 ∷ replicate 28 0 }

-- ---- the run

abbrev pub x₀ : Carried
x₀ = after_build full_day paired_day schedule₀ buffer

abbrev pub call : Carried → Scheduling → Call
call x sch = record { day = paired_day; state = x.state; schedule = sch; lists = x.lists }

abbrev pub x₁ : Carried
x₁ = updated full_day (call x₀ schedule₁)

abbrev pub x₂ : Carried
x₂ = updated full_day (call x₁ schedule₂)

abbrev pub calls : List Call
calls = call x₀ schedule₁ ∷ call x₁ wrong_schedule ∷ call x₁ schedule₂ ∷ []

build_accepted : build_number full_day paired_day schedule₀ (length buffer) ≡ 0
unfolding build_number day_number late_number first_of some_below fold_to member_count kind_of left_fits right_fits extra_fits
build_accepted = refl

first_accepted : number_of full_day (call x₀ schedule₁) ≡ 0
unfolding first_of some_below fold_to
first_accepted = (carried_agrees full_day full_within paired_day schedule₀ buffer build_accepted [] tt buffer (omega arith)).next schedule₁

chosen : (n : ℕ) (made before : Carried) → n ≡ 0 → cond (eqb n 0) made before ≡ made
chosen n made before e = rw e

passed_over : (n : ℕ) (made before : Carried) → n ≡ 11 → cond (eqb n 0) made before ≡ before
passed_over n made before e = rw e

after_first : after_update full_day x₀ (call x₀ schedule₁) ≡ x₁
after_first = chosen (number_of full_day (call x₀ schedule₁)) x₁ x₀ first_accepted

-- what was left then is refused by 11 alone
next : (sch : Scheduling) → number_of full_day (call x₁ sch) ≡ first_of (outside paired_day sch) 11 0
next sch =
    ap (λ (x : Carried). update_number full_day paired_day x.state sch x.lists) (sym after_first)
    ∙ (carried_agrees full_day full_within paired_day schedule₀ buffer build_accepted (call x₀ schedule₁ ∷ []) ((λ e. (refl, refl, refl)), tt) buffer (omega arith)).next sch

wrong_refused : number_of full_day (call x₁ wrong_schedule) ≡ 11
unfolding first_of some_below fold_to
wrong_refused = next wrong_schedule

second_accepted : number_of full_day (call x₁ schedule₂) ≡ 0
unfolding first_of some_below fold_to
second_accepted = next schedule₂

after_wrong : after_update full_day x₁ (call x₁ wrong_schedule) ≡ x₁
after_wrong = passed_over (number_of full_day (call x₁ wrong_schedule)) (updated full_day (call x₁ wrong_schedule)) x₁ wrong_refused

before_last : after_update full_day (after_update full_day x₀ (call x₀ schedule₁)) (call x₁ wrong_schedule) ≡ x₁
before_last = ap (λ x. after_update full_day x (call x₁ wrong_schedule)) after_first ∙ after_wrong

pub run_ends : run_updates full_day x₀ calls ≡ x₂
run_ends = ap (λ x. after_update full_day x (call x₁ schedule₂)) before_last ∙ chosen (number_of full_day (call x₁ schedule₂)) x₂ x₁ second_accepted

fed : Fed full_day paired_day x₀ calls
fed = (
  (λ e. (refl, refl, refl)),
  (
    (λ e. absurd (let z : ◌≡◌ {A = ℕ} 11 0 = sym wrong_refused ∙ e in omega arith)),
    ((λ e. (refl, ap (λ (x : Carried). x.state) (sym before_last), ap (λ (x : Carried). x.lists) (sym before_last))), tt),
  ),
)

pub demand : Demand full_day paired_day (run_updates full_day x₀ calls) buffer
demand = demand_three full_day full_within paired_day schedule₀ buffer build_accepted calls fed buffer (omega arith)

-- the lists of slot 0 are 3 2 as carried and 2 3 as built afresh: the order differs
pub orders_differ : (take 2 x₂.lists ≡ 3 ∷ 2 ∷ []) × (take 2 (built_lists full_day paired_day schedule₂ buffer) ≡ 2 ∷ 3 ∷ [])
unfolding carried visit left_by fold_to first_to
orders_differ = (refl, refl)

-- ---- a plan at limit 1: chooser 0 sits in 2 and 0, which are tied, and chooser 1 in 3 and 1

abbrev pub paired_preferences : List ℕ
paired_preferences = 0 ∷ 2 ∷ 1 ∷ 2 ∷ 2 ∷ 1 ∷ 2 ∷ 0 ∷ []

abbrev pub paired_costs : List ℤ
paired_costs = pos 1 ∷ pos 8 ∷ pos 27 ∷ []

abbrev pub plan : List ℕ
plan = 2 ∷ 0 ∷ 3 ∷ 1 ∷ []

-- each seat of the plan has 1, and each choice its one seat, which is its min
abbrev pub values : List ℤ
values = pos 1 ∷ pos 1 ∷ pos 1 ∷ pos 1 ∷ replicate 2076 (pos 0)

abbrev built : ModelInput
built = fresh_model full_day paired_day x₂ buffer 1 paired_preferences paired_costs

-- chooser 0's edges to the tied choices are a group
pub group_there : (network_of full_day built).groups ≡ (1 ∷ 0 ∷ []) ∷ []
unfolding network_of seats_of choices_of open_seats chooser_seats slot_seats is_open preference_of scheduled names_of names constraints_names constraint_names same_choices_names slot_names dependent_names group_names chooser_names member_start each all_there number_from edge_of kind_of carried visit left_by blocked_by some_below fold_to first_to
group_there = refl

entered : enter_number full_day built (lengths_of zeros) (length values) (length zero_plan) ≡ 0
unfolding state_number day_number late_number first_of has_bad_preferences has_bad_costs member_count misheld miscounted_in misblocked carried visit left_by blocked_by some_below fold_to kind_of left_fits right_fits extra_fits
entered = refl

balanced : values_number (network_of full_day built) values ≡ 0
unfolding values_number first_of some_outside some_used some_uneven is_uneven some_unbalanced flow network_of supplies seats_of choices_of open_seats chooser_seats slot_seats is_open preference_of scheduled names_of names constraints_names constraint_names same_choices_names slot_names dependent_names group_names chooser_names member_start each all_there eq_z number_from edge_of kind_of carried visit left_by blocked_by some_below fold_to first_to
balanced = refl

decodes_to : plan_of full_day built values ≡ plan
unfolding plan_of decoded choice_for eq_z seats_of open_seats chooser_seats slot_seats is_open preference_of number_from edge_of kind_of carried visit left_by blocked_by some_below fold_to first_to
decodes_to = refl

checked : (n m : ℕ) → n ≡ 0 → m ≡ 0 → cond (eqb n 0) m n ≡ 0
checked n m e p = rw (e, p)

-- from a fresh build ..
from_fresh : CanBeHad full_day (fresh_model full_day paired_day x₂ buffer 1 paired_preferences paired_costs) plan
from_fresh = record {
  lengths = lengths_of zeros;
  room = length zero_plan;
  values = values;
  accepted = checked (enter_number full_day built (lengths_of zeros) (length values) (length zero_plan)) (values_number (network_of full_day built) values) entered balanced;
  decodes = decodes_to;
}

-- .. so from what is carried, by demand 3
pub can_be_had : CanBeHad full_day (carried_model paired_day (run_updates full_day x₀ calls) 1 paired_preferences paired_costs) plan
can_be_had = (demand.same 1 paired_preferences paired_costs plan).1 (subst (λ x. CanBeHad full_day (fresh_model full_day paired_day x buffer 1 paired_preferences paired_costs) plan) (sym run_ends) from_fresh)

-- its premises are met: no scheduling constraint, and the tied choices share a group
shared : ShareGroup paired_day 0 2
unfolding member_start fold_to
shared = record { group = 0; left = 0; right = 1; is_group = omega arith; left_in = omega arith; right_in = omega arith; left_is = refl; right_is = refl }

premises_of : Premises paired_day (last_schedule paired_day x₂)
unfolding scheduling_met fold_to kind_of
premises_of = record { scheduling = refl; tied = record { shares = λ j h kind different left right. eq_cases j 0 (λ e t. rw e shared) (λ e t. absurd (omega arith)) } }

pub premises : Premises paired_day (last_schedule paired_day (run_updates full_day x₀ calls))
premises = subst (λ x. Premises paired_day (last_schedule paired_day x)) (sym run_ends) premises_of

-- so the plan, lent with zeros behind it, is accepted and feasible
begins : Begins full_day paired_day plan (plan ++ replicate 508 0)
begins = record { long = refl; front = λ i h. same_front i h }
  where
    same_front : (i : ℕ) → i < 4 → entry_at (plan ++ replicate 508 0) i ≡ entry_at plan i
    same_front i h = get_or-append plan (replicate 508 0) 0 i h

pub plan_is_feasible : plan_answer full_day paired_day (run_updates full_day x₀ calls).schedule (plan ++ replicate 508 0) ≡ verdict 0 true
plan_is_feasible = (demand.granted 1 paired_preferences paired_costs plan can_be_had).feasible premises (plan ++ replicate 508 0) begins
