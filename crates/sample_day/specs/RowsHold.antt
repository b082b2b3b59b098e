-- The rows of the sample day hold. Each number is computed by itself: together they are too much for one computation. Assumes nothing.
use Rattle.std.specs.Prelude.{ℕ, ◌<◌, ◌≡◌, refl, true, false, cond, not, List, [], ◌∷◌, eqb, leb, pos, negsuc, length, take}
use Rattle.std.proofs.Common.{sym, ap, ap₂, ◌∙◌, arith, le-ltb}
use Rattle.std.specs.Float.{binary32}
use Rattle.std.specs.Float.Ieee.{add, mul, div, of_int, to_bits}
use Rattle.std.proofs.lemmas.Bool.{lt-leb}
use Rattle.assignment.specs.Plan.{bad_plan_for}
use Rattle.preference_search_checks.specs.Checks.{begin_number}
use Rattle.assignment_solver.specs.Calls.{begin_answer}
use Rattle.preference_search_runs.specs.Run.{counted, outcome, RunIsSearch}
use Rattle.preference_search.specs.Search.{Told, Ask, Outcome, ask_at, found_at, start_of, middle, search_from, search_levels, most_asks}
use Rattle.preference_search.specs.Steps.{known_by, remembers, begun_answer}
use Rattle.preference_search_runs.specs.MostAsksHold.{few_asks}
use Rattle.preference_search_runs.specs.Whole.{run_is_search}
use Rattle.preference_search.specs.declared.Known.{Known}
use Rattle.carried_states.specs.Agreement.{Call, Carried, number_of, after_build, updated}
use Rattle.carried_states.proofs.CarriedAgrees.{carried_agrees}
use Rattle.constraint.specs.Kind.{kind_of}
use Rattle.counting.specs.Fold.{fold_to, some_below}
use Rattle.counting.specs.Ints.{eq_z}
use Rattle.counting.specs.Search.{first_to}
use Rattle.counting.specs.Written.{written}
use Rattle.edge_groups.specs.Groups.{each, all_there, ends_from}
use Rattle.edge_groups.specs.Names.{slot_names, same_choices_names, constraint_names, constraints_names, dependent_names, names}
use Rattle.decoding.specs.Decode.{choice_for, decoded}
use Rattle.edge_values.specs.Values.{some_outside, some_used, some_uneven, flow, some_unbalanced, values_number}
use Rattle.input_data.specs.Accepted.{number_accepted}
use Rattle.input_data.specs.Checks.{first_of, day_number, late_number, member_count, has_bad_preferences, has_bad_levels, has_bad_costs}
use Rattle.input_data.specs.Lengths.{full_day}
use Rattle.input_data.specs.Numbers.{full_within}
use Rattle.input_data.specs.Operands.{left_fits, right_fits, extra_fits}
use Rattle.input_data.specs.declared.InputData.{InputData}
use Rattle.mip_flow.specs.Edges.{preference_of, is_open, slot_seats, chooser_seats, open_seats, scheduled}
use Rattle.mip_flow.specs.Index.{number_from, edge_of}
use Rattle.mip_flow_static_data.specs.Nodes.{supplies}
use Rattle.plans.specs.Model.{ModelInput, model_input, seats_of, choices_of, names_of, network_of, plan_of, model_number, enter_number}
use Rattle.satisfies_constraints.specs.Constraints.{scheduling_met, assignment_met}
use Rattle.blocks.specs.Blocks.{blocked_by}
use Rattle.schedule_state.specs.Calls as State
use Rattle.schedule_updates.specs.Numbers.{update_accepted}
use Rattle.schedule_state.specs.State.{miscounted_in, misblocked}
use Rattle.schedule_state.specs.declared.AssignmentScheduleState.{AssignmentScheduleState}
use Rattle.scheduling.specs.Handed.{kept_of}
use Rattle.scheduling.specs.declared.Scheduling.{Scheduling}
use Rattle.score.specs.Sample.{minus_zero_first}
use Rattle.feasibility.specs.Checks.{parts_number}
use Rattle.scoring.specs.Calls.{verdict, verdict_number, plan_answer, evaluate_number, evaluate_answer}
use Rattle.plan_score.specs.Evaluate.{evaluated}
use Rattle.feasibility.specs.Feasible.{plan_feasible}
use Rattle.seat_counts.specs.Preferences.{greatest_row, greatest, uses_row, uses, minor_to, minor_of}
use Rattle.seat_counts.specs.Seats.{is_new, once_each, none_twice, part_count, all_filled}
use Rattle.slot_lists.specs.Held.{misheld}
use Rattle.slot_lists.specs.Lists.{left_by}
use Rattle.slot_lists.specs.Walk.{carried, visit}
use Rattle.model_buffers.specs.Buffers as Room
use Rattle.flow_model.specs.Lent as Filled
use Rattle.model_buffers.specs.Answers as Counts
use Rattle.flow_model.specs.Calls as Model
use Rattle.sample_day.specs.SampleDay.{sample_day, tied_day, search_day, at_first, moved, preferences, costs, buffer, build_number_of, build_gives, build_leaves, move_number, move_gives, move_leaves, list_number, slot_list_of, at_limit_one, zeros, model_number_of, model_gives, model_leaves, valued, zero_plan, enter_number_of, values_number_of, values_give, plan_left, score_given, levels, nothing_cached, begin_at, answers, last_answer, run_of, planned}
use Rattle.sample_day.specs.Rows.{Builds, Moves, Models, Searches, rows, All}
use Rattle.sample_day.specs.SampleBegins.{digits_of_five, digits_of_one, all_begins, none_begins, greedy_begins, greedy_none_begins, again_begins, again_last_begins}
use Rattle.sample_day.specs.SampleMemory.{search_accepted}

-- ---- build

first_accepted : build_number_of sample_day at_first ≡ 0
unfolding State.build_number day_number late_number first_of some_below fold_to member_count
first_accepted = refl

moved_accepted : build_number_of sample_day moved ≡ 0
unfolding State.build_number day_number late_number first_of some_below fold_to member_count
moved_accepted = refl

tied_accepted : build_number_of tied_day at_first ≡ 0
unfolding State.build_number day_number late_number first_of some_below fold_to member_count kind_of left_fits right_fits extra_fits
tied_accepted = refl

-- ---- what a call gives and leaves where its number is 0

state_given : (n : ℕ) (st : AssignmentScheduleState) → n ≡ 0 → (State.state_answer_of n st).state ≡ st
state_given n st e = rw e

left {ℓ} : {A : Type ℓ} (n : ℕ) (made before : A) → n ≡ 0 → cond (eqb n 0) made before ≡ made
left n made before e = rw e

-- the state and the lists of a build
module _ (d : InputData) (sch : Scheduling) (e : build_number_of d sch ≡ 0) where
  built_state_lem : (build_gives d sch).state ≡ State.built_state d sch
  built_state_lem = state_given (build_number_of d sch) (State.built_state d sch) e

  built_lists_lem : build_leaves d sch ≡ State.built_lists full_day d sch buffer
  built_lists_lem = left (build_number_of d sch) (State.built_lists full_day d sch buffer) buffer e

abbrev covered : AssignmentScheduleState → List ℕ
covered st = take 2 st.covered

module _ (sch : Scheduling) (e : build_number_of sample_day sch ≡ 0) where
  built_covers : {c : List ℕ} → covered (State.built_state sample_day sch) ≡ c → covered (build_gives sample_day sch).state ≡ c
  built_covers p = ap covered (built_state_lem sample_day sch e) ∙ p

  built_list : (s : ℕ) {c : List ℕ} → slot_list_of (State.built_state sample_day sch) (State.built_lists full_day sample_day sch buffer) s ≡ c → slot_list_of (build_gives sample_day sch).state (build_leaves sample_day sch) s ≡ c
  built_list s p = ap₂ (λ st ls. slot_list_of st ls s) (built_state_lem sample_day sch e) (built_lists_lem sample_day sch e) ∙ p

builds_first : Builds at_first (1 ∷ 2 ∷ []) (0 ∷ 1 ∷ []) (2 ∷ [])
unfolding carried visit left_by fold_to
builds_first = record {
  accepted = first_accepted;
  covers = built_covers at_first first_accepted refl;
  lists = (built_list at_first first_accepted 0 refl, built_list at_first first_accepted 1 refl);
}

builds_moved : Builds moved (0 ∷ 3 ∷ []) (1 ∷ []) (0 ∷ 2 ∷ [])
unfolding carried visit left_by fold_to
builds_moved = record {
  accepted = moved_accepted;
  covers = built_covers moved moved_accepted refl;
  lists = (built_list moved moved_accepted 0 refl, built_list moved moved_accepted 1 refl);
}

-- ---- the move

abbrev first_state : AssignmentScheduleState
first_state = State.built_state sample_day at_first

abbrev first_lists : List ℕ
first_lists = State.built_lists full_day sample_day at_first buffer

abbrev moved_state : AssignmentScheduleState
moved_state = State.updated_state sample_day moved

abbrev moved_lists : List ℕ
moved_lists = State.updated_lists full_day sample_day first_state moved first_lists

move_plain : State.update_number full_day sample_day first_state moved first_lists ≡ 0
unfolding State.state_number day_number late_number first_of has_bad_preferences has_bad_costs member_count misheld miscounted_in misblocked carried visit left_by blocked_by some_below fold_to
move_plain = refl

move_accepted : move_number ≡ 0
move_accepted = ap₂ (λ st ls. State.update_number full_day sample_day st moved ls) (built_state_lem sample_day at_first first_accepted) (built_lists_lem sample_day at_first first_accepted) ∙ move_plain

moved_state_lem : move_gives.state ≡ moved_state
moved_state_lem = state_given move_number moved_state move_accepted

moved_lists_lem : move_leaves ≡ moved_lists
moved_lists_lem =
    left move_number (State.updated_lists full_day sample_day (build_gives sample_day at_first).state moved (build_leaves sample_day at_first)) (build_leaves sample_day at_first) move_accepted
    ∙ ap₂ (λ st ls. State.updated_lists full_day sample_day st moved ls) (built_state_lem sample_day at_first first_accepted) (built_lists_lem sample_day at_first first_accepted)

-- a state that an update takes is one that the slot list call takes
list_taken : (st : AssignmentScheduleState) (lists : List ℕ) (s : ℕ) → s < 2 → State.update_number full_day sample_day st moved lists ≡ 0 → list_number st lists s ≡ 0
unfolding State.state_number first_of
list_taken st lists s h e =
    let a = update_accepted full_day sample_day st moved lists full_within e in
    number_accepted full_day sample_day (State.beside_lists full_day (length lists) (leb 2 s)) a.ready.day
    (record { lengths = le-ltb (length lists) 256 a.ready.room; preferences = refl; levels = refl; costs = refl; asked = lt-leb 2 s h; none = refl }) _
    ∙ rw (a.from, a.consistent)

-- what the move leaves is taken again
abbrev move : Call
move = record { day = sample_day; state = first_state; schedule = moved; lists = first_lists }

moved_again : State.update_number full_day sample_day moved_state moved moved_lists ≡ 0
unfolding first_of some_below fold_to
moved_again =
    ap (λ (x : Carried). State.update_number full_day sample_day x.state moved x.lists) (sym (left (number_of full_day move) (updated full_day move) (after_build full_day sample_day at_first buffer) move_plain))
    ∙ (carried_agrees full_day full_within sample_day at_first buffer first_accepted (move ∷ []) ((λ e. (refl, refl, refl)), tt) buffer (omega arith)).next moved

taken : State.update_number full_day sample_day move_gives.state moved move_leaves ≡ 0
taken = ap₂ (λ st ls. State.update_number full_day sample_day st moved ls) moved_state_lem moved_lists_lem ∙ moved_again

moves : Moves (0 ∷ 3 ∷ []) (1 ∷ []) (2 ∷ 0 ∷ [])
unfolding carried visit left_by fold_to first_to
moves = record {
  accepted = move_accepted;
  covers = ap covered moved_state_lem;
  listed = (list_taken move_gives.state move_leaves 0 (omega arith) taken, list_taken move_gives.state move_leaves 1 (omega arith) taken);
  lists = (ap₂ (λ st ls. slot_list_of st ls 0) moved_state_lem moved_lists_lem, ap₂ (λ st ls. slot_list_of st ls 1) moved_state_lem moved_lists_lem);
}

-- ---- the model

abbrev plain : InputData → ModelInput
plain d = model_input d (State.built_state d at_first) 1 preferences costs (State.built_lists full_day d at_first buffer)

module _ (d : InputData) (e : build_number_of d at_first ≡ 0) where
  input_is : at_limit_one d ≡ plain d
  input_is = ap₂ (λ st ls. model_input d st 1 preferences costs ls) (built_state_lem d at_first e) (built_lists_lem d at_first e)

  module _ (p : model_number full_day (plain d) (Room.lengths_of zeros) ≡ 0) where
    model_accepted : model_number_of d ≡ 0
    model_accepted = ap (λ x. model_number full_day x (Room.lengths_of zeros)) input_is ∙ p

    model_given : model_gives d ≡ Model.model_counts full_day (plain d)
    model_given = left (model_number_of d) (Model.model_counts full_day (at_limit_one d)) (Counts.model_refused (model_number_of d)) model_accepted ∙ ap (Model.model_counts full_day) input_is

    model_left : model_leaves d ≡ Filled.with_model full_day (plain d) zeros
    model_left = left (model_number_of d) (Filled.with_model full_day (at_limit_one d) zeros) zeros model_accepted ∙ ap (λ x. Filled.with_model full_day x zeros) input_is

sample_model : model_number full_day (plain sample_day) (Room.lengths_of zeros) ≡ 0
unfolding State.state_number day_number late_number first_of has_bad_preferences has_bad_costs member_count misheld miscounted_in misblocked carried visit left_by blocked_by some_below fold_to
sample_model = refl

tied_model : model_number full_day (plain tied_day) (Room.lengths_of zeros) ≡ 0
unfolding State.state_number day_number late_number first_of has_bad_preferences has_bad_costs member_count misheld miscounted_in misblocked carried visit left_by blocked_by some_below fold_to kind_of left_fits right_fits extra_fits
tied_model = refl

sample_counts : Model.model_counts full_day (plain sample_day) ≡ Counts.model_answer 0 8 0 0 0
unfolding Model.model_counts network_of supplies seats_of choices_of open_seats chooser_seats slot_seats is_open preference_of scheduled names_of names constraints_names dependent_names each eq_z number_from edge_of all_there constraint_names same_choices_names slot_names kind_of carried visit left_by blocked_by some_below fold_to first_to
sample_counts = refl

tied_counts : Model.model_counts full_day (plain tied_day) ≡ Counts.model_answer 0 8 4 2 1
unfolding Model.model_counts network_of supplies seats_of choices_of open_seats chooser_seats slot_seats is_open preference_of scheduled names_of names constraints_names dependent_names each eq_z number_from edge_of all_there constraint_names same_choices_names slot_names kind_of carried visit left_by blocked_by some_below fold_to first_to
tied_counts = refl

module _ (d : InputData) (e : build_number_of d at_first ≡ 0) (p : model_number full_day (plain d) (Room.lengths_of zeros) ≡ 0) where
  models : {edges entries groups blocked : ℕ} → Model.model_counts full_day (plain d) ≡ Counts.model_answer 0 edges entries groups blocked → Models d edges groups blocked
  models c =
      let r = model_given d e p ∙ c in
      record { built = e; accepted = ap (λ a. a.number) r; edges_are = ap (λ a. a.edges) r; groups_are = ap (λ a. a.groups) r; blocked_are = ap (λ a. a.blocked) r }

sample_left : (take 9 (Filled.with_model full_day (plain sample_day) zeros).supplies ≡ pos 1 ∷ pos 1 ∷ pos 1 ∷ pos 1 ∷ negsuc 0 ∷ pos 0 ∷ negsuc 1 ∷ negsuc 0 ∷ pos 0 ∷ [])
    × (take 8 (Filled.with_model full_day (plain sample_day) zeros).from ≡ 0 ∷ 0 ∷ 1 ∷ 2 ∷ 3 ∷ 4 ∷ 5 ∷ 6 ∷ [])
    × (take 8 (Filled.with_model full_day (plain sample_day) zeros).to ≡ 4 ∷ 5 ∷ 6 ∷ 4 ∷ 6 ∷ 7 ∷ 7 ∷ 8 ∷ [])
unfolding Filled.with_model written network_of supplies seats_of choices_of open_seats chooser_seats slot_seats is_open preference_of scheduled names_of names constraints_names dependent_names each eq_z number_from edge_of all_there constraint_names same_choices_names slot_names kind_of carried visit left_by blocked_by some_below fold_to first_to
sample_left = (refl, refl, refl)

tied_left : (take 4 (Filled.with_model full_day (plain tied_day) zeros).entries ≡ 0 ∷ 3 ∷ 2 ∷ 4 ∷ [])
    × (take 2 (Filled.with_model full_day (plain tied_day) zeros).ends ≡ 2 ∷ 4 ∷ [])
    × (take 1 (Filled.with_model full_day (plain tied_day) zeros).blocked ≡ 1 ∷ [])
unfolding Filled.with_model written ends_from network_of supplies seats_of choices_of open_seats chooser_seats slot_seats is_open preference_of scheduled names_of names constraints_names dependent_names each eq_z number_from edge_of all_there constraint_names same_choices_names slot_names kind_of carried visit left_by blocked_by some_below fold_to first_to
tied_left = (refl, refl, refl)

-- ---- values

enter_plain : enter_number full_day (plain sample_day) (Room.lengths_of zeros) (length (valued 0)) (length zero_plan) ≡ 0
unfolding State.state_number day_number late_number first_of has_bad_preferences has_bad_costs member_count misheld miscounted_in misblocked carried visit left_by blocked_by some_below fold_to
enter_plain = refl

entered : enter_number_of 0 ≡ 0
entered = ap (λ x. enter_number full_day x (Room.lengths_of zeros) (length (valued 0)) (length zero_plan)) (input_is sample_day first_accepted) ∙ enter_plain

-- the same of any value of edge 6: the list is as long
module _ (v : ℕ) where
  checked_with_lem : Model.checked_with (enter_number_of v) full_day (at_limit_one sample_day) (valued v) ≡ values_number (network_of full_day (plain sample_day)) (valued v)
  checked_with_lem = left (enter_number_of v) (values_number (network_of full_day (at_limit_one sample_day)) (valued v)) (enter_number_of v) entered ∙ ap (λ x. values_number (network_of full_day x) (valued v)) (input_is sample_day first_accepted)

accepted_values : values_number (network_of full_day (plain sample_day)) (valued 1) ≡ 0
unfolding values_number first_of some_outside some_used some_uneven some_unbalanced flow network_of supplies seats_of choices_of open_seats chooser_seats slot_seats is_open preference_of scheduled names_of names constraints_names dependent_names each eq_z number_from edge_of all_there constraint_names same_choices_names slot_names kind_of carried visit left_by blocked_by some_below fold_to first_to
accepted_values = refl

above_max : values_number (network_of full_day (plain sample_day)) (valued 3) ≡ 14
unfolding values_number first_of some_outside some_used some_uneven some_unbalanced flow network_of supplies seats_of choices_of open_seats chooser_seats slot_seats is_open preference_of scheduled names_of names constraints_names dependent_names each eq_z number_from edge_of all_there constraint_names same_choices_names slot_names kind_of carried visit left_by blocked_by some_below fold_to first_to
above_max = refl

out_of_balance : values_number (network_of full_day (plain sample_day)) (valued 0) ≡ 17
unfolding values_number first_of some_outside some_used some_uneven some_unbalanced flow network_of supplies seats_of choices_of open_seats chooser_seats slot_seats is_open preference_of scheduled names_of names constraints_names dependent_names each eq_z number_from edge_of all_there constraint_names same_choices_names slot_names kind_of carried visit left_by blocked_by some_below fold_to first_to
out_of_balance = refl

-- 14 to 17 give the number and zeros, and leave the plan
refused_answer : (m n : ℕ) (x : ModelInput) → m ≡ n → eqb n 0 ≡ false → Model.model_answer_of m full_day x ≡ Counts.model_refused n
refused_answer m n x p q = rw (p, q)

kept_plan_lem : {A : Type 0} (m n : ℕ) (made before : A) → m ≡ n → eqb n 0 ≡ false → cond (eqb m 0) made before ≡ before
kept_plan_lem m n made before p q = rw (p, q)

values_given : values_give 1 ≡ Model.model_counts full_day (plain sample_day)
values_given = left (values_number_of 1) (Model.model_counts full_day (at_limit_one sample_day)) (Counts.model_refused (values_number_of 1)) (checked_with_lem 1 ∙ accepted_values) ∙ ap (Model.model_counts full_day) (input_is sample_day first_accepted)

plan_plain : take 4 (written zero_plan 0 (plan_of full_day (plain sample_day) (valued 1))) ≡ 1 ∷ 2 ∷ 0 ∷ 2 ∷ []
unfolding written plan_of decoded choice_for network_of supplies seats_of choices_of open_seats chooser_seats slot_seats is_open preference_of scheduled names_of names constraints_names dependent_names each eq_z number_from edge_of all_there constraint_names same_choices_names slot_names kind_of carried visit left_by blocked_by some_below fold_to first_to
plan_plain = refl

plan_left_lem : take 4 (plan_left 1) ≡ 1 ∷ 2 ∷ 0 ∷ 2 ∷ []
plan_left_lem =
    ap (take 4) (left (values_number_of 1) (written zero_plan 0 (plan_of full_day (at_limit_one sample_day) (valued 1))) zero_plan (checked_with_lem 1 ∙ accepted_values)
    ∙ ap (λ x. written zero_plan 0 (plan_of full_day x (valued 1))) (input_is sample_day first_accepted))
    ∙ plan_plain

-- ---- the verdict and the score

feasible : plan_answer full_day sample_day at_first planned ≡ verdict 0 true
unfolding plan_answer verdict_number parts_number plan_feasible scheduling_met assignment_met none_twice once_each is_new all_filled part_count bad_plan_for day_number late_number first_of member_count some_below fold_to
feasible = refl

quarter : ((score_given planned).number ≡ 0) × (to_bits binary32 (score_given planned).score.major ≡ 0x3f80_0000) × (to_bits binary32 (score_given planned).score.minor ≡ 0x3e80_0000)
unfolding evaluate_answer evaluate_number evaluated plan_feasible scheduling_met assignment_met none_twice once_each is_new all_filled part_count minor_of minor_to greatest greatest_row uses uses_row parts_number bad_plan_for has_bad_preferences day_number late_number first_of member_count some_below fold_to add mul div of_int to_bits
quarter = (refl, refl, refl)

-- ---- the search

begin_zero : (begin_at 0).number ≡ 0
unfolding begin_answer begun_answer begin_number day_number late_number first_of has_bad_levels member_count some_below fold_to
begin_zero = refl

begin_five : (begin_at 5).number ≡ 0
unfolding begin_answer begun_answer begin_number day_number late_number first_of has_bad_levels member_count some_below fold_to
begin_five = refl

begun : (bound : ℕ) (ts : List Told) → RunIsSearch full_day search_day at_first levels bound false nothing_cached (begin_at bound) ts
begun bound ts = run_is_search full_day search_day at_first levels bound false nothing_cached full_within search_accepted ts

-- a run whose search ends with the sample plan, found at a level
ended_at : (bound most level : ℕ) (ts : List Told) (asks : List Ask) → (begin_at bound).number ≡ 0 → most_asks false 5 (start_of levels bound) ≡ most
    → outcome search_day at_first levels bound false nothing_cached (counted full_day search_day (kept_of search_day at_first) ts) ≡ record { asks = asks; known = found_at 4 level planned true; over = true }
    → Searches bound ts asks (length asks) most level
unfolding fold_to
ended_at bound most level ts asks e q p =
    let r = (begun bound ts).is in
    let bounded = few_asks full_day search_day at_first levels bound false nothing_cached full_within search_accepted ts in
    let knows : known_by (run_of bound ts).search ≡ found_at 4 level planned true = r.knows_it ∙ ap (λ (o : Outcome). o.known) p in
    record {
      begun = e;
      asks_are = r.asks_are ∙ ap (λ (o : Outcome). o.asks) p;
      few = bounded.few;
      counted = r.count_is ∙ ap (λ (o : Outcome). length o.asks) p;
      most_is = bounded.most_is ∙ q;
      over = r.waits ∙ ap (λ (o : Outcome). not o.over) p;
      found = ap (λ (k : Known). k.found) knows;
      optimal = ap (λ (k : Known). k.optimal) knows;
      level_is = ap (λ (k : Known). k.level) knows;
      plan_is = ap (λ (k : Known). take 4 k.plan) knows;
    }

two_asks : Searches 0 answers (ask_at 2 2 ∷ ask_at 3 3 ∷ []) 2 3 3
unfolding remembers counted bad_plan_for search_levels search_from start_of first_to middle fold_to
two_asks = ended_at 0 3 3 answers (ask_at 2 2 ∷ ask_at 3 3 ∷ []) begin_zero digits_of_five refl

one_ask : Searches 5 last_answer (ask_at 4 4 ∷ []) 1 1 4
unfolding remembers counted bad_plan_for search_levels search_from start_of first_to middle fold_to
one_ask = ended_at 5 1 4 last_answer (ask_at 4 4 ∷ []) begin_five digits_of_one refl

-- ---- all rows

pub sample_day_lem : All rows
sample_day_lem = (
  (builds_first, ap (λ b. take 9 b.supplies) (model_left sample_day first_accepted sample_model) ∙ sample_left.0),
  (
    (models sample_day first_accepted sample_model sample_counts, ap (λ b. take 8 b.from) (model_left sample_day first_accepted sample_model) ∙ sample_left.1, ap (λ b. take 8 b.to) (model_left sample_day first_accepted sample_model) ∙ sample_left.2),
    (
      (ap (λ a. a.number) (values_given ∙ sample_counts), plan_left_lem, feasible, quarter.0, quarter.1, quarter.2),
      (
        (refused_answer (values_number_of 3) 14 (at_limit_one sample_day) (checked_with_lem 3 ∙ above_max) refl, ap (take 4) (kept_plan_lem (values_number_of 3) 14 (written zero_plan 0 (plan_of full_day (at_limit_one sample_day) (valued 3))) zero_plan (checked_with_lem 3 ∙ above_max) refl)),
        (
          (refused_answer (values_number_of 0) 17 (at_limit_one sample_day) (checked_with_lem 0 ∙ out_of_balance) refl, ap (take 4) (kept_plan_lem (values_number_of 0) 17 (written zero_plan 0 (plan_of full_day (at_limit_one sample_day) (valued 0))) zero_plan (checked_with_lem 0 ∙ out_of_balance) refl)),
          (
            (models tied_day tied_accepted tied_model tied_counts, ap (λ b. take 4 b.entries) (model_left tied_day tied_accepted tied_model) ∙ tied_left.0, ap (λ b. take 2 b.ends) (model_left tied_day tied_accepted tied_model) ∙ tied_left.1, ap (λ b. take 1 b.blocked) (model_left tied_day tied_accepted tied_model) ∙ tied_left.2),
            ((moves, builds_moved), (two_asks, (one_ask, ((all_begins, none_begins, greedy_begins, greedy_none_begins), ((again_begins, again_last_begins), (minus_zero_first, tt)))))),
          ),
        ),
      ),
    ),
  ),
)
