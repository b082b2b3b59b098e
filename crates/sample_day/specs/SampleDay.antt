-- The sample day (SPEC 13.1), and what the calls give and leave on it, by the promises that their contracts cite. Definitions only.
use Rattle.std.specs.Prelude.{ℕ, true, false, cond, List, [], ◌∷◌, eqb, leb, ℤ, pos, Float, length, replicate}
use Rattle.std.specs.Float.{fin}
use Rattle.assignment_solver.specs.Calls.{begin_answer}
use Rattle.preference_search_runs.specs.Run.{asks_of, run}
use Rattle.preference_search.specs.Search.{Feasible, Infeasible, Told, Ask, told}
use Rattle.preference_search.specs.Steps.{cached, no_plan}
use Rattle.preference_search.specs.declared.CachedAssignment.{CachedAssignment}
use Rattle.preference_search.specs.declared.SearchAnswer.{SearchAnswer}
use Rattle.input_data.specs.Day.{no_numbers}
use Rattle.input_data.specs.Lengths.{full_day}
use Rattle.input_data.specs.declared.ConstraintList.{ConstraintList}
use Rattle.input_data.specs.declared.ConstraintNumbers.{ConstraintNumbers}
use Rattle.input_data.specs.declared.InputData.{InputData}
use Rattle.plans.specs.Model.{ModelInput, model_input, model_number, enter_number, plan_of}
use Rattle.counting.specs.Fold.{table_to}
use Rattle.counting.specs.Written.{written}
use Rattle.schedule_state.specs.Calls as State
use Rattle.schedule_state.specs.declared.AssignmentScheduleState.{AssignmentScheduleState}
use Rattle.schedule_state.specs.declared.StateAnswer.{StateAnswer}
use Rattle.scheduling.specs.declared.Scheduling.{Scheduling}
use Rattle.scoring.specs.Calls.{ScoreAnswer, evaluate_answer}
use Rattle.scoring.specs.Solution.{Complete}
use Rattle.model_buffers.specs.Buffers as Room
use Rattle.flow_model.specs.Lent as Filled
use Rattle.flow_model.specs.Calls as Model
use Rattle.model_buffers.specs.declared.ModelAnswer.{ModelAnswer}

-- ---- the day

abbrev pub no_constraints : ConstraintList
no_constraints = record { count = 0; entries = replicate 32 no_numbers }

-- 2 choosers, 2 slots, choices 0 (1 to 1), 1 (0 to 2), 2 (2 to 2); no groups. What differs is max_preference and the assignment constraints
abbrev pub day_with : ℕ → ConstraintList → InputData
day_with most assignment = record {
  choosers = 2;
  choices = 3;
  slots = 2;
  max_preference = most;
  mins = 1 ∷ 0 ∷ 2 ∷ replicate 29 0;
  maxs = 1 ∷ 2 ∷ 2 ∷ replicate 29 0;
  optional = replicate 32 false;
  scheduling = no_constraints;
  assignment = assignment;
  groups = 0;
  lengths = replicate 16 0;
  members = replicate 32 0;
}

abbrev pub sample_day : InputData
sample_day = day_with 2 no_constraints

-- with ChoosersHaveSameChoices of choosers 0 and 1
abbrev pub same_choices_tie : ConstraintNumbers
same_choices_tie = record { kind = 65539; left = 0; target_case = 3; target = 1; extra_case = 0; extra = pos 0 }

abbrev pub tied_day : InputData
tied_day = day_with 2 (record { count = 1; entries = same_choices_tie ∷ replicate 31 no_numbers })

-- choices 0, 1, 2 in slots 0, 0, 1; and choice 0 moved to slot 1
abbrev pub at_first : Scheduling
at_first = record { entries = 1 ∷ 1 ∷ 2 ∷ replicate 29 0 }

abbrev pub moved : Scheduling
moved = record { entries = 2 ∷ 1 ∷ 2 ∷ replicate 29 0 }

-- preferences 0 1 0 and 0 2 1, powers 0 1 8. The costs are cubes.
abbrev pub preferences : List ℕ
preferences = 0 ∷ 1 ∷ 0 ∷ 0 ∷ 2 ∷ 1 ∷ []

abbrev pub powers : List Float
powers = fin false 0 (pos 0) ∷ fin false 1 (pos 0) ∷ fin false 1 (pos 3) ∷ []

abbrev pub costs : List ℤ
costs = pos 1 ∷ pos 8 ∷ pos 27 ∷ []

-- ---- build, update and slot list

-- the slot lists that are lent
abbrev pub buffer : List ℕ
buffer = replicate 256 0

-- what a build gives, and what it leaves there
abbrev pub build_number_of : InputData → Scheduling → ℕ
build_number_of d sch = State.build_number full_day d sch (length buffer)

abbrev pub build_gives : InputData → Scheduling → StateAnswer
build_gives d sch = State.state_answer_of (build_number_of d sch) (State.built_state d sch)

abbrev pub build_leaves : InputData → Scheduling → List ℕ
build_leaves d sch = cond (eqb (build_number_of d sch) 0) (State.built_lists full_day d sch buffer) buffer

-- the move, of what the build gave and left
abbrev pub move_number : ℕ
move_number = State.update_number full_day sample_day (build_gives sample_day at_first).state moved (build_leaves sample_day at_first)

abbrev pub move_gives : StateAnswer
move_gives = State.state_answer_of move_number (State.updated_state sample_day moved)

abbrev pub move_leaves : List ℕ
move_leaves =
    cond (eqb move_number 0)
    (State.updated_lists full_day sample_day (build_gives sample_day at_first).state moved (build_leaves sample_day at_first))
    (build_leaves sample_day at_first)

-- the number that the slot list call gives, and the list: the used front of the slot's part
abbrev pub list_number : AssignmentScheduleState → List ℕ → ℕ → ℕ
list_number st lists s = State.slot_list_number full_day sample_day st s lists

abbrev pub slot_list_of : AssignmentScheduleState → List ℕ → ℕ → List ℕ
slot_list_of st lists s = State.slot_list_in full_day sample_day st s lists

-- ---- the model at limit 1, of what the build gave and left

abbrev pub at_limit_one : InputData → ModelInput
at_limit_one d = model_input d (build_gives d at_first).state 1 preferences costs (build_leaves d at_first)

-- zeros of exactly the named lengths
abbrev pub zeros : Room.Buffers
zeros = Room.buffers (replicate 552 (pos 0)) (replicate 2080 0) (replicate 2080 0) (replicate 2080 0) (replicate 2080 (pos 0)) (replicate 4096 0) (replicate 2048 0) (replicate 4096 0)

-- the number, the counts, and the eight buffers
abbrev pub model_number_of : InputData → ℕ
model_number_of d = model_number full_day (at_limit_one d) (Room.lengths_of zeros)

abbrev pub model_gives : InputData → ModelAnswer
model_gives d = Model.model_answer_of (model_number_of d) full_day (at_limit_one d)

abbrev pub model_leaves : InputData → Room.Buffers
model_leaves d = cond (eqb (model_number_of d) 0) (Filled.with_model full_day (at_limit_one d) zeros) zeros

-- ---- values: edges 0 to 5 have 0 1 1 1 1 0, edge 6 has v, edge 7 has 0, and nothing is behind them

abbrev pub valued : ℕ → List ℤ
valued v = pos 0 ∷ pos 1 ∷ pos 1 ∷ pos 1 ∷ pos 1 ∷ pos 0 ∷ pos v ∷ pos 0 ∷ replicate 2072 (pos 0)

-- they are lent with a plan of zeros
abbrev pub zero_plan : List ℕ
zero_plan = replicate 512 0

abbrev pub enter_number_of : ℕ → ℕ
enter_number_of v = enter_number full_day (at_limit_one sample_day) (Room.lengths_of zeros) (length (valued v)) (length zero_plan)

abbrev pub values_number_of : ℕ → ℕ
values_number_of v = Model.checked_with (enter_number_of v) full_day (at_limit_one sample_day) (valued v)

abbrev pub values_give : ℕ → ModelAnswer
values_give v = Model.model_answer_of (values_number_of v) full_day (at_limit_one sample_day)

-- what is left in the plan
abbrev pub plan_left : ℕ → List ℕ
plan_left v = cond (eqb (values_number_of v) 0) (written zero_plan 0 (plan_of full_day (at_limit_one sample_day) (valued v))) zero_plan

-- the score of a plan
abbrev pub score_given : List ℕ → ScoreAnswer
score_given plan = evaluate_answer full_day sample_day Complete at_first plan false preferences powers

-- ---- the search: five levels, of a day whose max_preference allows them, with nothing remembered

abbrev pub levels : List ℕ
levels = 0 ∷ 1 ∷ 2 ∷ 3 ∷ 4 ∷ []

abbrev pub search_day : InputData
search_day = day_with 4 no_constraints

abbrev pub nothing_cached : CachedAssignment
nothing_cached = cached false false (replicate 32 0) no_plan

abbrev pub begin_at : ℕ → SearchAnswer
begin_at bound = begin_answer full_day search_day at_first levels bound false nothing_cached

-- as many levels as there may be, 0 to 255, and a day that allows them
abbrev pub all_levels : List ℕ
all_levels = table_to 256 (λ k. k)

abbrev pub levels_day : InputData
levels_day = day_with 255 no_constraints

abbrev pub begin_all : SearchAnswer
begin_all = begin_answer full_day levels_day at_first all_levels 0 false nothing_cached

abbrev pub begin_none : SearchAnswer
begin_none = begin_answer full_day search_day at_first [] 0 false nothing_cached

-- a greedy search with these levels
abbrev pub begin_greedy : List ℕ → SearchAnswer
begin_greedy given = begin_answer full_day search_day at_first given 0 true nothing_cached

-- a solver that finds the sample plan at the last two levels only
abbrev pub planned : List ℕ
planned = 1 ∷ 2 ∷ 0 ∷ 2 ∷ replicate 508 0

abbrev pub solver : ℕ → Told
solver m = cond (leb 3 m) (told Feasible planned) (told Infeasible [])

-- its answers at levels 2 and 3, and at the last
abbrev pub answers : List Told
answers = solver 2 ∷ solver 3 ∷ []

abbrev pub last_answer : List Told
last_answer = solver 4 ∷ []

-- the asks of a run that is begun at a bound, and its last answer
abbrev pub asks_in : ℕ → List Told → List Ask
asks_in bound ts = asks_of full_day search_day levels (begin_at bound) ts

abbrev pub run_of : ℕ → List Told → SearchAnswer
run_of bound ts = run full_day search_day levels (begin_at bound) ts

-- the same schedule searched again, with what the search at level 3 remembers
abbrev pub begin_again : ℕ → SearchAnswer
begin_again bound = begin_answer full_day search_day at_first levels bound false (run_of 0 answers).search.cached
