-- The rows of the sample day that SPEC 13 marks P, as one list over what the calls give and leave, acceptance included. Definitions only.
use Rattle.std.specs.Prelude.{ℕ, ◌≤◌, ◌≡◌, true, false, List, [], ◌∷◌, pos, negsuc, length, take}
use Rattle.std.specs.Float.{fin, binary32}
use Rattle.std.specs.Float.Ieee.{to_bits}
use Rattle.preference_search.specs.Search.{Ask, Told, ask_at}
use Rattle.input_data.specs.Lengths.{full_day}
use Rattle.input_data.specs.declared.InputData.{InputData}
use Rattle.preference_search.specs.declared.SearchAnswer.{SearchAnswer}
use Rattle.scheduling.specs.declared.Scheduling.{Scheduling}
use Rattle.score.specs.Order.{score_order}
use Rattle.std.specs.declared.cmp.Ordering.TheVariants.{Less}
use Rattle.scoring.specs.Calls.{verdict, plan_answer}
use Rattle.model_buffers.specs.Answers.{model_refused}
use Rattle.sample_day.specs.SampleDay.{sample_day, tied_day, at_first, moved, build_gives, build_leaves, move_gives, move_leaves, list_number, slot_list_of, model_gives, model_leaves, values_give, plan_left, score_given, begin_at, begin_all, begin_none, begin_greedy, begin_again, levels, answers, last_answer, asks_in, run_of, planned}

-- a build is accepted, with these covered counts and these lists of slots 0 and 1
pub record Builds (sch : Scheduling) (covered first second : List ℕ) : Type 0 where
  pub accepted : (build_gives sample_day sch).number ≡ 0
  pub covers : take 2 (build_gives sample_day sch).state.covered ≡ covered
  pub lists : (slot_list_of (build_gives sample_day sch).state (build_leaves sample_day sch) 0 ≡ first) × (slot_list_of (build_gives sample_day sch).state (build_leaves sample_day sch) 1 ≡ second)

-- so is the move
pub record Moves (covered first second : List ℕ) : Type 0 where
  pub accepted : move_gives.number ≡ 0
  pub covers : take 2 move_gives.state.covered ≡ covered
  pub listed : (list_number move_gives.state move_leaves 0 ≡ 0) × (list_number move_gives.state move_leaves 1 ≡ 0)
  pub lists : (slot_list_of move_gives.state move_leaves 0 ≡ first) × (slot_list_of move_gives.state move_leaves 1 ≡ second)

-- a model is accepted, with as many edges and groups as this
pub record Models (d : InputData) (edges groups blocked : ℕ) : Type 0 where
  pub built : (build_gives d at_first).number ≡ 0
  pub accepted : (model_gives d).number ≡ 0
  pub edges_are : (model_gives d).edges ≡ edges
  pub groups_are : (model_gives d).groups ≡ groups
  pub blocked_are : (model_gives d).blocked ≡ blocked

-- a search is begun, with so many asks, and so many at most
pub record Begins (a : SearchAnswer) (count most : ℕ) : Type 0 where
  pub begun : a.number ≡ 0
  pub counted : a.search.asks ≡ count
  pub most_is : a.most_asks ≡ most

-- a run of the search: begun, with these asks, and so many at most; ended with the sample plan, found at a level
pub record Searches (bound : ℕ) (ts : List Told) (asks : List Ask) (count most level : ℕ) : Type 0 where
  pub begun : (begin_at bound).number ≡ 0
  pub asks_are : asks_in bound ts ≡ asks
  pub few : length (asks_in bound ts) ≤ (run_of bound ts).most_asks
  pub counted : (run_of bound ts).search.asks ≡ count
  pub most_is : (run_of bound ts).most_asks ≡ most
  pub over : (run_of bound ts).search.asking ≡ false
  pub found : (run_of bound ts).search.found ≡ true
  pub optimal : (run_of bound ts).search.optimal ≡ true
  pub level_is : (run_of bound ts).search.level ≡ level
  pub plan_is : take 4 (run_of bound ts).search.plan ≡ 1 ∷ 2 ∷ 0 ∷ 2 ∷ []

abbrev pub rows : List (Type 0)
rows =
    -- covered is 1, 2; supplies are 1 1 1 1 -1 0 -2 -1 0
    (Builds at_first (1 ∷ 2 ∷ []) (0 ∷ 1 ∷ []) (2 ∷ [])
    × (take 9 (model_leaves sample_day).supplies ≡ pos 1 ∷ pos 1 ∷ pos 1 ∷ pos 1 ∷ negsuc 0 ∷ pos 0 ∷ negsuc 1 ∷ negsuc 0 ∷ pos 0 ∷ []))
    -- limit 1 has 8 edges: 0 to 4, 0 to 5, 1 to 6, 2 to 4, 3 to 6, 4 to 7, 5 to 7, 6 to 8
    ∷ (Models sample_day 8 0 0
    × (take 8 (model_leaves sample_day).from ≡ 0 ∷ 0 ∷ 1 ∷ 2 ∷ 3 ∷ 4 ∷ 5 ∷ 6 ∷ [])
    × (take 8 (model_leaves sample_day).to ≡ 4 ∷ 5 ∷ 6 ∷ 4 ∷ 6 ∷ 7 ∷ 7 ∷ 8 ∷ []))
    -- values 0 1 1 1 1 0 1 0 decode to rows 1 2 and 0 2, feasible, score (1, 0.25): bits 3F800000 and 3E800000
    ∷ (((values_give 1).number ≡ 0) × (take 4 (plan_left 1) ≡ 1 ∷ 2 ∷ 0 ∷ 2 ∷ [])
    × (plan_answer full_day sample_day at_first planned ≡ verdict 0 true)
    × ((score_given planned).number ≡ 0) × (to_bits binary32 (score_given planned).score.major ≡ 0x3f80_0000) × (to_bits binary32 (score_given planned).score.minor ≡ 0x3e80_0000))
    -- edge 6 given 3: 14, and no plan
    ∷ ((values_give 3 ≡ model_refused 14) × (take 4 (plan_left 3) ≡ 0 ∷ 0 ∷ 0 ∷ 0 ∷ []))
    -- edge 6 given 0: 17, and no plan
    ∷ ((values_give 0 ≡ model_refused 17) × (take 4 (plan_left 0) ≡ 0 ∷ 0 ∷ 0 ∷ 0 ∷ []))
    -- ChoosersHaveSameChoices of 0 and 1: groups {0,3}, {2,4}; blocked 1
    ∷ (Models tied_day 8 2 1
    × (take 4 (model_leaves tied_day).entries ≡ 0 ∷ 3 ∷ 2 ∷ 4 ∷ []) × (take 2 (model_leaves tied_day).ends ≡ 2 ∷ 4 ∷ []) × (take 1 (model_leaves tied_day).blocked ≡ 1 ∷ []))
    -- choice 0 moved to slot 1: lists 1 and 2 0; covered 0, 3. Afresh: 1 and 0 2
    ∷ (Moves (0 ∷ 3 ∷ []) (1 ∷ []) (2 ∷ 0 ∷ []) × Builds moved (0 ∷ 3 ∷ []) (1 ∷ []) (0 ∷ 2 ∷ []))
    -- five levels, start 0, only the last two feasible: asks at 2, 3, of 3 at most; answer 3
    ∷ Searches 0 answers (ask_at 2 2 ∷ ask_at 3 3 ∷ []) 2 3 3
    -- no level at or above the bound: one ask, at the last
    ∷ Searches 5 last_answer (ask_at 4 4 ∷ []) 1 1 4
    -- begun over 256 levels: 9 asks at most; over none: no ask; greedy, with levels and without: one
    ∷ (Begins begin_all 1 9 × Begins begin_none 0 0 × Begins (begin_greedy levels) 1 1 × Begins (begin_greedy []) 1 1)
    -- answered from memory: no ask, of the 3 at most, or the one, that there would be otherwise
    ∷ (Begins (begin_again 0) 0 3 × Begins (begin_again 5) 0 1)
    -- with equal majors, minor -0.0 is less than +0.0
    ∷ (score_order (record { major = fin false 1 (pos 0); minor = fin true 0 (pos 0) }) (record { major = fin false 1 (pos 0); minor = fin false 0 (pos 0) }) ≡ Less)
    ∷ []

-- every row of a list holds
abbrev pub All : List (Type 0) → Type 0
All [] = Unit {0}
All (r ∷ rs) = r × All rs
