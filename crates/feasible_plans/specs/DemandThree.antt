-- Demand 3, whole: SPEC 12. Statement only; the proof is `demand_three` in proofs/DemandThreeHolds.antt.
--
-- It is one claim about a list of updates, over the definitions that the contracts cite:
--   build, update           Rattle.schedule_state Calls.antt; runs of them: Rattle.carried_states Agreement.antt
--   model, value check      Rattle.plans Model.antt; which plans can be had: CanBeHad.antt
--   both is_feasible        Rattle.scoring Calls.antt
use Rattle.std.specs.Prelude.{ℕ, ◌+◌, ◌*◌, ◌<◌, ◌≤◌, ◌≡◌, true, List, ◌↔◌, ℤ, length, get_or}
use Rattle.assignment.specs.Calls.{seats}
use Rattle.input_data.specs.Lengths.{Within, lists_length, plan_length}
use Rattle.input_data.specs.declared.Limits.{Limits}
use Rattle.input_data.specs.declared.InputData.{InputData}
use Rattle.plans.specs.CanBeHad.{CanBeHad}
use Rattle.plans.specs.Model.{ModelInput, model_input}
use Rattle.plans.specs.Seatable.{choice_in}
use Rattle.carried_states.specs.Agreement.{Call, Carried, after_build, run_updates, Fed, AsFresh}
use Rattle.schedule_state.specs.Calls.{build_number, built_state, built_lists}
use Rattle.scheduling.specs.Handed.{kept_of}
use Rattle.scheduling.specs.Schedule.{entry_at}
use Rattle.scheduling.specs.declared.Scheduling.{Scheduling}
use Rattle.scoring.specs.Calls.{verdict, schedule_answer, plan_answer}
use Rattle.feasibility.specs.Feasible.{all_placed}
use Rattle.feasible_plans.specs.Premises.{Premises}

-- what a model is made from: of what is carried, and of a fresh build for the schedule that was accepted last
abbrev pub carried_model : InputData → Carried → ℕ → List ℕ → List ℤ → ModelInput
carried_model d x limit preferences costs = model_input d x.state limit preferences costs x.lists

abbrev pub fresh_model : Limits → InputData → Carried → List ℕ → ℕ → List ℕ → List ℤ → ModelInput
fresh_model l d x buffer limit preferences costs = model_input d (built_state d x.schedule) limit preferences costs (built_lists l d x.schedule buffer)

-- the schedule that was accepted last, as calls read it
abbrev pub last_schedule : InputData → Carried → List ℕ
last_schedule d x = kept_of d x.schedule

-- a buffer that begins with a plan, and has the length that the calls ask for
pub record Begins (l : Limits) (d : InputData) (plan bytes : List ℕ) : Type 0 where
  pub long : length bytes ≡ plan_length l
  pub front : (i : ℕ) → i < seats d → entry_at bytes i ≡ entry_at plan i

-- What holds of a plan that can be had at a limit:
pub record Granted (l : Limits) (d : InputData) (x : Carried) (limit : ℕ) (preferences plan : List ℕ) : Type 0 where
  -- no preference is above the limit
  pub within : (c s : ℕ) → c < d.choosers → s < d.slots → get_or preferences (c * d.choices + choice_in d plan c s) 0 ≤ limit
  -- lent with the schedule that was accepted last, it is accepted by Scoring::is_feasible, which says yes, under the premises
  pub feasible : Premises d (last_schedule d x) → (bytes : List ℕ) → Begins l d plan bytes → plan_answer l d x.schedule bytes ≡ verdict 0 true
  -- beyond it: with no unmarked choice left out, Scheduling::is_feasible accepts the schedule and says yes
  pub schedule : Premises d (last_schedule d x) → all_placed d (last_schedule d x) ≡ true → schedule_answer l d x.schedule ≡ verdict 0 true

-- What holds of everything carried, beside a fresh build into any other buffer:
pub record Demand (l : Limits) (d : InputData) (x : Carried) (buffer : List ℕ) : Type 0 where
  -- the carried state agrees with the fresh build, which is accepted
  pub agrees : AsFresh l d x buffer
  -- at every limit, with any tables, a plan can be had from the one exactly when from the other
  pub same : (limit : ℕ) (preferences : List ℕ) (costs : List ℤ) (plan : List ℕ)
      → CanBeHad l (carried_model d x limit preferences costs) plan ↔ CanBeHad l (fresh_model l d x buffer limit preferences costs) plan
  -- and every such plan is granted
  pub granted : (limit : ℕ) (preferences : List ℕ) (costs : List ℤ) (plan : List ℕ)
      → CanBeHad l (carried_model d x limit preferences costs) plan → Granted l d x limit preferences plan

-- The claim: for all limits, every day, every first schedule that a fresh build accepts, and every list of updates after it, refused ones included.
-- Every accepted update was handed what was left last; a refused one may have been handed anything (Fed).
abbrev pub DemandThree : Type 0
DemandThree =
    (l : Limits) → Within l → (d : InputData) (sch : Scheduling) (lent : List ℕ) → build_number l d sch (length lent) ≡ 0
    → (calls : List Call) → Fed l d (after_build l d sch lent) calls
    → (buffer : List ℕ) → lists_length l ≤ length buffer
    → Demand l d (run_updates l (after_build l d sch lent) calls) buffer
