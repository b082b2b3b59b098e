-- The first half of demand 3: what is carried from schedule to schedule agrees with a fresh build. SPEC 5.16, 12.1 to 12.3.
-- Statement only; the proof is `carried_agrees` in proofs/CarriedAgrees.antt.
--
-- It rests on the contracts of `build` and `update` in schedule_updates' src/state.rt, the promises Built and Updated of schedule_state's Calls.antt, which cite the definitions used here.
-- They speak of a call's result as C is given it, a number and a state (`state_answered` of schedule_state's Answered.antt):
--   build    gives build_number, and where that is 0 the state built_state and the slot lists built_lists
--   update   gives update_number, and where that is 0 the state updated_state and the slot lists updated_lists
-- both within limits, of the day, state and schedule that the lent bytes stand for, where all bytes have their lengths
-- (else 1 or 2, by lent_number); where the number is not 0 they leave the lent buffer as it was. The open calls have full_day's limits.
use Rattle.std.specs.Prelude.{ℕ, ◌<◌, ◌≤◌, ◌≡◌, Bool, cond, List, [], ◌∷◌, eqb, length}
use Rattle.counting.specs.Fold.{any_to}
use Rattle.input_data.specs.Checks.{first_of}
use Rattle.input_data.specs.Lengths.{Within, lists_length}
use Rattle.input_data.specs.declared.Limits.{Limits}
use Rattle.input_data.specs.declared.InputData.{InputData}
use Rattle.scheduling.specs.Handed.{outside}
use Rattle.scheduling.specs.declared.Scheduling.{Scheduling}
use Rattle.slot_lists.specs.Lists.{is_listed}
use Rattle.schedule_state.specs.Calls.{build_number, built_state, built_lists, update_number, updated_state, updated_lists, slot_list_length}
use Rattle.schedule_state.specs.declared.AssignmentScheduleState.{AssignmentScheduleState}

-- the whole input of an update
pub record Call : Type 0 where
  pub day : InputData
  pub state : AssignmentScheduleState
  pub schedule : Scheduling
  pub lists : List ℕ

-- the number that it gives
abbrev pub number_of : Limits → Call → ℕ
number_of l c = update_number l c.day c.state c.schedule c.lists

-- what is carried: the schedule that was accepted last, and the state and slot lists that were left then
pub record Carried : Type 0 where
  pub schedule : Scheduling
  pub state : AssignmentScheduleState
  pub lists : List ℕ

-- after a build
abbrev pub after_build : Limits → InputData → Scheduling → List ℕ → Carried
after_build l d sch buffer = record { schedule = sch; state = built_state d sch; lists = built_lists l d sch buffer }

-- after an update: what it gives and leaves where it is accepted; what was there where it is refused
abbrev pub updated : Limits → Call → Carried
updated l c = record {
  schedule = c.schedule;
  state = updated_state c.day c.schedule;
  lists = updated_lists l c.day c.state c.schedule c.lists;
}

abbrev pub after_update : Limits → Carried → Call → Carried
after_update l x c = cond (eqb (number_of l c) 0) (updated l c) x

-- after a list of updates
abbrev pub run_updates : Limits → Carried → List Call → Carried
run_updates l x [] = x
run_updates l x (c ∷ cs) = run_updates l (after_update l x c) cs

-- Every accepted update was handed the day, and the state and slot lists that were left last.
-- A refused one may have been handed anything.
abbrev pub Fed : Limits → InputData → Carried → List Call → Type 0
Fed l d x [] = Unit {0}
Fed l d x (c ∷ cs) = (number_of l c ≡ 0 → (c.day ≡ d) × (c.state ≡ x.state) × (c.lists ≡ x.lists)) × Fed l d (after_update l x c) cs

-- choice k stands in the list of slot s
abbrev pub is_in : Limits → InputData → AssignmentScheduleState → List ℕ → ℕ → ℕ → Bool
is_in l d st lists s k = any_to (slot_list_length d st s) (is_listed l.choices lists s k)

-- states agree in schedule, covered, blocks and each slot's set of choices
pub record Agree (l : Limits) (d : InputData) (a : AssignmentScheduleState) (x : List ℕ) (b : AssignmentScheduleState) (y : List ℕ) : Type 0 where
  pub schedule : a.schedule ≡ b.schedule
  pub covered : a.covered ≡ b.covered
  pub blocks : a.blocks ≡ b.blocks
  pub lists : (s : ℕ) → s < d.slots → (k : ℕ) → is_in l d a x s k ≡ is_in l d b y s k

-- What holds of everything carried, beside any other buffer:
pub record AsFresh (l : Limits) (d : InputData) (x : Carried) (buffer : List ℕ) : Type 0 where
  -- the schedule that was accepted last would be accepted by a fresh build
  pub accepted : build_number l d x.schedule (length buffer) ≡ 0
  -- what is carried agrees with that build
  pub agree : Agree l d x.state x.lists (built_state d x.schedule) (built_lists l d x.schedule buffer)
  -- an update of it is refused by 11 alone: never by 12, and never by 1 to 10
  pub next : (sch : Scheduling) → update_number l d x.state sch x.lists ≡ first_of (outside d sch) 11 0

-- The claim, for all limits, every day, first schedule, buffer and list of updates, refused ones included.
abbrev pub CarriedAgrees : Type 0
CarriedAgrees =
    (l : Limits) → Within l → (d : InputData) (sch : Scheduling) (lent : List ℕ) → build_number l d sch (length lent) ≡ 0
    → (calls : List Call) → Fed l d (after_build l d sch lent) calls
    → (buffer : List ℕ) → lists_length l ≤ length buffer
    → AsFresh l d (run_updates l (after_build l d sch lent) calls) buffer
