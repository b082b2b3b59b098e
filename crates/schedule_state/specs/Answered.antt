-- What C is given of a call's result: SPEC 3.21. Definitions only.
use Rattle.std.specs.Prelude.{Result, Ok, Err}
use Rattle.refusal.specs.Number.{number}
use Rattle.refusal.specs.declared.Refusal.{Refusal}
use Rattle.schedule_state.specs.Calls.{state_answer, state_refused, list_refused}
use Rattle.schedule_state.specs.declared.AssignmentScheduleState.{AssignmentScheduleState}
use Rattle.schedule_state.specs.declared.StateAnswer.{StateAnswer}
use Rattle.schedule_state.specs.declared.listing.SlotListAnswer.{SlotListAnswer}
use Rattle.schedule_state.specs.declared.listing.SlotListPart.{SlotListPart}

-- the state and number 0, or zeros and the number of the refusal
abbrev pub state_answered : Result AssignmentScheduleState Refusal → StateAnswer
state_answered (Ok st) = state_answer 0 st
state_answered (Err r) = state_refused (number r)

abbrev pub list_answered : Result SlotListPart Refusal → SlotListAnswer
list_answered (Ok p) = record { number = 0; start = p.start; length = p.length }
list_answered (Err r) = list_refused (number r)
