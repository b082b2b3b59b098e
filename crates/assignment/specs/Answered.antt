-- The answers that results stand for. Definitions only.
use Rattle.std.specs.Prelude.{ℕ, Bool, false, Result, Ok, Err}
use Rattle.refusal.specs.Number.{number}
use Rattle.refusal.specs.declared.Refusal.{Refusal}
use Rattle.assignment.specs.Calls.{in_choice, choice}
use Rattle.assignment.specs.declared.InChoiceAnswer.{InChoiceAnswer}
use Rattle.assignment.specs.declared.ChoiceAnswer.{ChoiceAnswer}

abbrev pub in_choice_answered : Result Bool Refusal → InChoiceAnswer
in_choice_answered (Ok found) = in_choice 0 found
in_choice_answered (Err r) = in_choice (number r) false

abbrev pub choice_answered : Result ℕ Refusal → ChoiceAnswer
choice_answered (Ok k) = choice 0 k
choice_answered (Err r) = choice (number r) 0
