-- The answer that a result stands for. Definitions only.
use Rattle.std.specs.Prelude.{ℕ, Result, Ok, Err}
use Rattle.refusal.specs.Number.{number}
use Rattle.refusal.specs.declared.Refusal.{Refusal}
use Rattle.rosters.specs.Calls.{roster_answer}
use Rattle.rosters.specs.declared.RosterAnswer.{RosterAnswer}

abbrev pub roster_answered : Result ℕ Refusal → RosterAnswer
roster_answered (Ok n) = roster_answer 0 n
roster_answered (Err r) = roster_answer (number r) 0
