-- What the result of the best of a list stands for. Definitions only.
use Rattle.std.specs.Prelude.{Option, Result, Ok, Err}
use Rattle.refusal.specs.Number.{number}
use Rattle.refusal.specs.declared.Refusal.{Refusal}
use Rattle.score.specs.declared.Ranked.{Ranked}
use Rattle.score.specs.Best.{BestAnswer, best_answer, best_refused}

abbrev pub best_answered : Result (Option Ranked) Refusal → BestAnswer
best_answered (Ok best) = best_answer 0 best
best_answered (Err r) = best_refused (number r)
