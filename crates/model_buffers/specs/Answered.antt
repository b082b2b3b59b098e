-- What a call gives that builds a model or refuses to: SPEC 3.21, 6.13. Definitions only.
use Rattle.std.specs.Prelude.{Result, Ok, Err}
use Rattle.refusal.specs.Number.{number}
use Rattle.refusal.specs.declared.Refusal.{Refusal}
use Rattle.model_buffers.specs.Answers.{counted_answer, model_refused}
use Rattle.model_buffers.specs.declared.Counts.{Counts}
use Rattle.model_buffers.specs.declared.ModelAnswer.{ModelAnswer}

-- what was counted, or the refusal's number and zeros
abbrev pub model_answered : Result Counts Refusal → ModelAnswer
model_answered (Ok k) = counted_answer k
model_answered (Err r) = model_refused (number r)
