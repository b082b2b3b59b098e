-- What results of the code, and the solutions that it is handed, stand for. Definitions only.
use Rattle.std.specs.Prelude.{Bool, false, cond, [], Result, Ok, Err}
use Rattle.refusal.specs.Number.{number}
use Rattle.refusal.specs.declared.Refusal.{Refusal}
use Rattle.score.specs.declared.Score.{Score}
use Rattle.scoring.specs.Calls.{has_schedule, has_plan, verdict, ScoreAnswer, zero_score, score_answer}
use Rattle.scoring.specs.Handed.{Parts, parts}
use Rattle.scoring.specs.Solution.{Solution}
use Rattle.scoring.specs.declared.VerdictAnswer.{VerdictAnswer}
use Rattle.scoring.specs.declared.solution.Solution as Held
use Rattle.scoring.specs.declared.solution.Solution.TheVariants as Case

-- a solution by its kind and its parts: those that it lacks are empty
abbrev pub parts_of : Held.Solution → Parts
parts_of Case.Invalid = parts Solution.Invalid [] []
parts_of (Case.Scheduling sch) = parts Solution.Scheduling sch.now []
parts_of (Case.Complete sch plan) = parts Solution.Complete sch.now plan.now

-- of a solution, what is looked at
abbrev pub looked_at : Parts → Parts
looked_at s = parts s.kind (cond (has_schedule s.kind) s.schedule []) (cond (has_plan s.kind) s.plan [])

-- a verdict, or its refusal
abbrev pub verdict_answered : Result Bool Refusal → VerdictAnswer
verdict_answered (Ok b) = verdict 0 b
verdict_answered (Err r) = verdict (number r) false

-- a score, or its refusal
abbrev pub score_answered : Result Score Refusal → ScoreAnswer
score_answered (Ok s) = score_answer 0 s
score_answered (Err r) = score_answer (number r) zero_score
