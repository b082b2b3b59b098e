-- Solutions and scores of the verdict in numbers: SPEC 2.15, 2.16. Definitions only.
use Rattle.std.specs.Prelude.{ℕ, cond, List, eqb, Float}
use Rattle.input_data.specs.Bytes.{flag_of}
use Rattle.input_data.specs.Lengths.{full_day}
use Rattle.scoring.specs.Calls.{ScoreAnswer, evaluate_lent}
use Rattle.scoring.specs.Solution.{Solution}
use Rattle.seating.specs.Scores.{score_bits}
use Rattle.seating.specs.declared.verdicts.ScoreBitsAnswer.{ScoreBitsAnswer}

-- 2 Complete, 1 Scheduling; a number that is none reads as Invalid
abbrev pub solution_of : ℕ → Solution
solution_of n = cond (eqb n 2) Solution.Complete (cond (eqb n 1) Solution.Scheduling Solution.Invalid)

-- the number and the bits of both floats
abbrev pub score_answer_bits : ScoreAnswer → ScoreBitsAnswer
score_answer_bits a = record { number = a.number; score = score_bits a.score }

-- what evaluate gives, of lent bytes and numbers; `greedy` is yes where it is not 0
abbrev pub evaluate_bits : List ℕ → ℕ → List ℕ → List ℕ → ℕ → List ℕ → List Float → ScoreBitsAnswer
evaluate_bits day solution sch plan greedy preferences powers =
    score_answer_bits (evaluate_lent full_day day (solution_of solution) sch plan (flag_of greedy) preferences powers)
