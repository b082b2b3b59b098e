-- Scoring::evaluate: SPEC 11.2, 11.3. Definitions only.
use Rattle.std.specs.Prelude.{Bool, cond, List, ℕ, pos, Float}
use Rattle.std.specs.Float.{nan, binary32}
use Rattle.std.specs.Float.Ieee.{of_int}
use Rattle.input_data.specs.declared.InputData.{InputData}
use Rattle.score.specs.Order.{infinite_twice, finite_score}
use Rattle.score.specs.declared.Score.{Score}
use Rattle.seat_counts.specs.Preferences.{greatest, uses, minor_of}
use Rattle.feasibility.specs.Feasible.{plan_feasible}

-- the greatest preference used, or NaN when greedy
abbrev pub major_of : Bool → ℕ → Float
major_of greedy most = cond greedy nan (of_int binary32 (pos most))

-- the score of a feasible plan, finite or not
abbrev pub score_of : InputData → Bool → List ℕ → List Float → List ℕ → Score
score_of d greedy preferences powers plan = record {
  major = major_of greedy (greatest d.choosers d.choices d.slots preferences plan);
  minor = minor_of (uses d.choosers d.choices d.slots preferences plan) powers d.max_preference;
}

-- a score that is not finite is infinite twice
abbrev pub finite_or_infinite : Score → Score
finite_or_infinite s = cond (finite_score s) s infinite_twice

-- an infeasible plan scores infinite twice
unfoldable pub evaluated : InputData → Bool → List ℕ → List Float → List ℕ → List ℕ → Score
unfolding plan_feasible minor_of greatest uses
evaluated d greedy preferences powers sch plan = cond (plan_feasible d sch plan) (finite_or_infinite (score_of d greedy preferences powers plan)) infinite_twice
