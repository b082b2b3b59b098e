-- The answer of a call that builds a model: its number, and how much of the buffers is used. SPEC 3.21, 6.13. Definitions only.
use Rattle.std.specs.Prelude.{ℕ}
use Rattle.model_buffers.specs.declared.Counts.{Counts}
use Rattle.model_buffers.specs.declared.ModelAnswer.{ModelAnswer}

abbrev pub model_answer : ℕ → ℕ → ℕ → ℕ → ℕ → ModelAnswer
model_answer n e m g k = record { number = n; edges = e; entries = m; groups = g; blocked = k }

-- the number and zeros
abbrev pub model_refused : ℕ → ModelAnswer
model_refused n = model_answer n 0 0 0 0

-- what was counted
abbrev pub counted_answer : Counts → ModelAnswer
counted_answer k = model_answer 0 k.edges k.entries k.groups k.blocked
