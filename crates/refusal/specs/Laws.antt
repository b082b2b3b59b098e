-- Laws of refusals and their numbers. Assumes nothing.
use Rattle.std.specs.Prelude.{ℕ, ◌≡◌, ◌≢◌}
use Rattle.std.proofs.Common.{arith}
use Rattle.refusal.specs.Number.{number}
use Rattle.refusal.specs.declared.Refusal.{Refusal}
use Rattle.refusal.specs.declared.Refusal.TheVariants.{TooMany, Lengths, Sizes, Preferences, Levels, Costs, TooManyConstraints, Kinds, Operands, Groups, Schedule, State, Plan, Values, Blocked, Uneven, Unbalanced, Search}

-- no refusal has the number of what is accepted
pub some_number : (r : Refusal) → number r ≢ 0
some_number TooMany e = absurd (omega arith)
some_number Lengths e = absurd (omega arith)
some_number Sizes e = absurd (omega arith)
some_number Preferences e = absurd (omega arith)
some_number Levels e = absurd (omega arith)
some_number Costs e = absurd (omega arith)
some_number TooManyConstraints e = absurd (omega arith)
some_number Kinds e = absurd (omega arith)
some_number Operands e = absurd (omega arith)
some_number Groups e = absurd (omega arith)
some_number Schedule e = absurd (omega arith)
some_number State e = absurd (omega arith)
some_number Plan e = absurd (omega arith)
some_number Values e = absurd (omega arith)
some_number Blocked e = absurd (omega arith)
some_number Uneven e = absurd (omega arith)
some_number Unbalanced e = absurd (omega arith)
some_number Search e = absurd (omega arith)
