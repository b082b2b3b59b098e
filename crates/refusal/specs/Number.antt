-- The number of a refusal, and that of a result: SPEC 3.1 to 3.19. Definitions only.
use Rattle.std.specs.Prelude.{ℕ, Result, Ok, Err}
use Rattle.refusal.specs.declared.Refusal.{Refusal}
use Rattle.refusal.specs.declared.Refusal.TheVariants.{TooMany, Lengths, Sizes, Preferences, Levels, Costs, TooManyConstraints, Kinds, Operands, Groups, Schedule, State, Plan, Values, Blocked, Uneven, Unbalanced, Search}

abbrev pub number : Refusal → ℕ
number TooMany = 1
number Lengths = 2
number Sizes = 3
number Preferences = 4
number Levels = 5
number Costs = 6
number TooManyConstraints = 7
number Kinds = 8
number Operands = 9
number Groups = 10
number Schedule = 11
number State = 12
number Plan = 13
number Values = 14
number Blocked = 15
number Uneven = 16
number Unbalanced = 17
number Search = 18

-- 0 means done
abbrev pub outcome : {A : Type 0} → Result A Refusal → ℕ
outcome (Ok a) = 0
outcome (Err r) = number r
