-- How definitions read a day: SPEC 1.2. Definitions only.
use Rattle.std.specs.Prelude.{ℕ, Bool, false, pos, get_or}
use Rattle.constraint.specs.declared.Constraint.{Constraint}
use Rattle.constraint.specs.Negation.{constraint_of}
use Rattle.input_data.specs.declared.ConstraintNumbers.{ConstraintNumbers}
use Rattle.input_data.specs.declared.ConstraintList.{ConstraintList}
use Rattle.input_data.specs.declared.InputData.{InputData}

abbrev pub min_at : InputData → ℕ → ℕ
min_at d k = get_or d.mins k 0

abbrev pub max_at : InputData → ℕ → ℕ
max_at d k = get_or d.maxs k 0

abbrev pub optional_at : InputData → ℕ → Bool
optional_at d k = get_or d.optional k false

abbrev pub no_numbers : ConstraintNumbers
no_numbers = record { kind = 0; left = 0; target_case = 0; target = 0; extra_case = 0; extra = pos 0 }

abbrev pub numbers_at : ConstraintList → ℕ → ConstraintNumbers
numbers_at l j = get_or l.entries j no_numbers

-- the Rust's constraint that numbers stand for
abbrev pub constraint_of_numbers : ConstraintNumbers → Constraint
constraint_of_numbers c = constraint_of c.kind c.left c.target_case c.target c.extra_case c.extra

abbrev pub constraint_at : ConstraintList → ℕ → Constraint
constraint_at l j = constraint_of_numbers (numbers_at l j)
