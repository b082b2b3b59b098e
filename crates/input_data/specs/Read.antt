-- What is read of the bytes that a call is lent. Definitions only.
use Rattle.std.specs.Prelude.{ℕ, cond, List, Result, Ok, Err}
use Rattle.refusal.specs.declared.Refusal.{Refusal}
use Rattle.refusal.specs.declared.Refusal.TheVariants.{Lengths}
use Rattle.input_data.specs.Bytes.{not_long, day_of}
use Rattle.input_data.specs.declared.InputData.{InputData}

-- 2 at once where a day's bytes have not their length, since nothing of it can be read
abbrev pub day_read : List ℕ → Result InputData Refusal
day_read b = cond (not_long 2044 b) (Err Lengths) (Ok (day_of b))
