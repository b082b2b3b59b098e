-- Laws of a schedule that a call is lent. Assumes nothing.
use Rattle.std.specs.Prelude.{ℕ, ◌<◌, ◌≤◌, ◌≡◌, false, List, length}
use Rattle.std.proofs.Common.{sym, eqb-true}
use Rattle.std.proofs.lemmas.Bool.{not-false}
use Rattle.input_data.specs.Accepted.{past}
use Rattle.input_data.specs.Checks.{day_number}
use Rattle.input_data.specs.declared.Limits.{Limits}
use Rattle.input_data.specs.declared.InputData.{InputData}
use Rattle.input_data.specs.declared.checks.Beside.{Beside}
use Rattle.scheduling.specs.Schedule.{entry_at}
use Rattle.scheduling.specs.ScheduleLaws.{kept_at_lem, entries_fit}
use Rattle.scheduling.specs.declared.Scheduling.{Scheduling}
use Rattle.scheduling.specs.Handed.{not_schedule, outside, kept_of}

-- ---- laws

pub schedule_long : (b : List ℕ) → not_schedule b ≡ false → length b ≡ 32
schedule_long b e = eqb-true (length b) 32 (not-false _ e)

-- what is handed back names the day's slots alone
pub kept_inside : (d : InputData) (sch : Scheduling) → d.choices ≤ 32 → outside d sch ≡ false → (k : ℕ) → k < d.choices → entry_at (kept_of d sch) k ≤ d.slots
kept_inside d sch few e k h = rw (kept_at_lem d.choices sch.entries k h few) (entries_fit d.choices d.slots sch.entries few e k h)

-- what was lent beside a day that passes has its lengths
pub lengths_right : (l : Limits) (d : InputData) (b : Beside) → 0 ≡ day_number l d b 0 → b.bad_lengths ≡ false
lengths_right l d b e = (past l d b 0 (sym e)).lengths
