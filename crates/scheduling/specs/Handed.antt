-- A schedule that a call is lent, beside its day: SPEC 2.7, 2.12, 3.11. Definitions only.
use Rattle.std.specs.Prelude.{ℕ, Bool, List}
use Rattle.input_data.specs.Bytes.{not_long}
use Rattle.input_data.specs.declared.InputData.{InputData}
use Rattle.scheduling.specs.Schedule.{bad_slots, kept}
use Rattle.scheduling.specs.declared.Scheduling.{Scheduling}

-- the schedule that bytes stand for: each byte is an entry
abbrev pub schedule_of : List ℕ → Scheduling
schedule_of b = record { entries = b }

-- 2 of a schedule's bytes
abbrev pub not_schedule : List ℕ → Bool
not_schedule b = not_long 32 b

-- 11 of a schedule that a call is handed
abbrev pub outside : InputData → Scheduling → Bool
outside d sch = bad_slots d.choices d.slots sch.entries

-- the schedule as it is handed back
abbrev pub kept_of : InputData → Scheduling → List ℕ
kept_of d sch = kept d.choices sch.entries
