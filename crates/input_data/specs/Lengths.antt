-- Limits and the named lengths, by one rule over the limits: SPEC 2.1, 2.3. Definitions only.
use Rattle.std.specs.Prelude.{ℕ, ◌+◌, ◌*◌, ◌≤◌}
use Rattle.input_data.specs.declared.Limits.{Limits}
use Rattle.input_data.specs.declared.InputData.{InputData}

-- what the types hold: limits of a call are within these
pub record Within (l : Limits) : Type 0 where
  pub choosers : l.choosers ≤ 64
  pub choices : l.choices ≤ 32
  pub slots : l.slots ≤ 8

-- the limits of the full day's entries
abbrev pub full_day : Limits
full_day = record { choosers = 64; choices = 32; slots = 8 }

-- buffers: a call is lent at least these
abbrev pub lists_length : Limits → ℕ
lists_length l = l.choices * l.slots

abbrev pub plan_length : Limits → ℕ
plan_length l = l.choosers * l.slots

abbrev pub edges_length : Limits → ℕ
edges_length l = l.choosers * l.choices + l.choices

abbrev pub supplies_length : Limits → ℕ
supplies_length l = l.choosers * l.slots + l.choices + l.slots

-- tables: a call is lent exactly these
abbrev pub preferences_length : InputData → ℕ
preferences_length d = d.choosers * d.choices

abbrev pub powers_length : InputData → ℕ
powers_length d = d.max_preference + 1

-- powers and costs have one length
abbrev pub costs_length : InputData → ℕ
costs_length d = powers_length d

-- a roster has a place for every seat
abbrev pub roster_length : Limits → ℕ
roster_length l = plan_length l

-- groups and blocked edges have storage of a fixed size: it follows from 32 constraints and 32 members
abbrev pub group_entries_length : ℕ
group_entries_length = 4096

abbrev pub group_ends_length : ℕ
group_ends_length = 2048

abbrev pub blocked_length : ℕ
blocked_length = 4096
