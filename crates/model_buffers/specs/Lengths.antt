-- Check 2 of the buffers that a model and its values are lent in: SPEC 2.3, 3.2. Definitions only.
use Rattle.std.specs.Prelude.{ℕ, Bool, ◌||◌, ltb}
use Rattle.input_data.specs.Lengths.{supplies_length, edges_length, plan_length, group_entries_length, group_ends_length, blocked_length}
use Rattle.input_data.specs.declared.Limits.{Limits}
use Rattle.model_buffers.specs.declared.Lengths.{Lengths}

-- 2. One of a model's eight buffers is shorter than its named length.
abbrev pub short_edges : Limits → Lengths → Bool
short_edges l b = ltb b.from (edges_length l) || ltb b.to (edges_length l) || ltb b.max (edges_length l) || ltb b.cost (edges_length l)

abbrev pub short_groups : Lengths → Bool
short_groups b = ltb b.entries group_entries_length || ltb b.ends group_ends_length || ltb b.blocked blocked_length

abbrev pub short_buffers : Limits → Lengths → Bool
short_buffers l b = ltb b.supplies (supplies_length l) || short_edges l b || short_groups b

-- 2. The values or the plan are shorter than their named lengths.
abbrev pub short_values : Limits → ℕ → ℕ → Bool
short_values l values plan = ltb values (edges_length l) || ltb plan (plan_length l)
