-- Node numbers by formula, and what each node supplies: SPEC 6.2, 6.3. Definitions only.
use Rattle.std.specs.Prelude.{ℕ, ◌+◌, ◌*◌, ◌≤◌, ◌<◌, cond, List, ◌++◌, eqb, ℤ, pos, neg_ℤ, ◌-ℤ◌}
use Rattle.counting.specs.Fold.{table_to}
use Rattle.scheduling.specs.Schedule.{entry_at}
use Rattle.input_data.specs.declared.Sizes.{Sizes}

-- chooser c in slot s
abbrev pub chooser_node : Sizes → ℕ → ℕ → ℕ
chooser_node z c s = c * z.slots + s

-- choice k
abbrev pub choice_node : Sizes → ℕ → ℕ
choice_node z k = z.choosers * z.slots + k

-- slot s
abbrev pub slot_node : Sizes → ℕ → ℕ
slot_node z s = z.choosers * z.slots + z.choices + s

abbrev pub node_count : Sizes → ℕ
node_count z = z.choosers * z.slots + z.choices + z.slots

-- a chooser in a slot supplies 1
abbrev pub chooser_supply : ℕ → ℤ
chooser_supply i = pos 1

-- a scheduled choice supplies -min, another 0
abbrev pub choice_supply : List ℕ → List ℕ → ℕ → ℤ
choice_supply sch mins k = cond (eqb (entry_at sch k) 0) (pos 0) (neg_ℤ (pos (entry_at mins k)))

-- a slot supplies covered - choosers
abbrev pub slot_supply : Sizes → List ℕ → ℕ → ℤ
slot_supply z covered s = pos (entry_at covered s) -ℤ pos z.choosers

-- the supplies, node by node
unfoldable pub supplies : Sizes → List ℕ → List ℕ → List ℕ → List ℤ
supplies z sch mins covered =
    (table_to (z.choosers * z.slots) chooser_supply ++ table_to z.choices (choice_supply sch mins)) ++ table_to z.slots (slot_supply z covered)

-- what storing them asks: sizes that the types hold, light choices, room
pub record Supplying (z : Sizes) (mins covered : List ℕ) (size : ℕ) : Type 0 where
  pub choosers : z.choosers ≤ 64
  pub choices : z.choices ≤ 32
  pub slots : z.slots ≤ 8
  pub light : (k : ℕ) → k < z.choices → entry_at mins k ≤ 1000
  pub covered_light : (s : ℕ) → s < z.slots → entry_at covered s ≤ 32000
  pub room : node_count z ≤ size
