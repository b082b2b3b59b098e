-- The plan that edge values decode to: SPEC 7.6. Definitions only.
use Rattle.std.specs.Prelude.{ℕ, Bool, ◌&&◌, List, ltb, ℤ, pos}
use Rattle.counting.specs.Fold.{join_to, table_to}
use Rattle.counting.specs.Ints.{eq_z}
use Rattle.counting.specs.Search.{first_to}
use Rattle.input_data.specs.declared.Sizes.{Sizes}
use Rattle.edge_values.specs.Values.{value_at}

-- edge e is one of n edges and has the value 1
abbrev pub is_one : ℕ → List ℤ → ℕ → Bool
is_one n vs e = ltb e n && eq_z (value_at vs e) (pos 1)

-- chooser c's edge to the choice at position j of a list has 1; `edge c k` is the number of the edge of chooser c to choice k
abbrev pub has_one : ℕ → List ℤ → (ℕ → ℕ → ℕ) → (ℕ → ℕ) → ℕ → ℕ → Bool
has_one n vs edge list c j = is_one n vs (edge c (list j))

-- for chooser c and slot s the listed choice whose edge has 1; `count s` is the length of the list of slot s, and `list s j` the choice at its position j
unfoldable pub choice_for : ℕ → List ℤ → (ℕ → ℕ → ℕ) → (ℕ → ℕ) → (ℕ → ℕ → ℕ) → ℕ → ℕ → ℕ
choice_for n vs edge count list c s = list s (first_to (count s) (has_one n vs edge (list s) c))

abbrev pub plan_row : ℕ → List ℤ → (ℕ → ℕ → ℕ) → (ℕ → ℕ) → (ℕ → ℕ → ℕ) → Sizes → ℕ → List ℕ
plan_row n vs edge count list z c = table_to z.slots (choice_for n vs edge count list c)

-- the plan, chooser by chooser
unfoldable pub decoded : ℕ → List ℤ → (ℕ → ℕ → ℕ) → (ℕ → ℕ) → (ℕ → ℕ → ℕ) → Sizes → List ℕ
decoded n vs edge count list z = join_to z.choosers (plan_row n vs edge count list z)
