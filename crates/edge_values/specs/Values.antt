-- Checks 14 to 17: SPEC 3.14 to 3.17, 7.1 to 7.5. Balance is that of Ahuja, Magnanti and Orlin, "Network Flows": what flows out of a node, less what
-- flows in, is what the node supplies. Definitions only.
use Rattle.std.specs.Prelude.{ℕ, Bool, cond, not, ◌||◌, List, [], eqb, ℤ, pos, ◌-ℤ◌, length, get_or}
use Rattle.std.specs.Int.Signed.{lt_z}
use Rattle.counting.specs.Fold.{any_to, sum_z}
use Rattle.counting.specs.Ints.{eq_z}
use Rattle.input_data.specs.Checks.{first_of}

-- the value of edge e
abbrev pub value_at : List ℤ → ℕ → ℤ
value_at vs e = get_or vs e (pos 0)

-- 14. An edge value lies outside 0 to the edge's max.
abbrev pub out_of_bounds : ℤ → ℕ → Bool
out_of_bounds v max = lt_z v (pos 0) || lt_z (pos max) v

abbrev pub outside_at : List ℕ → List ℤ → ℕ → Bool
outside_at maxs vs e = out_of_bounds (value_at vs e) (get_or maxs e 0)

unfoldable pub some_outside : ℕ → List ℕ → List ℤ → Bool
some_outside edges maxs vs = any_to edges (outside_at maxs vs)

-- 15. A blocked edge has a value other than 0.
abbrev pub used_at : List ℕ → List ℤ → ℕ → Bool
used_at blocked vs i = not (eq_z (value_at vs (get_or blocked i 0)) (pos 0))

unfoldable pub some_used : ℕ → List ℕ → List ℤ → Bool
some_used n blocked vs = any_to n (used_at blocked vs)

-- 16. Two edges of one group differ.
abbrev pub differ : List ℤ → List ℕ → ℕ → ℕ → Bool
differ vs group i j = not (eq_z (value_at vs (get_or group i 0)) (value_at vs (get_or group j 0)))

abbrev pub differs_at : List ℤ → List ℕ → ℕ → Bool
differs_at vs group i = any_to (length group) (differ vs group i)

unfoldable pub is_uneven : List ℤ → List ℕ → Bool
is_uneven vs group = any_to (length group) (differs_at vs group)

abbrev pub uneven_at : List (List ℕ) → List ℤ → ℕ → Bool
uneven_at groups vs g = is_uneven vs (get_or groups g [])

unfoldable pub some_uneven : List (List ℕ) → List ℤ → Bool
some_uneven groups vs = any_to (length groups) (uneven_at groups vs)

-- 17. A node is out of balance. `ends` gives each edge's node at one end.
abbrev pub flow_at : List ℕ → List ℤ → ℕ → ℕ → ℤ
flow_at ends vs node e = cond (eqb (get_or ends e 0) node) (value_at vs e) (pos 0)

-- the sum of the values of the edges that have this end at the node
unfoldable pub flow : ℕ → List ℕ → List ℤ → ℕ → ℤ
flow edges ends vs node = sum_z edges (flow_at ends vs node)

abbrev pub unbalanced_at : ℕ → List ℕ → List ℕ → List ℤ → List ℤ → ℕ → Bool
unbalanced_at edges from to supplies vs node = not (eq_z (flow edges from vs node -ℤ flow edges to vs node) (get_or supplies node (pos 0)))

unfoldable pub some_unbalanced : ℕ → ℕ → List ℕ → List ℕ → List ℤ → List ℤ → Bool
some_unbalanced nodes edges from to supplies vs = any_to nodes (unbalanced_at edges from to supplies vs)

-- a model, as far as values are held against it: its edges, groups, blocked edges and supplies
pub record Network : Type 0 where
  pub from : List ℕ
  pub to : List ℕ
  pub max : List ℕ
  pub supplies : List ℤ
  pub groups : List (List ℕ)
  pub blocked : List ℕ

-- the first of 14 to 17 that applies, or 0: the values are accepted
unfoldable pub values_number : Network → List ℤ → ℕ
values_number m vs =
    first_of (some_outside (length m.from) m.max vs) 14
    (first_of (some_used (length m.blocked) m.blocked vs) 15
    (first_of (some_uneven m.groups vs) 16
    (first_of (some_unbalanced (length m.supplies) (length m.from) m.from m.to m.supplies vs) 17 0)))
