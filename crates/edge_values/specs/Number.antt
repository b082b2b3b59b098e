-- Values held against the finished model in the lent buffers, and what that asks of them. Definitions and a law.
use Rattle.std.specs.Prelude.{ℕ, ◌≤◌, ◌<◌, ◌≡◌, false, List, ℤ, length, get_or}
use Rattle.counting.specs.Fold.{any_to}
use Rattle.input_data.specs.Checks.{first_of}
use Rattle.model_buffers.specs.Buffers.{Buffers}
use Rattle.model_buffers.specs.declared.Counts.{Counts}
use Rattle.edge_values.specs.Values.{some_outside, some_used, some_unbalanced}
use Rattle.edge_values.specs.Checks.{Bounded, Naming, Grouped, uneven_part, inside_each}
use Rattle.edge_values.specs.Balance.{Walking}

-- the first of 14 to 17 that applies, as the buffers say the model
unfoldable pub buffer_number : ℕ → Counts → Buffers → List ℤ → ℕ
buffer_number nodes k b vs =
    first_of (some_outside k.edges b.max vs) 14
    (first_of (some_used k.blocked b.blocked vs) 15
    (first_of (any_to k.groups (uneven_part vs b.entries b.ends)) 16
    (first_of (some_unbalanced nodes k.edges b.from b.to b.supplies vs) 17 0)))

-- what the check asks of the buffers
pub record Checkable (nodes : ℕ) (k : Counts) (b : Buffers) (size : ℕ) : Type 0 where
  pub bounded : Bounded k.edges b.max size
  pub blocked : Naming k.blocked b.blocked size
  pub grouped : Grouped k.groups b.entries b.ends size
  pub few_nodes : nodes ≤ 552
  pub few_edges : k.edges ≤ 2080
  pub from_long : k.edges ≤ length b.from
  pub to_long : k.edges ≤ length b.to
  pub supplies_long : nodes ≤ length b.supplies
  pub from_node : (e : ℕ) → e < k.edges → get_or b.from e 0 < 552
  pub to_node : (e : ℕ) → e < k.edges → get_or b.to e 0 < 552

-- what the walk of 17 asks, once 14 passed
pub walking : {nodes : ℕ} {k : Counts} {b : Buffers} {vs : List ℤ} → Checkable nodes k b (length vs) → some_outside k.edges b.max vs ≡ false → Walking k.edges b.from b.to vs
walking {k = k} {b = b} {vs = vs} h e = record {
  few = h.few_edges;
  from_long = h.from_long;
  to_long = h.to_long;
  values_long = h.bounded.values_long;
  from_node = h.from_node;
  to_node = h.to_node;
  light = λ i l. inside_each k.edges b.max vs e h.bounded i l;
}
