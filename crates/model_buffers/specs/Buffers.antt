-- The eight lent buffers of a model. SPEC 6.12. Definitions only.
use Rattle.std.specs.Prelude.{ℕ, List, ℤ, length}
use Rattle.model_buffers.specs.declared.Lengths.{Lengths}

pub record Buffers : Type 0 where
  pub supplies : List ℤ
  pub from : List ℕ
  pub to : List ℕ
  pub max : List ℕ
  pub cost : List ℤ
  pub entries : List ℕ
  pub ends : List ℕ
  pub blocked : List ℕ

abbrev pub buffers : List ℤ → List ℕ → List ℕ → List ℕ → List ℤ → List ℕ → List ℕ → List ℕ → Buffers
buffers s f t m c e n b = record { supplies = s; from = f; to = t; max = m; cost = c; entries = e; ends = n; blocked = b }

abbrev pub lengths_of : Buffers → Lengths
lengths_of b = record {
  supplies = length b.supplies;
  from = length b.from;
  to = length b.to;
  max = length b.max;
  cost = length b.cost;
  entries = length b.entries;
  ends = length b.ends;
  blocked = length b.blocked;
}
