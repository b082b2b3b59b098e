-- What stands in the lent buffers of a model's edges, groups and blocked edges: SPEC 6.12. Definitions only.
use Rattle.std.specs.Prelude.{ℕ, ◌+◌, ◌<◌, ◌≡◌, List, ℤ, length, set}
use Rattle.std.specs.Borrow.{MutBor}
use Rattle.counting.specs.Written.{written}
use Rattle.model_buffers.specs.declared.edges.Edges.{Edges}
use Rattle.model_buffers.specs.declared.groups.Groups.{Groups}

-- the same lent buffer, with l in it
abbrev pub holding : {A : Type 0} → MutBor (List A) → List A → MutBor (List A)
holding r l = record r { now = l }

-- .. with these stored from index `at` on
abbrev pub wrote : {A : Type 0} → MutBor (List A) → ℕ → List A → MutBor (List A)
wrote r at vs = holding r (written r.now at vs)

-- these numbers were stored in a buffer after the first n
pub record Filled (l : List ℕ) (n : ℕ) (xs : List ℕ) (l' : List ℕ) (n' : ℕ) : Type 0 where
  pub buffer : l' ≡ written l n xs
  pub used : n' ≡ n + length xs

-- the entries so far end a group
abbrev pub group_closed : Groups → Groups
group_closed g = record g { ends = holding g.ends (set g.ends.now g.ends_used g.entries_used); ends_used = g.ends_used + 1 }

-- the buffers of edges, or of groups, with what others hold
abbrev pub edges_with : Edges → Edges → Edges
edges_with e e' = record { from = holding e.from e'.from.now; to = holding e.to e'.to.now; max = holding e.max e'.max.now; cost = holding e.cost e'.cost.now; used = e'.used }

abbrev pub groups_with : Groups → Groups → Groups
groups_with g g' = record {
  entries = holding g.entries g'.entries.now;
  ends = holding g.ends g'.ends.now;
  blocked = holding g.blocked g'.blocked.now;
  entries_used = g'.entries_used;
  ends_used = g'.ends_used;
  blocked_used = g'.blocked_used;
}

-- there is a place for one more edge
pub record EdgePlace (e : Edges) : Type 0 where
  pub from : e.used < length e.from.now
  pub to : e.used < length e.to.now
  pub max : e.used < length e.max.now
  pub cost : e.used < length e.cost.now

-- an edge was stored after those that were there
abbrev pub edge_pushed : Edges → ℕ → ℕ → ℕ → ℤ → Edges
edge_pushed e f t m c = record {
  from = holding e.from (set e.from.now e.used f);
  to = holding e.to (set e.to.now e.used t);
  max = holding e.max (set e.max.now e.used m);
  cost = holding e.cost (set e.cost.now e.used c);
  used = e.used + 1;
}
