-- What lists of named edges become: groups and the blocked list (SPEC 6.11, 6.12). An edge is there if its number is below n. Definitions only.
use Rattle.std.specs.Prelude.{ℕ, ◌+◌, ◌≤◌, Bool, true, not, ◌&&◌, List, [], ◌∷◌, ◌++◌, ltb, length}
use Rattle.counting.specs.Fold.{only_if}
use Rattle.model_buffers.specs.Stored.{wrote}
use Rattle.model_buffers.specs.declared.groups.Groups.{Groups}

-- what f makes of each element, one after the other
unfoldable pub each : {A B : Type 0} → (A → List B) → List A → List B
each f [] = []
each f (x ∷ xs) = f x ++ each f xs

abbrev pub self : List ℕ → List ℕ
self l = l

-- whether all of these edges are there, and those that are
unfoldable pub all_there : ℕ → List ℕ → Bool
all_there n [] = true
all_there n (a ∷ l) = ltb a n && all_there n l

abbrev pub if_there : ℕ → ℕ → List ℕ
if_there n a = only_if (ltb a n) (a ∷ [])

abbrev pub present : ℕ → List ℕ → List ℕ
present n l = each (if_there n) l

-- edges that are named together form a group if all are there; otherwise those that are there are blocked
abbrev pub group_of : ℕ → List ℕ → List (List ℕ)
group_of n l = only_if (all_there n l) (l ∷ [])

abbrev pub blocked_edges : ℕ → List ℕ → List ℕ
blocked_edges n l = only_if (not (all_there n l)) (present n l)

abbrev pub groups_of : ℕ → List (List ℕ) → List (List ℕ)
groups_of n ls = each (group_of n) ls

abbrev pub blocked_of : ℕ → List (List ℕ) → List ℕ
blocked_of n ls = each (blocked_edges n) ls

-- ---- the three lent buffers: the groups' entries, where each group ends among them, the blocked edges

-- the entries of groups, one group after the other
abbrev pub flat : List (List ℕ) → List ℕ
flat gs = each self gs

-- where each ends, after m entries: running totals
unfoldable pub ends_from : ℕ → List (List ℕ) → List ℕ
ends_from m [] = []
ends_from m (g ∷ gs) = (m + length g) ∷ ends_from (m + length g) gs

-- lists of named edges stored after what is there
unfoldable pub store_groups : ℕ → Groups → List (List ℕ) → Groups
store_groups n g ls = record {
  entries = wrote g.entries g.entries_used (flat (groups_of n ls));
  ends = wrote g.ends g.ends_used (ends_from g.entries_used (groups_of n ls));
  blocked = wrote g.blocked g.blocked_used (blocked_of n ls);
  entries_used = g.entries_used + length (flat (groups_of n ls));
  ends_used = g.ends_used + length (groups_of n ls);
  blocked_used = g.blocked_used + length (blocked_of n ls);
}

-- room for w named edges in k lists, after what is there
pub record Room (g : Groups) (w k : ℕ) : Type 0 where
  pub small : g.entries_used + w ≤ 4096
  pub entries : g.entries_used + w ≤ length g.entries.now
  pub ends : g.ends_used + k ≤ length g.ends.now
  pub blocked : g.blocked_used + w ≤ length g.blocked.now
