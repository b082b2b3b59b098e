-- What storing groups leaves in the lent buffers. Definitions only.
use Rattle.std.specs.Prelude.{ℕ, ◌≡◌, List}
use Rattle.std.specs.Borrow.{MutBor}
use denote.Triple.Both.{Both}
use Rattle.counting.specs.Lent.{old, new}
use Rattle.model_buffers.specs.declared.groups.Groups.{Groups}
use Rattle.edge_groups.specs.Groups.{store_groups}

-- the lists ls of named edges were stored; n edges of seats are there
abbrev pub Stores : ℕ → List (List ℕ) → Both (MutBor Groups) (MutBor Groups) → Type 0
Stores n ls groups = new groups ≡ store_groups n (old groups) ls
