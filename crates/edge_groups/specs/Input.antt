-- What is named by what a call is handed, and what is stored of it. Definitions only.
use Rattle.std.specs.Prelude.{ℕ, List}
use Rattle.std.specs.Borrow.{MutBor}
use denote.Triple.Both.{Both}
use Rattle.mip_flow.specs.IndexLaws.{number_at}
use Rattle.model_buffers.specs.declared.groups.Groups.{Groups}
use Rattle.edge_groups.specs.Lent.{Stores}
use Rattle.edge_groups.specs.declared.GroupInput.{GroupInput}

-- the number of the edge of chooser c to choice k
abbrev pub number_of : GroupInput → ℕ → ℕ → ℕ
number_of i = number_at i.index.now.numbers

-- these lists of named edges were stored
abbrev pub StoresNamed : GroupInput → List (List ℕ) → Both (MutBor Groups) (MutBor Groups) → Type 0
StoresNamed i ls groups = Stores i.index.now.count ls groups
