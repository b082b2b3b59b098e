-- What storing edges leaves in the lent buffers. Definitions only.
use Rattle.std.specs.Prelude.{ℕ, ◌≡◌, List}
use Rattle.std.specs.Borrow.{MutBor}
use denote.Triple.Both.{Both}
use Rattle.counting.specs.Lent.{old, new}
use Rattle.model_buffers.specs.declared.edges.Edges.{Edges}
use Rattle.mip_flow.specs.Edges.{Offer, Seat}
use Rattle.mip_flow.specs.Index.{EdgeNumbers}
use Rattle.mip_flow.specs.Stored.{Choices, with_index, store_seats, store_choices}

-- buffers and numbers that a call is lent, before and after it
abbrev pub LentEdges : Type 0
LentEdges = Both (MutBor Edges) (MutBor Edges)

abbrev pub LentIndex : Type 0
LentIndex = Both (MutBor EdgeNumbers) (MutBor EdgeNumbers)

-- the edges of these seats were stored after those that were there, and numbered
abbrev pub StoresSeats : Offer → List Seat → LentEdges → LentIndex → Type 0
StoresSeats o qs edges index = with_index (new edges) (new index) ≡ store_seats o (with_index (old edges) (old index)) qs

-- the same of the edges of these choices
abbrev pub StoresChoices : Choices → List ℕ → LentEdges → Type 0
StoresChoices y ks edges = new edges ≡ store_choices y (old edges) ks
