-- The numbers of edges: an edge's number is its seat's place. SPEC 6.8. Definitions only.
use Rattle.std.specs.Prelude.{ℕ, suc, ◌+◌, cond, List, [], ◌∷◌, map, eqb, set, replicate}
use Rattle.blocks.specs.Blocks.{cell}
use Rattle.mip_flow.specs.Edges.{Seat}

-- no edge has this number
abbrev pub no_edge : ℕ
no_edge = 65535

-- the numbers of edges in a table by chooser and choice, and how many edges have one
pub record EdgeNumbers : Type 0 where
  pub numbers : List ℕ
  pub count : ℕ

abbrev pub unnumbered : EdgeNumbers
unnumbered = record { numbers = replicate 2048 no_edge; count = 0 }

-- the edge of chooser c to choice k has the next number
abbrev pub numbered_next : EdgeNumbers → ℕ → ℕ → EdgeNumbers
numbered_next i c k = record { numbers = set i.numbers (cell c k) i.count; count = i.count + 1 }

-- the place of a chooser and a choice in the table of numbers
abbrev pub seat_cell : Seat → ℕ
seat_cell q = cell q.chooser q.choice

-- the number of the last of these cells that is p, counted from n, or d where none is
unfoldable pub number_from : ℕ → List ℕ → ℕ → ℕ → ℕ
number_from n [] p d = d
number_from n (q ∷ qs) p d = number_from (suc n) qs p (cond (eqb q p) n d)

-- the number of the edge of chooser c to choice k among the edges of these seats, or no_edge
unfoldable pub edge_of : List Seat → ℕ → ℕ → ℕ
edge_of seats c k = number_from 0 (map seat_cell seats) (cell c k) no_edge
