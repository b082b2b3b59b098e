-- The edges of the flow model: SPEC 6.4 to 6.7. Definitions only.
use Rattle.std.specs.Prelude.{ℕ, ◌+◌, ◌-◌, ◌*◌, ◌≤◌, ◌<◌, ◌≡◌, Bool, false, not, ◌&&◌, List, [], ◌∷◌, ◌++◌, map, eqb, leb, ℤ, pos, length, get_or}
use Rattle.counting.specs.Fold.{only_if, join_to}
use Rattle.scheduling.specs.Schedule.{entry_at}
use Rattle.blocks.specs.Blocks.{cell}
use Rattle.input_data.specs.declared.Sizes.{Sizes}
use Rattle.mip_flow_static_data.specs.Nodes.{chooser_node, choice_node, slot_node}

-- what decides which seats are open, and what they cost
pub record Offer : Type 0 where
  pub sizes : Sizes
  pub limit : ℕ
  pub preferences : List ℕ
  pub blocks : List Bool
  pub costs : List ℤ

abbrev pub offer : Sizes → ℕ → List ℕ → List Bool → List ℤ → Offer
offer z limit preferences blocks costs = record { sizes = z; limit = limit; preferences = preferences; blocks = blocks; costs = costs }

-- the preference of chooser c for choice k
unfoldable pub preference_of : Offer → ℕ → ℕ → ℕ
preference_of o c k = get_or o.preferences (c * o.sizes.choices + k) 0

-- a block applies to chooser c and choice k
abbrev pub is_blocked : Offer → ℕ → ℕ → Bool
is_blocked o c k = get_or o.blocks (cell c k) false

-- chooser c may have choice k: the preference is at most the limit, and no block applies
unfoldable pub is_open : Offer → ℕ → ℕ → Bool
is_open o c k = leb (preference_of o c k) o.limit && not (is_blocked o c k)

-- a seat that a chooser may have in a slot
pub record Seat : Type 0 where
  pub chooser : ℕ
  pub slot : ℕ
  pub choice : ℕ

abbrev pub seat : ℕ → ℕ → ℕ → Seat
seat c s k = record { chooser = c; slot = s; choice = k }

-- ---- the open seats: by chooser, by slot, by list position. `count s` is the length of the list of
-- ---- slot s, and `list s j` the choice at its position j.

abbrev pub seat_at : Offer → ℕ → ℕ → ℕ → List Seat
seat_at o c s k = only_if (is_open o c k) (seat c s k ∷ [])

abbrev pub listed_seat : Offer → ℕ → ℕ → (ℕ → ℕ) → ℕ → List Seat
listed_seat o c s list j = seat_at o c s (list j)

unfoldable pub slot_seats : Offer → ℕ → ℕ → ℕ → (ℕ → ℕ) → List Seat
slot_seats o c s n list = join_to n (listed_seat o c s list)

abbrev pub slot_seats_at : Offer → (ℕ → ℕ) → (ℕ → ℕ → ℕ) → ℕ → ℕ → List Seat
slot_seats_at o count list c s = slot_seats o c s (count s) (list s)

unfoldable pub chooser_seats : Offer → (ℕ → ℕ) → (ℕ → ℕ → ℕ) → ℕ → List Seat
chooser_seats o count list c = join_to o.sizes.slots (slot_seats_at o count list c)

unfoldable pub open_seats : Offer → (ℕ → ℕ) → (ℕ → ℕ → ℕ) → List Seat
open_seats o count list = join_to o.sizes.choosers (chooser_seats o count list)

-- ---- the scheduled choices, upward

abbrev pub place_at : List ℕ → ℕ → List ℕ
place_at sch k = only_if (not (eqb (entry_at sch k) 0)) (k ∷ [])

unfoldable pub scheduled : ℕ → List ℕ → List ℕ
scheduled choices sch = join_to choices (place_at sch)

-- ---- the four tables of the edges: each open seat's edge from its chooser's node to its choice, then each scheduled choice's edge to its slot

abbrev pub seat_from : Sizes → Seat → ℕ
seat_from z q = chooser_node z q.chooser q.slot

abbrev pub seat_to : Sizes → Seat → ℕ
seat_to z q = choice_node z q.choice

abbrev pub seat_max : Seat → ℕ
seat_max q = 1

abbrev pub seat_cost : Offer → Seat → ℤ
seat_cost o q = get_or o.costs (preference_of o q.chooser q.choice) (pos 0)

abbrev pub choice_to : Sizes → List ℕ → ℕ → ℕ
choice_to z sch k = slot_node z (entry_at sch k - 1)

abbrev pub choice_max : List ℕ → List ℕ → ℕ → ℕ
choice_max mins maxs k = entry_at maxs k - entry_at mins k

abbrev pub choice_cost : ℕ → ℤ
choice_cost k = pos 0

abbrev pub edges_from : Sizes → List Seat → List ℕ → List ℕ
edges_from z seats choices = map (seat_from z) seats ++ map (choice_node z) choices

abbrev pub edges_to : Sizes → List ℕ → List Seat → List ℕ → List ℕ
edges_to z sch seats choices = map (seat_to z) seats ++ map (choice_to z sch) choices

abbrev pub edges_max : List ℕ → List ℕ → List Seat → List ℕ → List ℕ
edges_max mins maxs seats choices = map seat_max seats ++ map (choice_max mins maxs) choices

abbrev pub edges_cost : Offer → List Seat → List ℕ → List ℤ
edges_cost o seats choices = map (seat_cost o) seats ++ map choice_cost choices

-- sizes whose nodes can be numbered
pub record SmallSizes (z : Sizes) : Type 0 where
  pub choosers : z.choosers ≤ 64
  pub choices : z.choices ≤ 32
  pub slots : z.slots ≤ 8

-- tables of their lengths
pub record Offered (o : Offer) : Type 0 where
  pub choosers : o.sizes.choosers ≤ 64
  pub choices : o.sizes.choices ≤ 32
  pub slots : o.sizes.slots ≤ 8
  pub preferences : length o.preferences ≡ o.sizes.choosers * o.sizes.choices
  pub priced : (i : ℕ) → i < length o.preferences → get_or o.preferences i 0 < length o.costs
