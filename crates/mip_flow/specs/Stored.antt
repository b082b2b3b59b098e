-- The lent buffers of the edges, and the edges' numbers, after edges were stored. Definitions and their laws.
use Rattle.std.specs.Prelude.{ℕ, zero, suc, ◌+◌, ◌-◌, ◌*◌, ◌≤◌, ◌<◌, ◌≡◌, refl, true, false, not, List, [], ◌++◌, map, Some, None, eqb, ℤ, pos, length}
use Rattle.std.proofs.Common.{ap, ◌∙◌, add-zero, add_assoc, mul-one, arith, length-append, eq-eqb, ne_eqb}
use Rattle.std.proofs.lemmas.List.{map-append, length-map}
use Rattle.counting.specs.Fold.{join_to, sum_to}
use Rattle.counting.specs.FoldLaws.{fold_none, fold_more}
use Rattle.counting.specs.Lists.{length_join_most, length_join_sum, only_length}
use Rattle.counting.specs.Sums.{sum_mono}
use Rattle.counting.specs.Written.{written}
use Rattle.counting.specs.WrittenLaws.{written_append, length_written}
use Rattle.scheduling.specs.Schedule.{entry_at, slot_in}
use Rattle.input_data.specs.declared.Sizes.{Sizes}
use Rattle.model_buffers.specs.Stored.{wrote, edge_pushed, edges_with}
use Rattle.model_buffers.specs.declared.edges.Edges.{Edges}
use Rattle.mip_flow_static_data.specs.Nodes.{chooser_node, choice_node, slot_node}
use Rattle.mip_flow.specs.Edges.{Offer, Seat, seat, is_open, seat_at, listed_seat, slot_seats, slot_seats_at, chooser_seats, place_at, seat_from, seat_to, seat_max, seat_cost, choice_to, choice_max, choice_cost}
use Rattle.mip_flow.specs.Index.{EdgeNumbers, numbered_next, seat_cell}
use Rattle.mip_flow.specs.IndexLaws.{indexed, indexed_append}

-- the lent buffers of edges, and the edges' numbers
pub record Indexed : Type 0 where
  pub edges : Edges
  pub index : EdgeNumbers

abbrev pub with_index : Edges → EdgeNumbers → Indexed
with_index e i = record { edges = e; index = i }

-- the edges of these seats stored after those that are there, each with the next number
unfoldable pub store_seats : Offer → Indexed → List Seat → Indexed
store_seats o b qs = record {
  edges = record {
    from = wrote b.edges.from b.edges.used (map (seat_from o.sizes) qs);
    to = wrote b.edges.to b.edges.used (map (seat_to o.sizes) qs);
    max = wrote b.edges.max b.edges.used (map seat_max qs);
    cost = wrote b.edges.cost b.edges.used (map (seat_cost o) qs);
    used = b.edges.used + length qs;
  };
  index = record { numbers = indexed b.index.numbers b.index.count (map seat_cell qs); count = b.index.count + length qs };
}

-- what a choice's edge is made of
pub record Choices : Type 0 where
  pub sizes : Sizes
  pub entries : List ℕ
  pub mins : List ℕ
  pub maxs : List ℕ

abbrev pub choices_of : Sizes → List ℕ → List ℕ → List ℕ → Choices
choices_of z sch mins maxs = record { sizes = z; entries = sch; mins = mins; maxs = maxs }

-- the edges of these choices stored after those that are there
unfoldable pub store_choices : Choices → Edges → List ℕ → Edges
store_choices y e ks = record {
  from = wrote e.from e.used (map (choice_node y.sizes) ks);
  to = wrote e.to e.used (map (choice_to y.sizes y.entries) ks);
  max = wrote e.max e.used (map (choice_max y.mins y.maxs) ks);
  cost = wrote e.cost e.used (map choice_cost ks);
  used = e.used + length ks;
}

pub seats_none : (o : Offer) (b : Indexed) → store_seats o b [] ≡ b
unfolding store_seats written indexed
seats_none o b = simp add-zero

pub seats_append : (o : Offer) (b : Indexed) (ps qs : List Seat) → store_seats o b (ps ++ qs) ≡ store_seats o (store_seats o b ps) qs
unfolding store_seats
seats_append o b ps qs = simp (map-append, written_append, indexed_append, length-map, length-append, add_assoc)

pub choices_none : (y : Choices) (e : Edges) → store_choices y e [] ≡ e
unfolding store_choices written
choices_none y e = simp add-zero

pub choices_append : (y : Choices) (e : Edges) (ps qs : List ℕ) → store_choices y e (ps ++ qs) ≡ store_choices y (store_choices y e ps) qs
unfolding store_choices
choices_append y e ps qs = simp (map-append, written_append, length-map, length-append, add_assoc)

-- how one run of stores follows another
pub ruleset seats_laws = (fold_none, fold_more, seats_none, seats_append)

pub ruleset choices_laws = (fold_none, fold_more, choices_none, choices_append)

-- they are stored in the same buffers
pub seats_same : (o : Offer) (b : Indexed) (qs : List Seat) {b' : Indexed} → b' ≡ store_seats o b qs → b'.edges ≡ edges_with b.edges b'.edges
unfolding store_seats
seats_same o b qs p = rw p refl

pub choices_same : (y : Choices) (e : Edges) (ks : List ℕ) {e' : Edges} → e' ≡ store_choices y e ks → e' ≡ edges_with e e'
unfolding store_choices
choices_same y e ks p = rw p refl

-- ---- one edge, as it is stored

-- a seat that is not open stores nothing, an open one its edge and the next number
module _ (o : Offer) (c s k : ℕ) (b : Indexed) where
  pub no_seat : is_open o c k ≡ false → b ≡ store_seats o b (seat_at o c s k)
  no_seat h = rw (h, seats_none)

  pub one_seat : {f t : ℕ} {v : ℤ} → is_open o c k ≡ true → f ≡ chooser_node o.sizes c s → t ≡ choice_node o.sizes k → v ≡ seat_cost o (seat c s k)
      → with_index (edge_pushed b.edges f t 1 v) (numbered_next b.index c k) ≡ store_seats o b (seat_at o c s k)
  unfolding store_seats written indexed
  one_seat h hf ht hv = rw (h, hf, ht, hv) refl

-- an entry that names no slot, and one that names slot s
no_slot : (e : ℕ) → None ≡ slot_in e → e ≡ 0
no_slot zero h = refl
no_slot (suc s) h = cc

slot_named : (e s : ℕ) → Some s ≡ slot_in e → e ≡ suc s
slot_named zero s h = cc
slot_named (suc t) s h = cc

-- a choice without a slot stores nothing, another its edge
module _ (y : Choices) (k : ℕ) (e : Edges) where
  pub no_choice : None ≡ slot_in (entry_at y.entries k) → e ≡ store_choices y e (place_at y.entries k)
  no_choice h = rw (eq-eqb _ _ (no_slot _ h), choices_none)

  pub one_choice : {s f t m : ℕ} → Some s ≡ slot_in (entry_at y.entries k) → f ≡ choice_node y.sizes k → t ≡ slot_node y.sizes s → m ≡ choice_max y.mins y.maxs k
      → edge_pushed e f t m (pos 0) ≡ store_choices y e (place_at y.entries k)
  unfolding store_choices written
  one_choice {s = s} h hf ht hm =
      let n : entry_at y.entries k ≡ suc s = slot_named _ s h in
      let m : s ≡ entry_at y.entries k - 1 = omega arith in
      rw (ne_eqb (entry_at y.entries k) 0 (λ z. omega arith), hf, ht ∙ ap (slot_node y.sizes) m, hm) refl

-- ---- room

-- room for m edges more
pub record Room (e : Edges) (m : ℕ) : Type 0 where
  pub from : e.used + m ≤ length e.from.now
  pub to : e.used + m ≤ length e.to.now
  pub max : e.used + m ≤ length e.max.now
  pub cost : e.used + m ≤ length e.cost.now

-- .. and for their numbers
pub record SeatRoom (e : Edges) (i : EdgeNumbers) (m : ℕ) : Type 0 where
  pub edges : Room e m
  pub numbers : i.count + m ≤ 2080

-- what had room for m has room for m' after some seats' edges
pub room_after : (o : Offer) (qs : List Seat) {b b' : Indexed} {m : ℕ} (m' : ℕ) → b' ≡ store_seats o b qs → SeatRoom b.edges b.index m → length qs + m' ≤ m → SeatRoom b'.edges b'.index m'
unfolding store_seats
room_after o qs m' p r h = rw p (record {
  edges = record {
    from = simp length_written (omega (arith, r.edges.from));
    to = simp length_written (omega (arith, r.edges.to));
    max = simp length_written (omega (arith, r.edges.max));
    cost = simp length_written (omega (arith, r.edges.cost));
  };
  numbers = omega (arith, r.numbers);
})

pub choices_room : (y : Choices) (ks : List ℕ) {e e' : Edges} {m : ℕ} (m' : ℕ) → e' ≡ store_choices y e ks → Room e m → length ks + m' ≤ m → Room e' m'
unfolding store_choices
choices_room y ks m' p r h = rw p (record {
  from = simp length_written (omega (arith, r.from));
  to = simp length_written (omega (arith, r.to));
  max = simp length_written (omega (arith, r.max));
  cost = simp length_written (omega (arith, r.cost));
})

-- how many there can be
pub slot_most : (o : Offer) (c s j : ℕ) (list : ℕ → ℕ) → length (join_to j (listed_seat o c s list)) ≤ j
slot_most o c s j list = omega (arith, mul-one j, length_join_most j 1 (listed_seat o c s list) (λ i. only_length (is_open o c (list i)) (seat c s (list i))))

pub slots_most : (o : Offer) (count : ℕ → ℕ) (list : ℕ → ℕ → ℕ) (c s : ℕ) → length (join_to s (slot_seats_at o count list c)) ≤ sum_to s count
unfolding slot_seats
slots_most o count list c s = length_join_sum s count (slot_seats_at o count list c) (λ i. slot_most o c i (count i) (list i))

pub chooser_most : (o : Offer) (count : ℕ → ℕ) (list : ℕ → ℕ → ℕ) (c : ℕ) → length (chooser_seats o count list c) ≤ sum_to o.sizes.slots count
unfolding chooser_seats
chooser_most o count list c = slots_most o count list c o.sizes.slots

pub choosers_most : (o : Offer) (count : ℕ → ℕ) (list : ℕ → ℕ → ℕ) (c : ℕ) → length (join_to c (chooser_seats o count list)) ≤ c * sum_to o.sizes.slots count
choosers_most o count list c = length_join_most c (sum_to o.sizes.slots count) (chooser_seats o count list) (λ i. chooser_most o count list i)

pub scheduled_most : (sch : List ℕ) (k : ℕ) → length (join_to k (place_at sch)) ≤ k
scheduled_most sch k = omega (arith, mul-one k, length_join_most k 1 (place_at sch) (λ i. only_length (not (eqb (entry_at sch i) 0)) i))

-- one slot's list is among all
pub lists_below : (count : ℕ → ℕ) (s n : ℕ) → s < n → sum_to s count + count s ≤ sum_to n count
lists_below count s n h = omega (arith, fold_more ◌+◌ 0 s count, sum_mono (s + 1) n count (omega arith))

-- ---- what the builder asks of choices and their slots

pub record Placed (y : Choices) : Type 0 where
  pub fits : (k : ℕ) → k < y.sizes.choices → entry_at y.entries k ≤ y.sizes.slots
  pub order : (k : ℕ) → k < y.sizes.choices → entry_at y.mins k ≤ entry_at y.maxs k
  pub light : (k : ℕ) → k < y.sizes.choices → entry_at y.maxs k ≤ 1000
