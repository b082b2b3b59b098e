-- What accepted input gives the builder of a model, and what it then leaves. Assumes nothing.
use Rattle.std.specs.Prelude.{ℕ, zero, suc, ◌+◌, ◌*◌, ◌≤◌, ◌<◌, ◌≡◌, refl, Bool, true, false, not, ◌||◌, List, map, eqb, ℤ, replicate}
use Rattle.std.proofs.Math.Path.{sym, ap, fun_ext}
use Rattle.std.proofs.Common.{◌∙◌, mul-le-mul, le_refl, mul-le-mul_right, arith, length-append}
use Rattle.std.proofs.Math.Nat.{zero-add}
use Rattle.std.proofs.Math.Dec.{ltb, eqb-suc-suc}
use Rattle.std.proofs.Math.ListN.{length, get_or, get_or-eq_default}
use Rattle.std.proofs.lemmas.List.{length-map}
use borrow.Author.Tests.{eqb-true, ltb-false, not-false, ne_eqb}
use Rattle.counting.specs.Fold.{gate, sum_to}
use Rattle.counting.specs.FoldLaws.{fold_ext}
use Rattle.counting.specs.Sums.{sum_zeros, sum_swap, sum_le, sum_const, sum_pick, sum_below}
use Rattle.counting.specs.Tests.{or_split, none_each, lt_cases, eqb_sym}
use Rattle.counting.specs.HoldsLaws.{holds_in}
use Rattle.counting.specs.Written.{written}
use Rattle.counting.specs.WrittenLaws.{written_append}
use Rattle.input_data.specs.Checks.{has_bad_preferences, above_at, member_count}
use Rattle.input_data.specs.Day.{min_at}
use Rattle.input_data.specs.Lengths.{Within, preferences_length, costs_length, supplies_length, edges_length, group_entries_length, group_ends_length, blocked_length}
use Rattle.input_data.specs.declared.Limits.{Limits}
use Rattle.scheduling.specs.Schedule.{entry_at}
use Rattle.slot_lists.specs.HeldLaws.{member}
use Rattle.slot_lists.specs.Parts.{list_length, list_entry, Listed}
use Rattle.slot_lists.specs.declared.lists.SlotLists.{SlotLists}
use Rattle.slot_lists.specs.SumsLaws.{Sums, weighed_most}
use Rattle.slot_lists.specs.Sums.{one, weight_at, weighed}
use Rattle.blocks.specs.Blocks.{cell}
use Rattle.blocks.specs.BlocksLaws.{cell_in}
use Rattle.schedule_state.specs.Good.{choosers_most, choices_most, slots_most, part_in, min_most}
use Rattle.mip_flow_static_data.specs.Nodes.{supplies, Supplying}
use Rattle.input_data.specs.declared.Sizes.{Sizes}
use Rattle.mip_flow.specs.Edges.{Seat, Offered, open_seats, scheduled}
use Rattle.mip_flow.specs.Index.{EdgeNumbers, unnumbered, no_edge, seat_cell, edge_of}
use Rattle.mip_flow.specs.IndexLaws.{number_at, indexed, indexed_is}
use Rattle.model_buffers.specs.Lengths.{short_buffers, short_edges, short_groups}
use Rattle.mip_flow.specs.Stored.{Indexed, with_index, store_seats, store_choices, Room, SeatRoom, room_after, Placed, choosers_most as seats_most, choices_of as choicesIn}
use Rattle.model_buffers.specs.Buffers.{Buffers, lengths_of}
use Rattle.model_buffers.specs.Lent.{held, lent_with}
use Rattle.model_buffers.specs.declared.buffers.LentBuffers.{LentBuffers}
use Rattle.model_buffers.specs.declared.edges.Edges.{Edges}
use Rattle.model_buffers.specs.declared.groups.Groups.{Groups}
use Rattle.model_buffers.specs.declared.Lengths.{Lengths}
use Rattle.edge_groups.specs.Grouping.{Grouping}
use Rattle.edge_groups.specs.Names.{names, member_start}
use Rattle.edge_groups.specs.Groups.{flat, store_groups}
use Rattle.edge_values.specs.Values.{Network}
use Rattle.plans.specs.Good.{Good, model_accepted, good}
use Rattle.plans.specs.Seated.{left_chooser, right_chooser}
use Rattle.plans.specs.Model.{ModelInput, sizes_of, entries_of, count_of, list_of, offer_of, seats_of, choices_of, names_of, network_of, costs_of, wrong_model_tables, number_with}
use Rattle.flow_model.specs.Alike.{Reading, names_same}
use Rattle.flow_model.specs.Lent.{with_model, IsLists, Buildable, ModelMade}

-- ---- the buffers of edges and of groups, as the builder takes them

-- none is stored yet
pub record NoEdges (b : LentBuffers) (e : Edges) : Type 0 where
  pub from : e.from.now ≡ b.from.now
  pub to : e.to.now ≡ b.to.now
  pub max : e.max.now ≡ b.max.now
  pub cost : e.cost.now ≡ b.cost.now
  pub used : e.used ≡ 0

pub record NoGroups (b : LentBuffers) (g : Groups) : Type 0 where
  pub entries : g.entries.now ≡ b.entries.now
  pub ends : g.ends.now ≡ b.ends.now
  pub blocked : g.blocked.now ≡ b.blocked.now
  pub entries_used : g.entries_used ≡ 0
  pub ends_used : g.ends_used ≡ 0
  pub blocked_used : g.blocked_used ≡ 0

-- what stands in them is what buffers hold
pub record EdgesHold (c : Buffers) (n : ℕ) (e : Edges) : Type 0 where
  pub from : e.from.now ≡ c.from
  pub to : e.to.now ≡ c.to
  pub max : e.max.now ≡ c.max
  pub cost : e.cost.now ≡ c.cost
  pub used : e.used ≡ n

pub record GroupsHold (c : Buffers) (m : Network) (g : Groups) : Type 0 where
  pub entries : g.entries.now ≡ c.entries
  pub ends : g.ends.now ≡ c.ends
  pub blocked : g.blocked.now ≡ c.blocked
  pub entries_used : g.entries_used ≡ length (flat m.groups)
  pub ends_used : g.ends_used ≡ length m.groups
  pub blocked_used : g.blocked_used ≡ length m.blocked

-- buffers hold these supplies, edges and groups
pub record Holding (c : Buffers) (supplied : List ℤ) (e : Edges) (g : Groups) : Type 0 where
  pub supplies : c.supplies ≡ supplied
  pub from : c.from ≡ e.from.now
  pub to : c.to ≡ e.to.now
  pub max : c.max ≡ e.max.now
  pub cost : c.cost ≡ e.cost.now
  pub entries : c.entries ≡ g.entries.now
  pub ends : c.ends ≡ g.ends.now
  pub blocked : c.blocked ≡ g.blocked.now

-- ---- lengths that were tested

-- the lengths that a model needs
pub record Long (l : Limits) (lens : Lengths) : Type 0 where
  pub supplies : supplies_length l ≤ lens.supplies
  pub from : edges_length l ≤ lens.from
  pub to : edges_length l ≤ lens.to
  pub max : edges_length l ≤ lens.max
  pub cost : edges_length l ≤ lens.cost
  pub entries : group_entries_length ≤ lens.entries
  pub ends : group_ends_length ≤ lens.ends
  pub blocked : blocked_length ≤ lens.blocked

long_of : (l : Limits) (lens : Lengths) → short_buffers l lens ≡ false → Long l lens
long_of l b e =
    let p : ((ltb b.supplies (supplies_length l) || short_edges l b) ≡ false) × (short_groups b ≡ false) = or_split e in
    let q : (ltb b.supplies (supplies_length l) ≡ false) × (short_edges l b ≡ false) = or_split p.0 in
    let r : ((ltb b.from (edges_length l) || ltb b.to (edges_length l) || ltb b.max (edges_length l)) ≡ false) × (ltb b.cost (edges_length l) ≡ false) = or_split q.1 in
    let s : ((ltb b.from (edges_length l) || ltb b.to (edges_length l)) ≡ false) × (ltb b.max (edges_length l) ≡ false) = or_split r.0 in
    let t : (ltb b.from (edges_length l) ≡ false) × (ltb b.to (edges_length l) ≡ false) = or_split s.0 in
    let u : ((ltb b.entries group_entries_length || ltb b.ends group_ends_length) ≡ false) × (ltb b.blocked blocked_length ≡ false) = or_split p.1 in
    let v : (ltb b.entries group_entries_length ≡ false) × (ltb b.ends group_ends_length ≡ false) = or_split u.0 in
    record {
      supplies = ltb-false _ _ q.0;
      from = ltb-false _ _ t.0;
      to = ltb-false _ _ t.1;
      max = ltb-false _ _ s.1;
      cost = ltb-false _ _ r.1;
      entries = ltb-false _ _ v.0;
      ends = ltb-false _ _ v.1;
      blocked = ltb-false _ _ u.1;
    }

-- tables and buffers as accepted input has them
pub record Lent (l : Limits) (x : ModelInput) (lens : Lengths) (short : Bool) : Type 0 where
  pub preferences : length x.preferences ≡ preferences_length x.day
  pub costs : length x.costs ≡ costs_length x.day
  pub long : Long l lens
  pub rest : short ≡ false
  pub below : (i : ℕ) → i < length x.preferences → get_or x.preferences i 0 ≤ x.day.max_preference

module _ (l : Limits) (x : ModelInput) (lens : Lengths) (short : Bool) (w : Within l) (e : number_with l x lens short ≡ 0) where
  pub lent : Lent l x lens short
  unfolding has_bad_preferences
  lent =
      let a = model_accepted l x lens short w e in
      let p : ((wrong_model_tables x || ltb (length x.lists) (l.choices * l.slots) || short_buffers l lens) ≡ false) × (short ≡ false) = or_split a.past.lengths in
      let q : ((wrong_model_tables x || ltb (length x.lists) (l.choices * l.slots)) ≡ false) × (short_buffers l lens ≡ false) = or_split p.0 in
      let r : (wrong_model_tables x ≡ false) × (ltb (length x.lists) (l.choices * l.slots) ≡ false) = or_split q.0 in
      let t : (not (eqb (length x.preferences) (preferences_length x.day)) ≡ false) × (not (eqb (length x.costs) (costs_length x.day)) ≡ false) = or_split r.0 in
      record {
        preferences = eqb-true _ _ (not-false _ t.0);
        costs = eqb-true _ _ (not-false _ t.1);
        long = long_of l lens q.1;
        rest = p.1;
        below = λ i h. ltb-false _ _ (none_each (length x.preferences) (above_at x.day.max_preference x.preferences) a.past.preferences i h);
      }

-- tested input is accepted, and the buffers are as long as its model asks
module _ {l : Limits} {x : ModelInput} {lens : Lengths} (p : Buildable l x lens) where
  pub good_of : Good l x
  good_of = good l x lens p.short p.within p.number

  pub lent_of : Lent l x lens p.short
  lent_of = lent l x lens p.short p.within p.number

-- ---- the slots' lists

weighed_out : (f : ℕ → ℕ) (n slots s : ℕ) → ((k : ℕ) → k < n → f k ≤ slots) → slots ≤ s → weighed one f n s ≡ 0
weighed_out f n slots s h b = sum_zeros n (weight_at one f s) (λ k c. ap (λ (t : Bool). gate t 1) (ne_eqb (f k) (suc s) (λ q. omega (arith, h k c))))

-- all lists together have no more choices than the day
weighed_all : (f : ℕ → ℕ) (n slots : ℕ) → sum_to slots (weighed one f n) ≤ n
weighed_all f n slots = omega (
  arith,
  sum_swap slots n (λ s k. weight_at one f s k),
  sum_le n (λ k. sum_to slots (λ s. weight_at one f s k)) (λ k. 1) (λ k b. once (f k)),
  sum_const n 1,
)
  where
    once : (e : ℕ) → sum_to slots (λ s. gate (eqb e (suc s)) 1) ≤ 1
    once zero = omega (arith, sum_zeros slots (λ s. gate (eqb 0 (suc s)) 1) (λ s b. ap (λ (t : Bool). gate t 1) (ne_eqb 0 (suc s) (λ q. omega arith))))
    once (suc t) = omega (arith, at t, pick t)
      where
        at : (t : ℕ) → sum_to slots (λ s. gate (eqb (suc t) (suc s)) 1) ≡ sum_to slots (λ s. gate (eqb s t) 1)
        at t = fold_ext ◌+◌ 0 slots (λ s. gate (eqb (suc t) (suc s)) 1) (λ s. gate (eqb s t) 1) (λ s b. ap (λ (v : Bool). gate v 1) (eqb-suc-suc t s ∙ eqb_sym t s))

        pick : (t : ℕ) → sum_to slots (λ s. gate (eqb s t) 1) ≤ 1
        pick t = lt_cases t slots (λ b v. omega (arith, rw v at (sum_pick slots (λ s. 1) t))) (λ b v. omega (arith, rw v at (sum_pick slots (λ s. 1) t)))

module _ {l : Limits} {x : ModelInput} (g : Good l x) where
  abbrev f : ℕ → ℕ
  f = entry_at (entries_of x)

  -- the sums of the state's schedule are the lists' lengths, in every slot
  pub counts_are : {a : List ℕ} → Sums one f x.day.choices a → entry_at a ≡ count_of x
  counts_are {a = a} q = fun_ext (λ s. lt_cases s 8
      (λ b v. q.at s b)
      (λ b v. get_or-eq_default {A = ℕ} a 0 {n = s} (omega (arith, q.long)) ∙ sym (weighed_out f x.day.choices x.day.slots s g.fits (omega (arith, slots_most g.ready)))))

  pub count_most : (s : ℕ) → count_of x s ≤ l.choices
  count_most s = omega (arith, weighed_most one f x.day.choices s 1 (λ k b. le_refl 1), g.ready.day.choices)

  pub counts_all : sum_to x.day.slots (count_of x) ≤ x.day.choices
  counts_all = weighed_all f x.day.choices x.day.slots

  -- a listed choice is one of the day
  pub listed_below : (s j : ℕ) → s < x.day.slots → j < count_of x s → list_of l x s j < x.day.choices
  listed_below s j b c = below (holds_in (g.lists.at s b) j c)
    where
      below : {k : ℕ} → member f x.day.choices s k ≡ true → k < x.day.choices
      below {k = k} t = lt_cases k x.day.choices (λ u v. u) (λ u v. absurd (let z : ◌≡◌ {A = Bool} true false = sym t ∙ rw v refl in let y : ◌≡◌ {A = ℕ} 0 1 = cc in omega arith))

  -- the lists as the builder has them
  module _ {s : SlotLists} (q : IsLists l x s) where
    count_at : (i : ℕ) → entry_at s.lens i ≡ count_of x i
    count_at i = ap (λ (h : ℕ → ℕ). h i) q.lens

    counts_few : sum_to x.day.slots (list_length s) ≡ sum_to x.day.slots (count_of x)
    counts_few = ap (λ (h : ℕ → ℕ). sum_to x.day.slots h) q.lens

    pub listed_in : Listed x.day.slots x.day.choices s
    listed_in = record {
      most = slots_most g.ready;
      fits = λ i b. omega (arith, count_at i, count_most i, q.stride);
      part = λ i b. rw (q.stride, q.bytes) (part_in g.ready i b);
      choice = λ i j b c. rw (q.stride, q.bytes) (listed_below i j b (omega (arith, count_at i)));
      few = omega (arith, counts_few, counts_all);
    }

  pub supplying : (size : ℕ) → supplies_length l ≤ size → Supplying (sizes_of l x.day) x.day.mins x.state.covered size
  supplying size h = record {
    choosers = choosers_most g.ready;
    choices = choices_most g.ready;
    slots = slots_most g.ready;
    light = min_most g.ready;
    covered_light = λ s b. omega (arith, g.covered s b, weighed_most (min_at x.day) f x.day.choices s 1000 (min_most g.ready), choices_most g.ready);
    room = omega (arith, mul-le-mul g.ready.day.choosers g.ready.day.slots, g.ready.day.choices, g.ready.day.slots);
  }

  pub placed : Placed (choicesIn (sizes_of l x.day) (entries_of x) x.day.mins x.day.maxs)
  placed = record {
    fits = g.fits;
    order = g.ready.day.min_max;
    light = g.ready.day.max_most;
  }

  pub offered : {lens : Lengths} {short : Bool} → Lent l x lens short → Offered (offer_of l x)
  offered t = record {
    choosers = choosers_most g.ready;
    choices = choices_most g.ready;
    slots = slots_most g.ready;
    preferences = t.preferences;
    priced = λ i b. omega (arith, t.below i b, t.costs);
  }

  -- the edges of all seats and choices have room
  all_edges : (n : ℕ) → n ≤ x.day.choosers * sum_to x.day.slots (count_of x) → n + x.day.choices ≤ edges_length l
  all_edges n h = omega (
    arith,
    mul-le-mul g.ready.day.choosers counts_all,
    mul-le-mul g.ready.day.choosers g.ready.day.choices,
    g.ready.day.choices,
    mul-le-mul (le_refl x.day.choosers) counts_all,
    mul-le-mul_right x.day.choices g.ready.day.choosers,
    mul-le-mul (le_refl l.choosers) g.ready.day.choices,
  )

  pub members_are : member_start x.day.lengths x.day.groups ≡ member_count x.day.groups x.day.lengths
  unfolding member_start member_count
  members_are = sym (sum_below 16 x.day.groups (entry_at x.day.lengths) g.ready.day.groups)

  -- the seats of the call's lists
  abbrev seats_by : SlotLists → List Seat
  seats_by s = open_seats (offer_of l x) (list_length s) (list_entry s)

  module _ (b : LentBuffers) {short : Bool} (t : Lent l x (lengths_of (held b)) short) {s : SlotLists} (q : IsLists l x s) where
    few_edges : x.day.choosers * sum_to x.day.slots (list_length s) + x.day.choices ≤ edges_length l
    few_edges = all_edges _ (omega (arith, ap (λ n. x.day.choosers * n) (counts_few q)))

    few_seats : length (seats_by s) + x.day.choices ≤ edges_length l
    unfolding open_seats
    few_seats = omega (arith, few_edges, seats_most (offer_of l x) (list_length s) (list_entry s) x.day.choosers)

    edges_most : edges_length l ≤ 2080
    edges_most = omega (arith, mul-le-mul g.ready.within.choosers g.ready.within.choices, g.ready.within.choices)

    module _ {e₀ : Edges} (k : NoEdges b e₀) where
      room : (m : ℕ) → m ≤ edges_length l → SeatRoom e₀ unnumbered m
      room m h = record {
        edges = rw (k.from, k.to, k.max, k.cost, k.used) (record { from = omega (arith, t.long.from); to = omega (arith, t.long.to); max = omega (arith, t.long.max); cost = omega (arith, t.long.cost) });
        numbers = omega (arith, edges_most);
      }

      -- the seats' edges fit into the buffers ..
      pub seat_room : SeatRoom e₀ unnumbered (x.day.choosers * sum_to x.day.slots (list_length s))
      seat_room = room _ (omega (arith, few_edges))

      -- .. and those of the choices after them
      pub choice_room : {e : Edges} {i : EdgeNumbers} → with_index e i ≡ store_seats (offer_of l x) (with_index e₀ unnumbered) (seats_by s) → Room e x.day.choices
      choice_room p = (room_after (offer_of l x) _ x.day.choices p (room _ few_seats) (le_refl _)).edges

    -- groups and blocked edges too
    pub grouping : {g₀ : Groups} → NoGroups b g₀ → Grouping (sizes_of l x.day) s x.day g₀
    grouping k =
        let h = listed_in q in
        record {
          choosers = choosers_most g.ready;
          listed = record { most = h.most; fits = h.fits; part = h.part; choice = λ i j u v. omega (arith, h.choice i j u v, choices_most g.ready); few = omega (arith, h.few, choices_most g.ready) };
          constraints = record {
            count = g.ready.day.assignment.count;
            names = λ j u e. (omega (arith, left_chooser g.ready.day j u e, choosers_most g.ready), omega (arith, right_chooser g.ready.day j u e, choosers_most g.ready));
          };
          dependent = record {
            count = g.ready.day.groups;
            few = omega (arith, members_are, g.ready.day.members);
            each = λ i u. omega (arith, g.ready.day.member i (rw members_are at u), choices_most g.ready);
          };
          room = rw (k.entries, k.ends, k.blocked, k.entries_used, k.ends_used, k.blocked_used) (record { small = omega arith; entries = omega (arith, t.long.entries); ends = omega (arith, t.long.ends); blocked = omega (arith, t.long.blocked) });
        }

-- ---- what the builder leaves

-- what names read of accepted input
reading : {l : Limits} {x : ModelInput} (g : Good l x) → Reading (sizes_of l x.day) (count_of x) (list_of l x) x.day.assignment x.day.groups x.day.lengths x.day.members
reading g = record {
  choosers = choosers_most g.ready;
  choice = λ s j b c. omega (arith, listed_below g s j b c, choices_most g.ready);
  constraint = λ j b e. (omega (arith, left_chooser g.ready.day j b e, choosers_most g.ready), omega (arith, right_chooser g.ready.day j b e, choosers_most g.ready));
  member = λ i b. omega (arith, g.ready.day.member i (rw (members_are g) at b), choices_most g.ready);
}

module _ {l : Limits} {x : ModelInput} (g : Good l x) (b : LentBuffers) {s : SlotLists} (q : IsLists l x s) where
  abbrev z : Sizes
  z = sizes_of l x.day

  -- the call's seats are those of the definition
  seats_are : seats_by g s ≡ seats_of l x
  unfolding seats_of
  seats_are = rw (q.lens, q.bytes, q.stride) refl

  -- the seats' edges were stored: the buffers and the numbers
  module _ {e₀ e : Edges} {i : EdgeNumbers} (k : NoEdges b e₀) (p : with_index e i ≡ store_seats (offer_of l x) (with_index e₀ unnumbered) (seats_by g s)) where
    numbered : i ≡ record { numbers = indexed (replicate 2048 no_edge) 0 (map seat_cell (seats_of l x)); count = 0 + length (seats_of l x) }
    unfolding store_seats
    numbered = rw (ap (λ (y : Indexed). y.index) p, seats_are) refl

    count_is : i.count ≡ length (seats_of l x)
    count_is = ap (λ (y : EdgeNumbers). y.count) numbered ∙ zero-add _

    numbers_are : (c k : ℕ) → c < 64 → k < 32 → number_at i.numbers c k ≡ edge_of (seats_of l x) c k
    unfolding edge_of
    numbers_are c j hc hj = rw numbered (indexed_is 2048 (map seat_cell (seats_of l x)) (cell c j) (cell_in c j hc hj))

    -- then those of the choices
    edges_are : {e' : Edges} → e' ≡ store_choices (choicesIn z (entries_of x) x.day.mins x.day.maxs) e (scheduled x.day.choices (entries_of x))
        → EdgesHold (with_model l x (held b)) (length (network_of l x).from) e'
    unfolding with_model network_of costs_of choices_of store_seats store_choices
    edges_are r = rw (r, ap (λ (y : Indexed). y.edges) p, seats_are, k.from, k.to, k.max, k.cost, k.used) (record {
      from = simp (written_append, length-map);
      to = simp (written_append, length-map);
      max = simp (written_append, length-map);
      cost = simp (written_append, length-map);
      used = simp (length-append, length-map, zero-add);
    })

    -- the call's names are those of the definition
    names_are : names (number_at i.numbers) z (entries_of x) (list_length s) (list_entry s) x.day.assignment x.day.groups x.day.lengths x.day.members ≡ names_of l x
    unfolding names_of
    names_are = rw (q.lens, q.bytes, q.stride)
        (names_same (number_at i.numbers) (edge_of (seats_of l x)) numbers_are z (entries_of x) (count_of x) (list_of l x) x.day.assignment x.day.groups x.day.lengths x.day.members (reading g))

    -- and then the groups
    groups_are : {g₀ gs : Groups} → NoGroups b g₀ → gs ≡ store_groups i.count g₀ (names (number_at i.numbers) z (entries_of x) (list_length s) (list_entry s) x.day.assignment x.day.groups x.day.lengths x.day.members)
        → GroupsHold (with_model l x (held b)) (network_of l x) gs
    unfolding with_model network_of store_groups
    groups_are j r = rw (r, names_are, count_is, j.entries, j.ends, j.blocked, j.entries_used, j.ends_used, j.blocked_used) (record { entries = refl; ends = refl; blocked = refl; entries_used = zero-add _; ends_used = zero-add _; blocked_used = zero-add _ })

    -- the stages, one after the other, make the model
    pub made : {e' : Edges} {g₀ gs : Groups} {c : Buffers} → NoGroups b g₀
        → e' ≡ store_choices (choicesIn z (entries_of x) x.day.mins x.day.maxs) e (scheduled x.day.choices (entries_of x))
        → gs ≡ store_groups i.count g₀ (names (number_at i.numbers) z (entries_of x) (list_length s) (list_entry s) x.day.assignment x.day.groups x.day.lengths x.day.members)
        → Holding c (written b.supplies.now 0 (supplies z (entries_of x) x.day.mins x.state.covered)) e' gs
        → ModelMade l x b (lent_with b c) (record { sizes = z; lists = s; index = i; counts = record { edges = e'.used; entries = gs.entries_used; groups = gs.ends_used; blocked = gs.blocked_used } })
    unfolding with_model network_of
    made j pc pg h =
        let es = edges_are pc in
        let fs = groups_are j pg in
        record {
          buffers = rw (h.supplies, h.from, h.to, h.max, h.cost, h.entries, h.ends, h.blocked, es.from, es.to, es.max, es.cost, fs.entries, fs.ends, fs.blocked) refl;
          numbers = numbers_are;
          seats = count_is;
          sizes = refl;
          lists = q;
          edges = es.used;
          entries = fs.entries_used;
          groups = fs.ends_used;
          blocked = fs.blocked_used;
        }
