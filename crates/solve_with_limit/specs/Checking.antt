-- Values held against the finished model in the lent buffers: what the check and the decoding ask holds, and they say what the model says. Assumes nothing.
use Prim.Native.Nat.{ℕ, zero, suc, ◌+◌, ◌-◌, ◌*◌, ◌≤◌, ◌<◌}
use Rattle.std.specs.Prelude.{◌≡◌, Bool, List, [], ◌++◌, Result, Ok, eqb, ltb, ℤ, pos, take, drop}
use Rattle.std.proofs.Math.Path.{refl, sym, ap, ap₂}
use Rattle.std.proofs.Common.{◌∙◌, length-append, ext_get_or, ltb-false, ne_eqb}
use Rattle.std.proofs.Math.Bool.{false, cond, not, ◌||◌}
use Rattle.std.proofs.Math.Nat.{mul-le-mul}
use native.Mathlib.Omega.{arith}
use Rattle.std.proofs.Math.IntN.{◌-ℤ◌, ◌+ℤ◌}
use Rattle.std.proofs.Math.ListN.{length, get_or}
use Rattle.std.specs.Result.{IsErrAnd}
use Rattle.std.proofs.lemmas.Result.{err_from_is_err_and}
use Rattle.refusal.specs.Number.{number}
use Rattle.refusal.specs.declared.Refusal.{Refusal}
use Rattle.counting.specs.Fold.{any_to, table_to}
use Rattle.counting.specs.FoldLaws.{fold_ext}
use Rattle.counting.specs.Ints.{eq_z}
use Rattle.counting.specs.Lists.{length_table}
use Rattle.counting.specs.Sums.{grid_lt}
use Rattle.counting.specs.Tests.{lt_cases, or_split}
use Rattle.counting.specs.Written.{written}
use Rattle.counting.specs.WrittenLaws.{written_at, length_written}
use Rattle.input_data.specs.Bytes.{lent_number}
use Rattle.input_data.specs.Lengths.{Within, edges_length, supplies_length, plan_length}
use Rattle.input_data.specs.declared.Limits.{Limits}
use Rattle.scheduling.specs.Schedule.{entry_at}
use Rattle.schedule_state.specs.Bytes.{not_state}
use Rattle.schedule_state.specs.Good.{choosers_most, choices_most, slots_most}
use Rattle.mip_flow_static_data.specs.Nodes.{node_count, chooser_supply, choice_supply, slot_supply, supplies}
use Rattle.model_buffers.specs.Buffers.{Buffers, lengths_of}
use Rattle.model_buffers.specs.Lengths.{short_values}
use Rattle.model_buffers.specs.Lent.{held}
use Rattle.model_buffers.specs.declared.Counts.{Counts}
use Rattle.model_buffers.specs.declared.buffers.LentBuffers.{LentBuffers}
use Rattle.model_buffers.specs.declared.Lengths.{Lengths}
use Rattle.edge_groups.specs.Groups.{flat, ends_from}
use Rattle.edge_groups.specs.Laws.{entries_there, blocked_there, group_start, group_end, ends_ascend, end_within, group_read}
use Rattle.edge_groups.specs.Stored.{ends_length}
use Rattle.edge_groups.specs.Bounds.{Few, names_few, stored_most}
use Rattle.mip_flow.specs.Index.{edge_of}
use Rattle.mip_flow.specs.IndexLaws.{number_at}
use Rattle.slot_lists.specs.ListsLaws.{part_length, part_at}
use Rattle.edge_values.specs.Values.{value_at, out_of_bounds, outside_at, some_outside, used_at, some_used, is_uneven, uneven_at, some_uneven, flow_at, flow, unbalanced_at, some_unbalanced, Network, values_number}
use Rattle.edge_values.specs.Checks.{start_at, part_of, uneven_part}
use Rattle.edge_values.specs.Number.{buffer_number, Checkable}
use Rattle.decoding.specs.Decoding.{Decoding, decoded_plan}
use Rattle.decoding.specs.declared.values.EdgeValues.{EdgeValues}
use Rattle.plans.specs.Decode.{found}
use Rattle.flow_model.specs.Alike.{first_same, decoded_same}
use Rattle.plans.specs.Flow.{Present, present_true, from_of, to_of, cap_of}
use Rattle.plans.specs.Good.{Good, good}
use Rattle.plans.specs.Model.{ModelInput, sizes_of, entries_of, count_of, list_of, seats_of, choices_of, names_of, network_of, plan_of, number_with, enter_number}
use Rattle.plans.specs.Pairs.{pairs_in}
use Rattle.plans.specs.SeatPairs.{frame_of, edge_count, row_at, item_at, model_edges, edges_room, from_length, maps_length}
use Rattle.flow_model.specs.Building.{Lent, lent, counts_all, members_are, listed_below, listed_in}
use Rattle.flow_model.specs.Entering.{input_lent}
use Rattle.flow_model.specs.Lent.{with_model, ModelMade, EnteredWith, EnteredLent}
use Rattle.flow_model.specs.Calls.{ValuesChecked}
use Rattle.solve_with_limit.specs.Answers.{values_refused, values_done}
use Rattle.flow_model.specs.Made.{held_made, same_made}
use Rattle.flow_model.specs.declared.FlowModel.{FlowModel}

-- ---- what the model's edges are

module _ (l : Limits) (x : ModelInput) (g : Good l x) (i : ℕ) (h : i < edge_count l x) where
  abbrev C : ℕ
  C = x.day.choosers

  abbrev S : ℕ
  S = x.day.slots

  abbrev K : ℕ
  K = x.day.choices

  there : Present (frame_of l x g) (row_at l x i) (item_at l x i)
  there = present_true (frame_of l x g) (row_at l x i) (item_at l x i) (pairs_in (model_edges l x g).pairs i h)

  few : C * S ≤ 512
  few = mul-le-mul (choosers_most g.ready) (slots_most g.ready)

  pub from_below : get_or (network_of l x).from i 0 < 552
  unfolding from_of
  from_below =
      let p = there in
      let s = g.fits (item_at l x i) p.item in
      rw ((model_edges l x g).from_is i h) (lt_cases (row_at l x i) C
      (λ b e. rw e (omega (arith, few, grid_lt {m = S} {b = entry_at (entries_of x) (item_at l x i) - 1} b (omega (arith, s, p.placed)))))
      (λ b e. rw e (omega (arith, few, p.item, choices_most g.ready))))

  pub to_below : get_or (network_of l x).to i 0 < 552
  unfolding to_of
  to_below =
      let p = there in
      let s = g.fits (item_at l x i) p.item in
      rw ((model_edges l x g).to_is i h) (lt_cases (row_at l x i) C
      (λ b e. rw e (omega (arith, few, p.item, choices_most g.ready)))
      (λ b e. rw e (omega (arith, few, s, p.placed, choices_most g.ready, slots_most g.ready))))

  pub max_below : get_or (network_of l x).max i 0 ≤ 1000
  unfolding cap_of
  max_below =
      let p = there in
      rw ((model_edges l x g).cap_is i h) (lt_cases (row_at l x i) C
      (λ b e. rw e (omega arith))
      (λ b e. rw e (omega (arith, g.ready.day.max_most (item_at l x i) p.item))))

supplies_length_lem : (l : Limits) (x : ModelInput) → length (network_of l x).supplies ≡ node_count (sizes_of l x.day)
unfolding network_of supplies
supplies_length_lem l x =
    let z = sizes_of l x.day in
    let xs = table_to (z.choosers * z.slots) chooser_supply in
    let ys = table_to z.choices (choice_supply (entries_of x) x.day.mins) in
    let zs = table_to z.slots (slot_supply z x.state.covered) in
    omega (arith, length-append (xs ++ ys) zs, length-append xs ys, length_table (z.choosers * z.slots) chooser_supply, length_table z.choices (choice_supply (entries_of x) x.day.mins), length_table z.slots (slot_supply z x.state.covered))

module _ {l : Limits} {x : ModelInput} (g : Good l x) where
  -- the four tables have one length
  to_length : length (network_of l x).to ≡ edge_count l x
  unfolding network_of
  to_length = maps_length _ _ (seats_of l x) (choices_of x)

  max_length : length (network_of l x).max ≡ edge_count l x
  unfolding network_of
  max_length = maps_length _ _ (seats_of l x) (choices_of x)

  -- what the groups and the blocked list use: the named lengths are enough (SPEC 6.14)
  few_names : Few (names_of l x) 4096 2048
  unfolding names_of
  few_names = names_few (edge_of (seats_of l x)) (sizes_of l x.day) (entries_of x) (count_of x) (list_of l x) x.day.assignment x.day.groups x.day.lengths x.day.members
      (omega (arith, counts_all g, choices_most g.ready)) g.ready.day.assignment.count (choosers_most g.ready) g.ready.day.groups (omega (arith, members_are g, g.ready.day.members))

  pub groups_fit : (length (flat (network_of l x).groups) ≤ 4096) × (length (network_of l x).groups ≤ 2048) × (length (network_of l x).blocked ≤ 4096)
  unfolding network_of
  groups_fit = stored_most (length (seats_of l x)) few_names

  entry_below : (i : ℕ) → i < length (flat (network_of l x).groups) → get_or (flat (network_of l x).groups) i 0 < length (seats_of l x)
  unfolding network_of
  entry_below i h = entries_there (length (seats_of l x)) (names_of l x) i h

  blocked_below : (i : ℕ) → i < length (network_of l x).blocked → get_or (network_of l x).blocked i 0 < length (seats_of l x)
  unfolding network_of
  blocked_below i h = blocked_there (length (seats_of l x)) (names_of l x) i h

-- ---- a finished model in the buffers, and values beside it

module _ {l : Limits} {x : ModelInput} (g : Good l x) {b b' : LentBuffers} {m : FlowModel} {short : Bool} (t : Lent l x (lengths_of (held b)) short) (p : ModelMade l x b b' m) (vs : List ℤ) (long : edges_length l ≤ length vs) where
  abbrev before : Buffers
  before = held b

  abbrev after : Buffers
  after = held b'

  abbrev net : Network
  net = network_of l x

  abbrev gs : List (List ℕ)
  gs = net.groups

  edges_few : edge_count l x ≤ edges_length l
  edges_few = edges_room l x g

  max_at_lem : (i : ℕ) → i < length net.from → get_or after.max i 0 ≡ get_or net.max i 0
  unfolding with_model
  max_at_lem i h = ap (λ (y : Buffers). get_or y.max i 0) (held_made p) ∙ written_at before.max net.max 0 i (omega (arith, edges_few, max_length g, t.long.max)) (omega (arith, from_length l x g, max_length g))

  from_at_lem : (i : ℕ) → i < length net.from → get_or after.from i 0 ≡ get_or net.from i 0
  unfolding with_model
  from_at_lem i h = ap (λ (y : Buffers). get_or y.from i 0) (held_made p) ∙ written_at before.from net.from 0 i (omega (arith, edges_few, from_length l x g, t.long.from)) h

  to_at : (i : ℕ) → i < length net.from → get_or after.to i 0 ≡ get_or net.to i 0
  unfolding with_model
  to_at i h = ap (λ (y : Buffers). get_or y.to i 0) (held_made p) ∙ written_at before.to net.to 0 i (omega (arith, edges_few, to_length g, t.long.to)) (omega (arith, from_length l x g, to_length g))

  nodes_few : node_count (sizes_of l x.day) ≤ supplies_length l
  nodes_few = omega (arith, mul-le-mul g.ready.day.choosers g.ready.day.slots, g.ready.day.choices, g.ready.day.slots)

  supply_at : (i : ℕ) → i < length net.supplies → get_or after.supplies i (pos 0) ≡ get_or net.supplies i (pos 0)
  unfolding with_model
  supply_at i h = ap (λ (y : Buffers). get_or y.supplies i (pos 0)) (held_made p) ∙ written_at before.supplies net.supplies (pos 0) i (omega (arith, supplies_length_lem l x, nodes_few, t.long.supplies)) h

  blocked_at_lem : (i : ℕ) → i < length net.blocked → get_or after.blocked i 0 ≡ get_or net.blocked i 0
  unfolding with_model
  blocked_at_lem i h = ap (λ (y : Buffers). get_or y.blocked i 0) (held_made p) ∙ written_at before.blocked net.blocked 0 i (omega (arith, groups_fit g, t.long.blocked)) h

  entry_at_lem : (i : ℕ) → i < length (flat gs) → get_or after.entries i 0 ≡ get_or (flat gs) i 0
  unfolding with_model
  entry_at_lem i h = ap (λ (y : Buffers). get_or y.entries i 0) (held_made p) ∙ written_at before.entries (flat gs) 0 i (omega (arith, groups_fit g, t.long.entries)) h

  end_at : (i : ℕ) → i < length gs → get_or after.ends i 0 ≡ group_end gs i
  unfolding with_model
  end_at i h = ap (λ (y : Buffers). get_or y.ends i 0) (held_made p) ∙ written_at before.ends (ends_from 0 gs) 0 i (omega (arith, groups_fit g, ends_length 0 gs, t.long.ends)) (omega (arith, ends_length 0 gs))

  start_at_lem : (i : ℕ) → i < length gs → start_at after.ends i ≡ group_start gs i
  unfolding start_at
  start_at_lem zero h = refl
  start_at_lem (suc i) h =
      let e : suc i - 1 ≡ i = omega arith in
      rw (ne_eqb (suc i) 0 (λ q. omega arith), e) (end_at i (omega arith))

  entries_long : length after.entries ≡ length before.entries
  unfolding with_model
  entries_long = ap (λ (y : Buffers). length y.entries) (held_made p) ∙ length_written before.entries 0 (flat gs)

  flat_long : length (flat gs) ≤ length after.entries
  flat_long = omega (arith, entries_long, groups_fit g, t.long.entries)

  -- a group's part of the buffer is the group
  part_same : (i : ℕ) → i < length gs → part_of after.entries after.ends i ≡ get_or gs i []
  unfolding part_of
  part_same i h =
      let a = group_start gs i in
      let n = group_end gs i - group_start gs i in
      let in-flat : a + n ≤ length (flat gs) = omega (arith, ends_ascend gs i h, end_within gs i h) in
      let in_buffer : a + n ≤ length after.entries = omega (arith, flat_long) in
      rw (end_at i h, start_at_lem i h)
      (ext_get_or 0 (take n (drop a after.entries)) (take n (drop a (flat gs))) (part_length a n after.entries in_buffer ∙ sym (part_length a n (flat gs) in-flat))
      (λ j c. let d : j < n = omega (arith, part_length a n after.entries in_buffer) in
      part_at a n after.entries j d ∙ entry_at_lem (a + j) (omega arith) ∙ sym (part_at a n (flat gs) j d))
      ∙ group_read gs i h)

  -- the model that the buffers say is the model
  pub number_same : buffer_number (node_count (sizes_of l x.day)) m.counts after vs ≡ values_number net vs
  unfolding buffer_number values_number some_outside some_used some_uneven some_unbalanced flow
  number_same =
      let n = length net.from in
      let p14 : any_to m.counts.edges (outside_at after.max vs) ≡ any_to n (outside_at net.max vs) = rw p.edges (fold_ext ◌||◌ false n (outside_at after.max vs) (outside_at net.max vs) (λ i h. ap (λ v. out_of_bounds (value_at vs i) v) (max_at_lem i h))) in
      let p15 : any_to m.counts.blocked (used_at after.blocked vs) ≡ any_to (length net.blocked) (used_at net.blocked vs) = rw p.blocked (fold_ext ◌||◌ false (length net.blocked) (used_at after.blocked vs) (used_at net.blocked vs) (λ i h. ap (λ e. not (eq_z (value_at vs e) (pos 0))) (blocked_at_lem i h))) in
      let p16 : any_to m.counts.groups (uneven_part vs after.entries after.ends) ≡ any_to (length gs) (uneven_at gs vs) = rw p.groups (fold_ext ◌||◌ false (length gs) (uneven_part vs after.entries after.ends) (uneven_at gs vs) (λ i h. ap (is_uneven vs) (part_same i h))) in
      let out : (v : ℕ) → flow m.counts.edges after.from vs v ≡ flow n net.from vs v = (λ v. rw p.edges (fold_ext ◌+ℤ◌ (pos 0) n (flow_at after.from vs v) (flow_at net.from vs v) (λ i h. ap (λ e. cond (eqb e v) (value_at vs i) (pos 0)) (from_at_lem i h)))) in
      let inn : (v : ℕ) → flow m.counts.edges after.to vs v ≡ flow n net.to vs v = (λ v. rw p.edges (fold_ext ◌+ℤ◌ (pos 0) n (flow_at after.to vs v) (flow_at net.to vs v) (λ i h. ap (λ e. cond (eqb e v) (value_at vs i) (pos 0)) (to_at i h)))) in
      let p17 : any_to (node_count (sizes_of l x.day)) (unbalanced_at m.counts.edges after.from after.to after.supplies vs) ≡ any_to (length net.supplies) (unbalanced_at n net.from net.to net.supplies vs)
      = rw (← supplies_length_lem l x) (fold_ext ◌||◌ false (length net.supplies) (unbalanced_at m.counts.edges after.from after.to after.supplies vs) (unbalanced_at n net.from net.to net.supplies vs)
      (λ v h. ap₂ (λ (a : ℤ) (s : ℤ). not (eq_z a s)) (ap₂ ◌-ℤ◌ (out v) (inn v)) (supply_at v h))) in
      rw (p14, p15, p16, p17)

  seats_in_lem : length (seats_of l x) ≤ length vs
  seats_in_lem = omega (arith, edges_few, long)

  pub checkable : Checkable (node_count (sizes_of l x.day)) m.counts after (length vs)
  unfolding with_model
  checkable = record {
    bounded = record {
      maxs_long = omega (arith, p.edges, from_length l x g, edges_few, t.long.max, ap (λ (y : Buffers). length y.max) (held_made p) ∙ length_written before.max 0 net.max);
      values_long = omega (arith, p.edges, from_length l x g, edges_few, long);
      light = λ e h. let i : e < length net.from = omega (arith, p.edges) in let j : e < edge_count l x = omega (arith, from_length l x g) in omega (arith, max_at_lem e i, max_below l x g e j);
    };
    blocked = record {
      long = omega (arith, p.blocked, groups_fit g, t.long.blocked, ap (λ (y : Buffers). length y.blocked) (held_made p) ∙ length_written before.blocked 0 net.blocked);
      named = λ i h. let j : i < length net.blocked = omega (arith, p.blocked) in omega (arith, blocked_at_lem i j, blocked_below g i j, seats_in_lem);
    };
    grouped = record {
      ends_long = omega (arith, p.groups, groups_fit g, t.long.ends, ap (λ (y : Buffers). length y.ends) (held_made p) ∙ length_written before.ends 0 (ends_from 0 gs));
      ascend = λ i h. let j : i < length gs = omega (arith, p.groups) in omega (arith, start_at_lem i j, end_at i j, ends_ascend gs i j);
      inside = λ i h. let j : i < length gs = omega (arith, p.groups) in omega (arith, end_at i j, end_within gs i j, flat_long);
      named = λ i e h c.
          let j : i < length gs = omega (arith, p.groups) in
          let d : e < length (flat gs) = omega (arith, end_at i j, end_within gs i j) in
          omega (arith, entry_at_lem e d, entry_below g e d, seats_in_lem);
    };
    few_nodes = omega (arith, mul-le-mul (choosers_most g.ready) (slots_most g.ready), choices_most g.ready, slots_most g.ready);
    few_edges = omega (arith, p.edges, from_length l x g, edges_few, mul-le-mul g.ready.within.choosers g.ready.within.choices, g.ready.within.choices);
    from_long = omega (arith, p.edges, from_length l x g, edges_few, t.long.from, ap (λ (y : Buffers). length y.from) (held_made p) ∙ length_written before.from 0 net.from);
    to_long = omega (arith, p.edges, from_length l x g, edges_few, t.long.to, ap (λ (y : Buffers). length y.to) (held_made p) ∙ length_written before.to 0 net.to);
    supplies_long = omega (arith, nodes_few, t.long.supplies, ap (λ (y : Buffers). length y.supplies) (held_made p) ∙ length_written before.supplies 0 net.supplies);
    from_node = λ e h. let i : e < length net.from = omega (arith, p.edges) in let j : e < edge_count l x = omega (arith, from_length l x g) in omega (arith, from_at_lem e i, from_below l x g e j);
    to_node = λ e h. let i : e < length net.from = omega (arith, p.edges) in let j : e < edge_count l x = omega (arith, from_length l x g) in omega (arith, to_at e i, to_below l x g e j);
  }

  -- ---- decoding

  choice_small : (s j : ℕ) → s < x.day.slots → j < count_of x s → list_of l x s j < 32
  choice_small s j h c = omega (arith, listed_below g s j h c, choices_most g.ready)

  len_at : (s : ℕ) → entry_at m.lists.lens s ≡ count_of x s
  len_at s = ap (λ (f : ℕ → ℕ). f s) p.lists.lens

  module _ (e : EdgeValues) (index : e.index.now ≡ m.index) (values : e.values.now ≡ vs) where
    -- values that are accepted can be decoded ..
    pub decodable : (lens : Lengths) (w : Within l) (z : number_with l x lens short ≡ 0) → values_number net vs ≡ 0 → Decoding m.sizes m.lists e
    decodable lens w z v =
        let q = listed_in g p.lists in
        let d = first_same (number_at m.index.numbers) (edge_of (seats_of l x)) p.numbers (length (seats_of l x)) vs (sizes_of l x.day) (count_of x) (list_of l x) (choosers_most g.ready) choice_small in
        rw p.sizes (record {
          choosers = choosers_most g.ready;
          slots = slots_most g.ready;
          short = q.fits;
          part = q.part;
          small = λ s j h c. omega (arith, q.choice s j h c, choices_most g.ready);
          edges = rw (index, values, p.seats) seats_in_lem;
          found = λ c s hc hs. rw (len_at s, p.lists.bytes, p.lists.stride, index, values, p.seats) (rw (d c s (omega (arith, choosers_most g.ready)) hs) (found l x lens short w z vs v c s hc hs));
        })

    -- .. and decode to the plan of the definition
    pub plan_same : decoded_plan m.sizes m.lists e ≡ plan_of l x vs
    unfolding plan_of decoded_plan
    plan_same = rw (p.sizes, p.lists.lens, p.lists.bytes, p.lists.stride, index, values, p.seats)
        (decoded_same (number_at m.index.numbers) (edge_of (seats_of l x)) p.numbers (length (seats_of l x)) vs (sizes_of l x.day) (count_of x) (list_of l x) (choosers_most g.ready) choice_small)

-- ---- a call that was not refused before values are looked at; `t` says whether the values or the plan are too short

module _ (l : Limits) (day st : List ℕ) {x : ModelInput} {b b' : LentBuffers} {m : FlowModel} {t : Bool} (w : Within l) (vs : List ℤ) (size : ℕ)
    (short : t ≡ short_values l (length vs) size) (p : EnteredLent l day st x t b b' (Ok m)) where
  -- it is entered as its definition says
  entered : EnteredWith (lent_number l day (not_state st) (enter_number l x (lengths_of (held b)) (length vs) size)) l x b b' (Ok m)
  entered = rw short at p

  zero_number : number_with l x (lengths_of (held b)) t ≡ 0
  zero_number = (input_lent l day st (number_with l x (lengths_of (held b)) t) (sym p.number)).zero

  is_good : Good l x
  is_good = good l x (lengths_of (held b)) t w zero_number

  is_lent : Lent l x (lengths_of (held b)) t
  is_lent = lent l x (lengths_of (held b)) t w zero_number

  long_enough : (edges_length l ≤ length vs) × (plan_length l ≤ size)
  long_enough =
      let q : (ltb (length vs) (edges_length l) ≡ false) × (ltb size (plan_length l) ≡ false) = or_split (sym short ∙ is_lent.rest) in
      (ltb-false _ _ q.0, ltb-false _ _ q.1)

  -- the plan has room for every seat
  pub plan_room : m.sizes.choosers * m.sizes.slots ≤ size
  plan_room = rw p.made.sizes (omega (arith, mul-le-mul is_good.ready.day.choosers is_good.ready.day.slots, long_enough.1))

  -- the values can be checked ..
  pub can_check : Checkable (node_count m.sizes) m.counts (held b') (length vs)
  can_check = rw p.made.sizes (checkable is_good is_lent p.made vs long_enough.0)

  -- .. as the model says ..
  check_says : {n : ℕ} → n ≡ buffer_number (node_count m.sizes) m.counts (held b') vs → n ≡ values_number (network_of l x) vs
  check_says h = (rw p.made.sizes at h) ∙ number_same is_good is_lent p.made vs long_enough.0

  -- .. and refused, or decoded
  pub checked_refused : {plan : List ℕ} (res : Result Counts Refusal) (r : Refusal) → IsErrAnd res (λ y. y ≡ r) → number r ≡ buffer_number (node_count m.sizes) m.counts (held b') vs → length plan ≡ size
      → ValuesChecked l day st x vs b plan b' plan res
  checked_refused res r h f e =
      let (y, u, v) = err_from_is_err_and res h in
      rw (u, v) (record { lent = rw e (values_refused entered r (check_says f)); same = same_made p.made })

  module _ (e : EdgeValues) (index : e.index.now ≡ m.index) (values : e.values.now ≡ vs) (passed : 0 ≡ buffer_number (node_count m.sizes) m.counts (held b') vs) where
    pub can_decode : Decoding m.sizes m.lists e
    can_decode = decodable is_good is_lent p.made vs long_enough.0 e index values (lengths_of (held b)) w zero_number (sym (check_says passed))

    pub checked_done : {plan plan' : List ℕ} → plan' ≡ written plan 0 (decoded_plan m.sizes m.lists e) → length plan ≡ size → ValuesChecked l day st x vs b plan b' plan' (Ok m.counts)
    checked_done {plan = plan} h q = record {
      lent = rw q (values_done entered (check_says passed) (h ∙ ap (λ d. written plan 0 d) (plan_same is_good is_lent p.made vs long_enough.0 e index values)));
      same = same_made p.made;
    }
