-- The open seats of a model by chooser and choice, the scheduled choices, and the edges that they are. Assumes nothing.
use Prim.Native.Nat.{ℕ, zero, suc, ◌+◌, ◌-◌, ◌*◌, ◌≤◌, ◌<◌}
use Rattle.std.specs.Prelude.{◌≡◌, refl, Bool, true, false, cond, ◌&&◌, ◌≢◌, eqb, ltb, ℤ, get_or}
use Rattle.std.proofs.Math.Path.{sym, ap, ap₂}
use Rattle.std.proofs.Common.{◌∙◌, add-zero, mul-le-mul, get_or-append-add}
use Rattle.std.proofs.Math.Bool.{not}
use mathlib.Core.List.{List, [], ◌∷◌, ◌++◌, map, append-nil}
use native.Mathlib.Omega.{arith}
use Rattle.std.specs.Int.Signed.{mag}
use Rattle.std.proofs.Math.ListN.{length, length-append, length-map, get_or-append}
use Rattle.std.proofs.lemmas.List.{get_or_at}
use borrow.Author.Tests.{eqb-false, eq-eqb, ne_eqb, lt-ltb, le-ltb, ltb-true, not-true}
use Rattle.counting.specs.Fold.{fold_to, gate, sum_to, join_to}
use Rattle.counting.specs.HoldsLaws.{Holds, holds_sum}
use Rattle.counting.specs.Sums.{sum_zeros, sum_swap, sum_gate, sum_only, sum_pick, sum_most, zeros_of_sum, count_le}
use Rattle.counting.specs.Tests.{bool_cases, eq_cases, lt_cases, eqb_sym, and_split, never}
use Rattle.input_data.specs.Day.{min_at, max_at}
use Rattle.input_data.specs.Lengths.{edges_length}
use Rattle.input_data.specs.declared.Limits.{Limits}
use Rattle.scheduling.specs.Schedule.{entry_at}
use Rattle.slot_lists.specs.HeldLaws.{member}
use Rattle.blocks.specs.Blocks.{cell}
use Rattle.schedule_state.specs.Good.{choices_most, choosers_most}
use Rattle.mip_flow_static_data.specs.Nodes.{choice_node}
use Rattle.mip_flow.specs.Edges.{Seat, seat, is_open, listed_seat, slot_seats, slot_seats_at, chooser_seats, open_seats, place_at, scheduled, seat_from, seat_to, seat_max, choice_to, choice_max}
use Rattle.mip_flow.specs.Index.{no_edge, seat_cell, number_from, edge_of}
use Rattle.edge_values.specs.Values.{Network, value_at}
use Rattle.plans.specs.Model.{ModelInput, sizes_of, entries_of, count_of, list_of, offer_of, seats_of, choices_of, network_of}
use Rattle.plans.specs.Read.{read}
use Rattle.plans.specs.Good.{Good}
use Rattle.plans.specs.Pairs.{gate_on, gate_off, gate_nothing, gate_and, pair_eq, sum_ext, sum_ext2, sum_split, Pairs, value, pairs_in, pairs_has, pairs_same, value_at_lem, value_off, total, total_join, total_only, total_at}
use Rattle.plans.specs.Flow.{Frame, present, from_of, to_of, cap_of, Edges}

-- ---- lists

module _ {A B : Type 0} where
  pub map_at : (f : A → B) (l : List A) (d : A) (e : B) (i : ℕ) → i < length l → get_or (map f l) i e ≡ f (get_or l i d)
  map_at f [] d e i h = absurd (omega arith)
  map_at f (a ∷ l) d e zero h = refl
  map_at f (a ∷ l) d e (suc i) h = map_at f l d e i (omega arith)

-- one mapped list after another
pub maps_at : {A B X : Type 0} (f : A → X) (g : B → X) (s : List A) (t : List B) (a : A) (b : B) (e : X) (i : ℕ) → i < length s + length t
    → get_or (map f s ++ map g t) i e ≡ cond (ltb i (length s)) (f (get_or s i a)) (g (get_or t (i - length s) b))
maps_at f g s t a b e i h = lt_cases i (length s)
    (λ l q. let m : i < length (map f s) = omega (arith, length-map s f) in rw q (get_or-append (map f s) (map g t) e i m ∙ map_at f s a e i l))
    (λ l q. let m : length (map f s) + (i - length s) ≡ i = omega (arith, length-map s f) in
    rw q (ap (λ (j : ℕ). get_or (map f s ++ map g t) j e) (sym m) ∙ get_or-append-add (map f s) (map g t) (i - length s) e ∙ map_at g t b e (i - length s) (omega arith)))

pub maps_length : {A B X : Type 0} (f : A → X) (g : B → X) (s : List A) (t : List B) → length (map f s ++ map g t) ≡ length s + length t
maps_length f g s t = length-append (map f s) (map g t) ∙ ap₂ ◌+◌ (length-map s f) (length-map t g)

total_one : {A : Type 0} (l : List A) → total (λ (a : A). 1) l ≡ length l
unfolding total
total_one [] = refl
total_one (a ∷ l) = omega (arith, total_one l)

-- ---- numbers of cells

number_none : (n : ℕ) (qs : List ℕ) (p d : ℕ) → ((i : ℕ) → i < length qs → get_or qs i 0 ≢ p) → number_from n qs p d ≡ d
unfolding number_from
number_none n [] p d h = refl
number_none n (q ∷ qs) p d h = rw (ne_eqb q p (h 0 (omega arith))) (number_none (suc n) qs p d (λ i l. h (suc i) (omega arith)))

number_at : (n : ℕ) (qs : List ℕ) (p d i : ℕ) → i < length qs → get_or qs i 0 ≡ p → ((j : ℕ) → j < length qs → get_or qs j 0 ≡ p → j ≡ i) → number_from n qs p d ≡ n + i
unfolding number_from
number_at n [] p d i h e u = absurd (omega arith)
number_at n (q ∷ qs) p d zero h e u = rw (eq-eqb q p e) (number_none (suc n) qs p n (λ i l z. omega (arith, u (suc i) (omega arith) z)) ∙ sym (add-zero n))
number_at n (q ∷ qs) p d (suc i) h e u = number_at (suc n) qs p (cond (eqb q p) n d) i (omega arith) e (λ j l z. omega (arith, u (suc j) (omega arith) z)) ∙ omega arith

pub cell_same : (c k a b : ℕ) → k < 32 → b < 32 → cell c k ≡ cell a b → (c ≡ a) × (k ≡ b)
cell_same c k a b h g e = lt_cases c a
    (λ l z. absurd (omega arith))
    (λ l z. lt_cases a c (λ m y. absurd (omega arith)) (λ m y. (omega arith, omega arith)))

-- ---- the scheduled choices, upward

module _ (sch : List ℕ) where
  places_below : (n i : ℕ) → i < length (join_to n (place_at sch)) → get_or (join_to n (place_at sch)) i 0 < n
  unfolding fold_to
  places_below zero i h = absurd (omega arith)
  places_below (suc n) i h = eq_cases (entry_at sch n) 0
      (λ p t. rw (t, append-nil) (omega (arith, places_below n i (rw (t, append-nil) at h))))
      (λ p t. rw t (lt_cases i (length (join_to n (place_at sch)))
      (λ b u. rw (get_or-append (join_to n (place_at sch)) (n ∷ []) 0 i b) (omega (arith, places_below n i b)))
      (λ b u.
      let k : i < length (join_to n (place_at sch) ++ (n ∷ [])) = rw t at h in
      let m : length (join_to n (place_at sch)) ≡ i = omega (arith, length-append (join_to n (place_at sch)) (n ∷ [])) in
      rw (get_or_at (join_to n (place_at sch)) n [] 0 i m) (omega arith))))

  places_upward : (n i j : ℕ) → i < j → j < length (join_to n (place_at sch)) → get_or (join_to n (place_at sch)) i 0 < get_or (join_to n (place_at sch)) j 0
  unfolding fold_to
  places_upward zero i j l h = absurd (omega arith)
  places_upward (suc n) i j l h = eq_cases (entry_at sch n) 0
      (λ p t. rw (t, append-nil) (places_upward n i j l (rw (t, append-nil) at h)))
      (λ p t.
      let k : j < length (join_to n (place_at sch) ++ (n ∷ [])) = rw t at h in
      let q = length-append (join_to n (place_at sch)) (n ∷ []) in
      rw t (rw (get_or-append (join_to n (place_at sch)) (n ∷ []) 0 i (omega arith)) (lt_cases j (length (join_to n (place_at sch)))
      (λ b u. rw (get_or-append (join_to n (place_at sch)) (n ∷ []) 0 j b) (places_upward n i j l b))
      (λ b u. rw (get_or_at (join_to n (place_at sch)) n [] 0 j (omega arith)) (places_below n i (omega arith))))))

abbrev no_seat : Seat
no_seat = seat 0 0 0

-- chooser and choice of the seat at place i
unfoldable pub chooser_at : List Seat → ℕ → ℕ
chooser_at seats i = (get_or seats i no_seat).chooser

unfoldable pub choice_at : List Seat → ℕ → ℕ
choice_at seats i = (get_or seats i no_seat).choice

unfoldable pub slot_at : List Seat → ℕ → ℕ
slot_at seats i = (get_or seats i no_seat).slot

-- ---- the model's frame

abbrev pub frame_of : (l : Limits) (x : ModelInput) → Good l x → Frame
frame_of l x g = record {
  choosers = x.day.choosers;
  slots = x.day.slots;
  choices = x.day.choices;
  entry = entry_at (entries_of x);
  least = min_at x.day;
  most = max_at x.day;
  allowed = is_open (offer_of l x);
  fits = g.fits;
}

-- chooser a may have choice k, which has a slot
unfoldable pub is_seat : Limits → ModelInput → ℕ → ℕ → Bool
is_seat l x a k = ltb a x.day.choosers && (ltb k x.day.choices && (not (eqb (entry_at (entries_of x) k) 0) && is_open (offer_of l x) a k))

-- row and choice of the edge at place e: the seats' edges, then the choices'
unfoldable pub row_at : Limits → ModelInput → ℕ → ℕ
row_at l x e = cond (ltb e (length (seats_of l x))) (chooser_at (seats_of l x) e) x.day.choosers

unfoldable pub item_at : Limits → ModelInput → ℕ → ℕ
item_at l x e = cond (ltb e (length (seats_of l x))) (choice_at (seats_of l x) e) (get_or (choices_of x) (e - length (seats_of l x)) 0)

abbrev pub edge_count : Limits → ModelInput → ℕ
edge_count l x = length (seats_of l x) + length (choices_of x)

gate_turn : (l m p q : Bool) (x : ℕ) → gate l (gate m (gate (p && q) x)) ≡ gate p (gate q (gate l (gate m x)))
gate_turn l m true true x = refl
gate_turn l m true false x = ap (λ (z : ℕ). gate l z) (gate_nothing m) ∙ gate_nothing l
gate_turn l m false q x = ap (λ (z : ℕ). gate l z) (gate_nothing m) ∙ gate_nothing l

-- an entry names a slot
entry_slot : (e s : ℕ) → e ≢ 0 → eqb e (suc s) ≡ eqb s (e - 1)
entry_slot zero s d = absurd (d refl)
entry_slot (suc e) s d = eq_cases s e
    (λ q u. rw (eq-eqb (suc e) (suc s) (omega arith)) (sym (eq-eqb s (suc e - 1) (omega arith))))
    (λ q u. rw (ne_eqb (suc e) (suc s) (λ z. q (omega arith))) (sym (ne_eqb s (suc e - 1) (λ z. q (omega arith)))))

module _ (l : Limits) (x : ModelInput) (g : Good l x) where
  abbrev C : ℕ
  C = x.day.choosers

  abbrev S : ℕ
  S = x.day.slots

  abbrev K : ℕ
  K = x.day.choices

  abbrev E : ℕ → ℕ
  E = entry_at (entries_of x)

  abbrev may : ℕ → ℕ → Bool
  may = is_open (offer_of l x)

  -- ---- the scheduled choices

  choices_total : (f : ℕ → ℕ) → total f (choices_of x) ≡ sum_to K (λ k. gate (not (eqb (E k) 0)) (f k))
  unfolding choices_of scheduled
  choices_total f = total_join f K (place_at (entries_of x)) ∙ sum_ext K (λ k. total f (place_at (entries_of x) k)) (λ k. gate (not (eqb (E k) 0)) (f k)) (λ k h. total_only f (not (eqb (E k) 0)) k)

  -- each scheduled choice is listed once, and nothing else
  pub choices_hold : Holds (length (choices_of x)) (λ i. get_or (choices_of x) i 0) (λ k. ltb k K && not (eqb (E k) 0))
  choices_hold = record {
    once = λ b.
        sym (total_at (λ k. gate (eqb k b) 1) 0 (choices_of x))
        ∙ choices_total (λ k. gate (eqb k b) 1)
        ∙ sum_ext K (λ k. gate (not (eqb (E k) 0)) (gate (eqb k b) 1)) (λ k. gate (eqb k b) (gate (not (eqb (E k) 0)) 1)) (λ k h. gate_turn (not (eqb (E k) 0)) true true (eqb k b) 1)
        ∙ sum_pick K (λ k. gate (not (eqb (E k) 0)) 1) b
        ∙ sym (gate_and (ltb b K) (not (eqb (E b) 0)) 1);
  }

  pub choices_few : length (choices_of x) ≤ K
  choices_few = omega (arith, total_one (choices_of x), choices_total (λ k. 1), count_le K (λ k. not (eqb (E k) 0)))

  -- ---- the open seats

  slot_total : (f : Seat → ℕ) (c s : ℕ) → s < S → total f (slot_seats_at (offer_of l x) (count_of x) (list_of l x) c s) ≡ sum_to K (λ k. gate (eqb (E k) (suc s)) (gate (may c k) (f (seat c s k))))
  unfolding slot_seats
  slot_total f c s h =
      total_join f (count_of x s) (listed_seat (offer_of l x) c s (list_of l x s))
      ∙ sum_ext (count_of x s) (λ j. total f (listed_seat (offer_of l x) c s (list_of l x s) j)) (λ j. gate (may c (list_of l x s j)) (f (seat c s (list_of l x s j)))) (λ j b. total_only f (may c (list_of l x s j)) (seat c s (list_of l x s j)))
      ∙ holds_sum (g.lists.at s h) K (λ k e. let r : (ltb k K ≡ true) × (eqb (E k) (suc s) ≡ true) = and_split e in ltb-true k K r.0) (λ k. gate (may c k) (f (seat c s k)))
      ∙ sum_ext K (λ k. gate (member E K s k) (gate (may c k) (f (seat c s k)))) (λ k. gate (eqb (E k) (suc s)) (gate (may c k) (f (seat c s k)))) (λ k b. rw (lt-ltb k K b))

  -- the one slot that a choice has
  own_slot : (h : ℕ → ℕ) (k : ℕ) → k < K → sum_to S (λ s. gate (eqb (E k) (suc s)) (h s)) ≡ gate (not (eqb (E k) 0)) (h (E k - 1))
  own_slot h k b = eq_cases (E k) 0
      (λ p t. rw t (sum_zeros S (λ s. gate (eqb (E k) (suc s)) (h s)) (λ s j. gate_off (h s) (ne_eqb (E k) (suc s) (λ q. omega arith)))))
      (λ p t. rw t (sum_ext S (λ s. gate (eqb (E k) (suc s)) (h s)) (λ s. gate (eqb s (E k - 1)) (h s)) (λ s j. ap (λ (u : Bool). gate u (h s)) (entry_slot (E k) s p))
      ∙ sum_only S h (E k - 1) (omega (arith, g.fits k b))))

  chooser_total : (f : Seat → ℕ) (c : ℕ) → total f (chooser_seats (offer_of l x) (count_of x) (list_of l x) c) ≡ sum_to K (λ k. gate (not (eqb (E k) 0)) (gate (may c k) (f (seat c (E k - 1) k))))
  unfolding chooser_seats
  chooser_total f c =
      total_join f S (slot_seats_at (offer_of l x) (count_of x) (list_of l x) c)
      ∙ sum_ext S (λ s. total f (slot_seats_at (offer_of l x) (count_of x) (list_of l x) c s)) (λ s. sum_to K (λ k. gate (eqb (E k) (suc s)) (gate (may c k) (f (seat c s k))))) (λ s h. slot_total f c s h)
      ∙ sum_swap S K (λ s k. gate (eqb (E k) (suc s)) (gate (may c k) (f (seat c s k))))
      ∙ sum_ext K (λ k. sum_to S (λ s. gate (eqb (E k) (suc s)) (gate (may c k) (f (seat c s k))))) (λ k. gate (not (eqb (E k) 0)) (gate (may c k) (f (seat c (E k - 1) k)))) (λ k b. own_slot (λ s. gate (may c k) (f (seat c s k))) k b)

  -- any sum over the open seats
  pub seats_total : (f : Seat → ℕ) → total f (seats_of l x) ≡ sum_to C (λ c. sum_to K (λ k. gate (not (eqb (E k) 0)) (gate (may c k) (f (seat c (E k - 1) k)))))
  unfolding seats_of open_seats
  seats_total f =
      total_join f C (chooser_seats (offer_of l x) (count_of x) (list_of l x))
      ∙ sum_ext C (λ c. total f (chooser_seats (offer_of l x) (count_of x) (list_of l x) c)) (λ c. sum_to K (λ k. gate (not (eqb (E k) 0)) (gate (may c k) (f (seat c (E k - 1) k))))) (λ c h. chooser_total f c)

  seat_gate : (a b : ℕ) → gate (ltb a C) (gate (ltb b K) (gate (not (eqb (E b) 0)) (gate (may a b) 1))) ≡ gate (is_seat l x a b) 1
  unfolding is_seat
  seat_gate a b = rw (gate_and, gate_and, gate_and)

  -- each open seat is listed once, and nothing else
  pub seats_pairs : Pairs (length (seats_of l x)) (chooser_at (seats_of l x)) (choice_at (seats_of l x)) (is_seat l x)
  unfolding chooser_at choice_at
  seats_pairs = record {
    once = λ a b.
        sym (total_at (λ (q : Seat). gate (pair_eq q.chooser q.choice a b) 1) no_seat (seats_of l x))
        ∙ seats_total (λ (q : Seat). gate (pair_eq q.chooser q.choice a b) 1)
        ∙ sum_ext2 C K (λ c k. gate (not (eqb (E k) 0)) (gate (may c k) (gate (pair_eq c k a b) 1))) (λ c k. gate (eqb c a) (gate (eqb k b) (gate (not (eqb (E k) 0)) (gate (may c k) 1))))
        (λ c k h i. gate_turn (not (eqb (E k) 0)) (may c k) (eqb c a) (eqb k b) 1)
        ∙ sum_ext C (λ c. sum_to K (λ k. gate (eqb c a) (gate (eqb k b) (gate (not (eqb (E k) 0)) (gate (may c k) 1))))) (λ c. gate (eqb c a) (gate (ltb b K) (gate (not (eqb (E b) 0)) (gate (may c b) 1))))
        (λ c h. sum_gate K (eqb c a) (λ k. gate (eqb k b) (gate (not (eqb (E k) 0)) (gate (may c k) 1))) ∙ ap (λ (z : ℕ). gate (eqb c a) z) (sum_pick K (λ k. gate (not (eqb (E k) 0)) (gate (may c k) 1)) b))
        ∙ sum_pick C (λ c. gate (ltb b K) (gate (not (eqb (E b) 0)) (gate (may c b) 1))) a
        ∙ seat_gate a b;
  }

  -- a seat's slot is that of its choice
  pub seats_slot : (i : ℕ) → i < length (seats_of l x) → slot_at (seats_of l x) i ≡ E (choice_at (seats_of l x) i) - 1
  unfolding slot_at choice_at
  seats_slot i h = eq_cases (get_or (seats_of l x) i no_seat).slot (E (get_or (seats_of l x) i no_seat).choice - 1) (λ p t. p) (λ p t. absurd (omega (
    arith,
    zeros_of_sum (length (seats_of l x)) (λ j. astray (get_or (seats_of l x) j no_seat)) (sym (total_at astray no_seat (seats_of l x)) ∙ none) i h,
    gate_on {b = not (eqb (get_or (seats_of l x) i no_seat).slot (E (get_or (seats_of l x) i no_seat).choice - 1))} 1 (ap not t),
  )))
    where
      astray : Seat → ℕ
      astray q = gate (not (eqb q.slot (E q.choice - 1))) 1

      none : total astray (seats_of l x) ≡ 0
      none = seats_total astray ∙ sum_zeros C (λ c. sum_to K (λ k. gate (not (eqb (E k) 0)) (gate (may c k) (astray (seat c (E k - 1) k)))))
          (λ c h. sum_zeros K (λ k. gate (not (eqb (E k) 0)) (gate (may c k) (astray (seat c (E k - 1) k))))
          (λ k j. rw (eq-eqb (E k - 1) (E k - 1) refl) (ap (λ (z : ℕ). gate (not (eqb (E k) 0)) z) (gate_nothing (may c k)) ∙ gate_nothing (not (eqb (E k) 0)))))

  pub record IsSeat (c k : ℕ) : Type 0 where
    pub chooser : c < C
    pub choice : k < K
    pub placed : E k ≢ 0
    pub open_seat : may c k ≡ true

  pub seat_true : (c k : ℕ) → is_seat l x c k ≡ true → IsSeat c k
  unfolding is_seat
  seat_true c k e =
      let p : (ltb c C ≡ true) × ((ltb k K && (not (eqb (E k) 0) && may c k)) ≡ true) = and_split e in
      let q : (ltb k K ≡ true) × ((not (eqb (E k) 0) && may c k) ≡ true) = and_split p.1 in
      let r : (not (eqb (E k) 0) ≡ true) × (may c k ≡ true) = and_split q.1 in
      record { chooser = ltb-true c C p.0; choice = ltb-true k K q.0; placed = eqb-false (E k) 0 (not-true _ r.0); open_seat = r.1 }

  pub seat_is : (c k : ℕ) → c < C → k < K → E k ≢ 0 → may c k ≡ true → is_seat l x c k ≡ true
  unfolding is_seat
  seat_is c k h i j e = rw (lt-ltb c C h, lt-ltb k K i, ne_eqb (E k) 0 j) e

  pub seats_few : length (seats_of l x) ≤ C * K
  seats_few = omega (
    arith,
    total_one (seats_of l x),
    seats_total (λ (q : Seat). 1),
    sum_most C K (λ c. sum_to K (λ k. gate (not (eqb (E k) 0)) (gate (may c k) 1)))
        (λ c h. omega (arith, sum_most K 1 (λ k. gate (not (eqb (E k) 0)) (gate (may c k) 1)) (λ k i. most_one (not (eqb (E k) 0)) (may c k)))),
  )
    where
      most_one : (a b : Bool) → gate a (gate b 1) ≤ 1
      most_one true true = omega arith
      most_one true false = omega arith
      most_one false b = omega arith

  -- .. so that no edge has the number for none
  pub seats_below : length (seats_of l x) ≤ no_edge
  seats_below =
      let r = choosers_most g.ready in
      let s = choices_most g.ready in
      omega (arith, seats_few, mul-le-mul r s)

  -- ---- the number of a chooser's edge to a choice

  narrow : (i : ℕ) → i < length (seats_of l x) → choice_at (seats_of l x) i < 32
  narrow i h = omega (arith, (seat_true (chooser_at (seats_of l x) i) (choice_at (seats_of l x) i) (pairs_in seats_pairs i h)).choice, choices_most g.ready)

  cell_at : (i : ℕ) → i < length (seats_of l x) → get_or (map seat_cell (seats_of l x)) i 0 ≡ cell (chooser_at (seats_of l x) i) (choice_at (seats_of l x) i)
  unfolding chooser_at choice_at
  cell_at i h = map_at seat_cell (seats_of l x) no_seat 0 i h

  -- it is the seat's place ..
  pub seat_edge : (i : ℕ) → i < length (seats_of l x) → edge_of (seats_of l x) (chooser_at (seats_of l x) i) (choice_at (seats_of l x) i) ≡ i
  unfolding edge_of
  seat_edge i h =
      let n : length (map seat_cell (seats_of l x)) ≡ length (seats_of l x) = length-map (seats_of l x) seat_cell in
      number_at 0 (map seat_cell (seats_of l x)) (cell (chooser_at (seats_of l x) i) (choice_at (seats_of l x) i)) no_edge i (omega arith) (cell_at i h)
      (λ j b e.
      let m : j < length (seats_of l x) = omega arith in
      let q = cell_same (chooser_at (seats_of l x) j) (choice_at (seats_of l x) j) (chooser_at (seats_of l x) i) (choice_at (seats_of l x) i) (narrow j m) (narrow i h) (sym (cell_at j m) ∙ e) in
      pairs_same seats_pairs j i m h q.0 q.1)
      ∙ omega arith

  -- .. and none where there is no such seat
  pub no_edge_lem : (c k : ℕ) → k < 32 → is_seat l x c k ≡ false → edge_of (seats_of l x) c k ≡ no_edge
  unfolding edge_of
  no_edge_lem c k h e =
      number_none 0 (map seat_cell (seats_of l x)) (cell c k) no_edge (λ i b t.
      let m : i < length (seats_of l x) = omega (arith, length-map (seats_of l x) seat_cell) in
      let q = cell_same (chooser_at (seats_of l x) i) (choice_at (seats_of l x) i) c k (narrow i m) h (sym (cell_at i m) ∙ t) in
      never (sym (pairs_in seats_pairs i m) ∙ ap₂ (is_seat l x) q.0 q.1 ∙ e))

  -- so it is below the number of seats for the open seats alone
  pub has_edge : (c k : ℕ) → k < 32 → ltb (edge_of (seats_of l x) c k) (length (seats_of l x)) ≡ is_seat l x c k
  has_edge c k h = bool_cases (is_seat l x c k)
      (λ e. let r = pairs_has seats_pairs c k e in
      let n : edge_of (seats_of l x) c k ≡ r.0 = ap₂ (edge_of (seats_of l x)) (sym r.2) (sym r.3) ∙ seat_edge r.0 r.1 in
      lt-ltb (edge_of (seats_of l x) c k) (length (seats_of l x)) (omega (arith, r.1)) ∙ sym e)
      (λ e. le-ltb (edge_of (seats_of l x) c k) (length (seats_of l x)) (omega (arith, no_edge_lem c k h e, seats_below)) ∙ sym e)

  -- ---- all edges

  pub seat_present : (a b : ℕ) → a < C → is_seat l x a b ≡ present (frame_of l x g) a b
  unfolding is_seat present
  seat_present a b h = rw (lt-ltb a C h)

  row_seat : (i : ℕ) → i < length (seats_of l x) → row_at l x i ≡ chooser_at (seats_of l x) i
  unfolding row_at
  row_seat i h = rw (lt-ltb i (length (seats_of l x)) h)

  item_seat : (i : ℕ) → i < length (seats_of l x) → item_at l x i ≡ choice_at (seats_of l x) i
  unfolding item_at
  item_seat i h = rw (lt-ltb i (length (seats_of l x)) h)

  row_choice : (i : ℕ) → length (seats_of l x) ≤ i → row_at l x i ≡ C
  unfolding row_at
  row_choice i h = rw (le-ltb i (length (seats_of l x)) h)

  item_choice : (i : ℕ) → length (seats_of l x) ≤ i → item_at l x i ≡ get_or (choices_of x) (i - length (seats_of l x)) 0
  unfolding item_at
  item_choice i h = rw (le-ltb i (length (seats_of l x)) h)

  seats_part : (a b : ℕ) → sum_to (length (seats_of l x)) (λ i. gate (pair_eq (row_at l x i) (item_at l x i) a b) 1) ≡ gate (is_seat l x a b) 1
  seats_part a b =
      sum_ext (length (seats_of l x)) (λ i. gate (pair_eq (row_at l x i) (item_at l x i) a b) 1) (λ i. gate (pair_eq (chooser_at (seats_of l x) i) (choice_at (seats_of l x) i) a b) 1)
      (λ i h. ap₂ (λ (p q : ℕ). gate (pair_eq p q a b) 1) (row_seat i h) (item_seat i h))
      ∙ seats_pairs.once a b

  choices_part : (a b : ℕ) → sum_to (length (choices_of x)) (λ i. gate (pair_eq (row_at l x (length (seats_of l x) + i)) (item_at l x (length (seats_of l x) + i)) a b) 1) ≡ gate (eqb C a) (gate (ltb b K && not (eqb (E b) 0)) 1)
  choices_part a b =
      sum_ext (length (choices_of x)) (λ i. gate (pair_eq (row_at l x (length (seats_of l x) + i)) (item_at l x (length (seats_of l x) + i)) a b) 1) (λ i. gate (eqb C a) (gate (eqb (get_or (choices_of x) i 0) b) 1))
      (λ i h.
      let n : length (seats_of l x) + i - length (seats_of l x) ≡ i = omega arith in
      ap₂ (λ (p q : ℕ). gate (pair_eq p q a b) 1) (row_choice (length (seats_of l x) + i) (omega arith)) (item_choice (length (seats_of l x) + i) (omega arith) ∙ ap (λ (j : ℕ). get_or (choices_of x) j 0) n)
      ∙ gate_and (eqb C a) (eqb (get_or (choices_of x) i 0) b) 1)
      ∙ sum_gate (length (choices_of x)) (eqb C a) (λ i. gate (eqb (get_or (choices_of x) i 0) b) 1)
      ∙ ap (λ (z : ℕ). gate (eqb C a) z) (choices_hold.once b)

  last_row : (p q r : Bool) → gate r (gate (p && q) 1) ≡ gate (p && (q && r)) 1
  last_row true true r = refl
  last_row true false r = gate_nothing r
  last_row false q r = gate_nothing r

  both : (a b : ℕ) → gate (is_seat l x a b) 1 + gate (eqb C a) (gate (ltb b K && not (eqb (E b) 0)) 1) ≡ gate (present (frame_of l x g) a b) 1
  both a b = lt_cases a C
      (λ h t. rw (ne_eqb C a (λ e. omega arith)) (omega (arith, ap (λ (u : Bool). gate u 1) (seat_present a b h))))
      (λ h t. omega (arith, gate_off 1 (above h), last_row (ltb b K) (not (eqb (E b) 0)) (eqb C a), ap (λ (u : Bool). gate u 1) (lower h)))
    where
      above : C ≤ a → is_seat l x a b ≡ false
      above h = bool_cases (is_seat l x a b) (λ e. absurd (omega (arith, (seat_true a b e).chooser))) (λ e. e)

      lower : C ≤ a → present (frame_of l x g) a b ≡ (ltb b K && (not (eqb (E b) 0) && eqb C a))
      lower h = unfold present in rw (le-ltb a C h, eqb_sym a C)

  edges_pairs : Pairs (edge_count l x) (row_at l x) (item_at l x) (present (frame_of l x g))
  edges_pairs = record {
    once = λ a b.
        sum_split (length (seats_of l x)) (length (choices_of x)) (λ i. gate (pair_eq (row_at l x i) (item_at l x i) a b) 1)
        ∙ ap₂ ◌+◌ (seats_part a b) (choices_part a b)
        ∙ both a b;
  }

  -- ---- the nodes at their ends, and their bounds

  abbrev net : Network
  net = network_of l x

  pub from_length : length (network_of l x).from ≡ edge_count l x
  unfolding network_of
  from_length = maps_length (seat_from (sizes_of l x.day)) (choice_node (sizes_of l x.day)) (seats_of l x) (choices_of x)

  at_seat : (i : ℕ) → i < length (seats_of l x) → chooser_at (seats_of l x) i < C
  at_seat i h = (seat_true (chooser_at (seats_of l x) i) (choice_at (seats_of l x) i) (pairs_in seats_pairs i h)).chooser

  from_is : (i : ℕ) → i < edge_count l x → get_or (network_of l x).from i 0 ≡ from_of (frame_of l x g) (row_at l x i) (item_at l x i)
  unfolding network_of from_of chooser_at choice_at slot_at
  from_is i h =
      maps_at (seat_from (sizes_of l x.day)) (choice_node (sizes_of l x.day)) (seats_of l x) (choices_of x) no_seat 0 0 i h
      ∙ lt_cases i (length (seats_of l x))
      (λ b t. rw (t, row_seat i b, item_seat i b, lt-ltb (chooser_at (seats_of l x) i) C (at_seat i b)) (ap (λ (s : ℕ). chooser_at (seats_of l x) i * S + s) (seats_slot i b)))
      (λ b t. rw (t, row_choice i b, item_choice i b, le-ltb C C (omega arith)))

  to_is : (i : ℕ) → i < edge_count l x → get_or (network_of l x).to i 0 ≡ to_of (frame_of l x g) (row_at l x i) (item_at l x i)
  unfolding network_of to_of chooser_at choice_at
  to_is i h =
      maps_at (seat_to (sizes_of l x.day)) (choice_to (sizes_of l x.day) (entries_of x)) (seats_of l x) (choices_of x) no_seat 0 0 i h
      ∙ lt_cases i (length (seats_of l x))
      (λ b t. rw (t, row_seat i b, item_seat i b, lt-ltb (chooser_at (seats_of l x) i) C (at_seat i b)))
      (λ b t. rw (t, row_choice i b, item_choice i b, le-ltb C C (omega arith)))

  cap_is : (i : ℕ) → i < edge_count l x → get_or (network_of l x).max i 0 ≡ cap_of (frame_of l x g) (row_at l x i) (item_at l x i)
  unfolding network_of cap_of chooser_at choice_at
  cap_is i h =
      maps_at seat_max (choice_max x.day.mins x.day.maxs) (seats_of l x) (choices_of x) no_seat 0 0 i h
      ∙ lt_cases i (length (seats_of l x))
      (λ b t. rw (t, row_seat i b, item_seat i b, lt-ltb (chooser_at (seats_of l x) i) C (at_seat i b)))
      (λ b t. rw (t, row_choice i b, item_choice i b, le-ltb C C (omega arith)))

  -- the edges of the network are those of the frame
  pub model_edges : Edges (frame_of l x g) (edge_count l x) (row_at l x) (item_at l x) (λ i. get_or (network_of l x).from i 0) (λ i. get_or (network_of l x).to i 0) (λ i. get_or (network_of l x).max i 0)
  model_edges = record { pairs = edges_pairs; from_is = from_is; to_is = to_is; cap_is = cap_is }

  -- the buffers have room for them
  pub edges_room : edge_count l x ≤ edges_length l
  edges_room =
      let p = g.ready.day.choosers in
      let q = g.ready.day.choices in
      omega (arith, seats_few, choices_few, mul-le-mul p q)

  -- ---- values by chooser and choice

  -- what is read is what stands at the pair
  pub read_value : (vs : List ℤ) (c k : ℕ) → c < C → k < 32 → read (seats_of l x) vs c k ≡ value (edge_count l x) (row_at l x) (item_at l x) (λ i. mag (value_at vs i)) c k
  unfolding read
  read_value vs c k h i = bool_cases (is_seat l x c k)
      (λ e. let r = pairs_has seats_pairs c k e in
      let n : edge_of (seats_of l x) c k ≡ r.0 = ap₂ (edge_of (seats_of l x)) (sym r.2) (sym r.3) ∙ seat_edge r.0 r.1 in
      gate_on (mag (value_at vs (edge_of (seats_of l x) c k))) (has_edge c k i ∙ e)
      ∙ ap (λ (j : ℕ). mag (value_at vs j)) n
      ∙ sym (value_at_lem edges_pairs (λ j. mag (value_at vs j)) r.0 (omega (arith, r.1)))
      ∙ ap₂ (value (edge_count l x) (row_at l x) (item_at l x) (λ j. mag (value_at vs j))) (row_seat r.0 r.1 ∙ r.2) (item_seat r.0 r.1 ∙ r.3))
      (λ e. gate_off (mag (value_at vs (edge_of (seats_of l x) c k))) (has_edge c k i ∙ e)
      ∙ sym (value_off edges_pairs (λ j. mag (value_at vs j)) c k (sym (seat_present c k h) ∙ e)))
