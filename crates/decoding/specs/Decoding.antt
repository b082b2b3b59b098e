-- What decoding asks, and the laws of its walks. Definitions and their laws.
use Rattle.std.specs.Prelude.{ℕ, ◌+◌, ◌*◌, ◌<◌, ◌≤◌, ◌≡◌, Bool, true, false, List, [], ◌++◌, length, get_or, take, drop}
use Rattle.std.proofs.Common.{sym, ◌∙◌, arith}
use Rattle.std.proofs.Math.Path.{ap}
use Rattle.counting.specs.Fold.{join_to}
use Rattle.counting.specs.FoldLaws.{fold_none, fold_more, fold_ext}
use Rattle.counting.specs.Lists.{length_table, length_join}
use Rattle.counting.specs.Search.{first_to}
use Rattle.counting.specs.SearchLaws.{first_at, first_passes, first_ext}
use Rattle.counting.specs.Tests.{lt_cases, eq_cases, never}
use Rattle.counting.specs.Sums.{sum_const}
use Rattle.counting.specs.Written.{written}
use Rattle.counting.specs.WrittenLaws.{written_none, written_then}
use Rattle.scheduling.specs.Schedule.{entry_at}
use Rattle.input_data.specs.declared.Sizes.{Sizes}
use Rattle.slot_lists.specs.declared.lists.SlotLists.{SlotLists}
use Rattle.decoding.specs.declared.values.EdgeValues.{EdgeValues}
use Rattle.slot_lists.specs.Lists.{listed}
use Rattle.slot_lists.specs.ListsLaws.{part_length, part_at}
use Rattle.mip_flow.specs.IndexLaws.{number_at}
use Rattle.decoding.specs.Decode.{is_one, has_one, choice_for, plan_row, decoded}

-- the value of chooser c's edge to the choice at place j of a list is 1
abbrev pub one_in : EdgeValues → (ℕ → ℕ) → ℕ → ℕ → Bool
one_in e list c j = has_one e.index.now.count e.values.now (number_at e.index.now.numbers) list c j

-- what a chooser has in a slot, and in each, and the plan, as lent lists and values say them
abbrev pub choice_had : SlotLists → EdgeValues → ℕ → ℕ → ℕ
choice_had l e = choice_for e.index.now.count e.values.now (number_at e.index.now.numbers) (entry_at l.lens) (listed l.stride l.bytes.now)

abbrev pub decoded_row : Sizes → SlotLists → EdgeValues → ℕ → List ℕ
decoded_row z l e = plan_row e.index.now.count e.values.now (number_at e.index.now.numbers) (entry_at l.lens) (listed l.stride l.bytes.now) z

unfoldable pub decoded_plan : Sizes → SlotLists → EdgeValues → List ℕ
decoded_plan z l e = decoded e.index.now.count e.values.now (number_at e.index.now.numbers) (entry_at l.lens) (listed l.stride l.bytes.now) z

pub record Decoding (z : Sizes) (l : SlotLists) (e : EdgeValues) : Type 0 where
  pub choosers : z.choosers ≤ 64
  pub slots : z.slots ≤ 8
  -- each list is in its slot's part, which is in the buffer, and holds choices
  pub short : (s : ℕ) → s < z.slots → entry_at l.lens s ≤ l.stride
  pub part : (s : ℕ) → s < z.slots → l.stride * s + l.stride ≤ length l.bytes.now
  pub small : (s j : ℕ) → s < z.slots → j < entry_at l.lens s → listed l.stride l.bytes.now s j < 32
  pub edges : e.index.now.count ≤ length e.values.now
  -- every chooser has in every slot a listed choice whose edge has 1
  pub found : (c s : ℕ) → c < z.choosers → s < z.slots → first_to (entry_at l.lens s) (one_in e (listed l.stride l.bytes.now s) c) < entry_at l.lens s

-- the same of one list
pub record Finds (e : EdgeValues) (list : List ℕ) (c : ℕ) : Type 0 where
  pub edges : e.index.now.count ≤ length e.values.now
  pub chooser : c < 64
  pub small : (j : ℕ) → j < length list → get_or list j 0 < 32
  pub found : first_to (length list) (one_in e (entry_at list) c) < length list

-- a search that is at j: nothing before j passes
pub record Searching (len : ℕ) (f : ℕ → Bool) (j : ℕ) : Type 0 where
  pub below : j < len
  pub fails : (k : ℕ) → k < j → f k ≡ false

-- ---- laws

-- what passes first is not before j
not_before : (len : ℕ) (f : ℕ → Bool) (j : ℕ) → first_to len f < len → ((k : ℕ) → k < j → f k ≡ false) → j ≤ first_to len f
not_before len f j h g = lt_cases (first_to len f) j (λ l e. never (sym (first_passes len f h) ∙ g (first_to len f) l)) (λ l e. l)

pub search_on : {len : ℕ} {f : ℕ → Bool} {j : ℕ} → first_to len f < len → Searching len f j → f j ≡ false → Searching len f (j + 1)
search_on {len = len} {f = f} {j = j} h p e =
    let g : (k : ℕ) → k < j + 1 → f k ≡ false = λ k l. eq_cases k j (λ q t. rw q e) (λ q t. p.fails k (omega arith)) in
    record { below = omega (arith, not_before len f (j + 1) h g); fails = g }

pub search_end : {len : ℕ} {f : ℕ → Bool} {j : ℕ} → Searching len f j → f j ≡ true → j ≡ first_to len f
search_end {len = len} {f = f} {j = j} p e = first_at len f j p.below p.fails e

module _ {z : Sizes} {l : SlotLists} {e : EdgeValues} (h : Decoding z l e) (c s : ℕ) (hc : c < z.choosers) (hs : s < z.slots) where
  abbrev len : ℕ
  len = entry_at l.lens s

  abbrev front : List ℕ
  front = take len (drop (l.stride * s) l.bytes.now)

  long : length front ≡ len
  long = part_length (l.stride * s) len l.bytes.now (omega (arith, h.part s hs, h.short s hs))

  same_place : first_to (length front) (one_in e (entry_at front) c) ≡ first_to len (one_in e (listed l.stride l.bytes.now s) c)
  same_place = rw long (first_ext len (one_in e (entry_at front) c) (one_in e (listed l.stride l.bytes.now s) c)
      (λ j b. ap (λ k. is_one e.index.now.count e.values.now (number_at e.index.now.numbers c k)) (part_at (l.stride * s) len l.bytes.now j b)))

  -- the slot's list is one that can be searched ..
  pub finds : {list : List ℕ} → list ≡ front → Finds e list c
  finds q = rw q (record {
    edges = h.edges;
    chooser = omega (arith, h.choosers);
    small = λ j i. let b : j < len = omega (arith, long) in rw (part_at (l.stride * s) len l.bytes.now j b) (h.small s j hs b);
    found = omega (arith, same_place, long, h.found c s hc hs);
  })

  front_choice : entry_at front (first_to (length front) (one_in e (entry_at front) c)) ≡ choice_had l e c s
  unfolding choice_for
  front_choice = ap (entry_at front) same_place ∙ part_at (l.stride * s) len l.bytes.now (first_to len (one_in e (listed l.stride l.bytes.now s) c)) (h.found c s hc hs)

  -- .. and what is found there is what the chooser has in the slot
  pub found_in : {list : List ℕ} {r : ℕ} → list ≡ front → r ≡ entry_at list (first_to (length list) (one_in e (entry_at list) c))
      → r ≡ choice_had l e c s
  found_in q p = (rw q at p) ∙ front_choice

-- rows of one width are stored, one after the other
pub record Rows (d₀ : List ℕ) (f : ℕ → List ℕ) (i : ℕ) (d : List ℕ) : Type 0 where
  pub holds : d ≡ written d₀ 0 (join_to i f)

pub rows_none : (d : List ℕ) (f : ℕ → List ℕ) → Rows d f 0 d
rows_none d f = record { holds = rw (fold_none ◌++◌ [] f) (sym (written_none d 0)) }

pub rows_more : {d₀ : List ℕ} {f : ℕ → List ℕ} {i : ℕ} {d d' : List ℕ} (width : ℕ) → ((c : ℕ) → length (f c) ≡ width) → Rows d₀ f i d → d' ≡ written d (i * width) (f i) → Rows d₀ f (i + 1) d'
rows_more {d₀ = d₀} {f = f} {i = i} width w p e = record {
  holds = rw (fold_more ◌++◌ [] i f) (written_then d₀ 0 (join_to i f) (f i) (i * width) p.holds e
      (omega (arith, length_join i f, fold_ext ◌+◌ 0 i (λ k. length (f k)) (λ k. width) (λ k l. w k), sum_const i width)));
}

-- one row more of a plan
pub plan_more : (z : Sizes) (l : SlotLists) (e : EdgeValues) {d₀ d d' : List ℕ} {c : ℕ} → Rows d₀ (decoded_row z l e) c d → d' ≡ written d (c * z.slots) (decoded_row z l e c) → Rows d₀ (decoded_row z l e) (c + 1) d'
plan_more z l e p q = rows_more z.slots (λ c. length_table z.slots (choice_had l e c)) p q

pub plan_all : (z : Sizes) (l : SlotLists) (e : EdgeValues) {d₀ d : List ℕ} {c : ℕ} → c ≡ z.choosers → Rows d₀ (decoded_row z l e) c d → d ≡ written d₀ 0 (decoded_plan z l e)
unfolding decoded decoded_plan
plan_all z l e {d₀ = d₀} q p = p.holds ∙ ap (λ k. written d₀ 0 (join_to k (decoded_row z l e))) q
