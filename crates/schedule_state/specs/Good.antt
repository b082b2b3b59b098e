-- What accepted input gives the inner functions.
use Rattle.std.specs.Prelude.{ℕ, suc, ◌+◌, ◌*◌, ◌<◌, ◌≤◌, ◌≡◌, Bool, List, eqb, get_or, length}
use Rattle.std.specs.Borrow.{Bor}
use Rattle.std.specs.Prelude.{Result, IfOk}
use Rattle.std.proofs.Math.Path.{ap}
use Rattle.refusal.specs.Number.{outcome}
use Rattle.refusal.specs.declared.Refusal.{Refusal}
use Rattle.std.proofs.Common.{◌∙◌, mul-le-mul_left, mul-suc, arith}
use Rattle.std.proofs.Math.Bool.{false, not, ◌||◌}
use Rattle.input_data.specs.Accepted.{Accepted}
use Rattle.input_data.specs.Day.{min_at}
use Rattle.input_data.specs.Fits.{left_chooser, right_below}
use Rattle.input_data.specs.Lengths.{Within, lists_length}
use Rattle.input_data.specs.declared.Limits.{Limits}
use Rattle.input_data.specs.declared.InputData.{InputData}
use Rattle.input_data.specs.declared.checks.Beside.{Beside}
use Rattle.scheduling.specs.Handed.{outside, kept_of}
use Rattle.scheduling.specs.HandedLaws.{kept_inside}
use Rattle.scheduling.specs.Schedule.{entry_at}
use Rattle.scheduling.specs.declared.Scheduling.{Scheduling}
use Rattle.counting.specs.Fold.{any_to}
use Rattle.counting.specs.FoldLaws.{fold_ext}
use Rattle.counting.specs.Tests.{none_each, each_none, each_below}
use Rattle.slot_lists.specs.Held.{misheld}
use Rattle.slot_lists.specs.Marks.{Looks}
use Rattle.slot_lists.specs.SumsLaws.{Weighs, AreSums}
use Rattle.slot_lists.specs.declared.SlotSums.{SlotSums}
use Rattle.blocks.specs.BlocksLaws.{Blocking, Blocks, cell_in}
use Rattle.blocks.specs.Blocks.{blocked_by, blocks_at, cell}
use Rattle.schedule_state.specs.Bytes.{IsState}
use Rattle.schedule_state.specs.Calls.{state_number}
use Rattle.schedule_state.specs.State.{is_blocked, blocked_at, covered_at, inconsistent, miscounted, miscounted_in, miscounted_at, misblocked, misblocked_in, misblocked_row, misblocked_at, unlike, unlike_at, sums_of, cells_of}
use Rattle.schedule_state.specs.declared.AssignmentScheduleState.{AssignmentScheduleState}

-- an accepted day, and a buffer that has room for its lists
pub record Ready (l : Limits) (d : InputData) (size : ℕ) : Type 0 where
  pub within : Within l
  pub day : Accepted l d
  pub room : lists_length l ≤ size

-- what a call tests beside the day says of the lengths of the state and of the slot lists
pub record Handed (l : Limits) (b : Beside) (st : List ℕ) (size : ℕ) : Type 0 where
  pub state : b.bad_lengths ≡ false → IsState st
  pub room : b.bad_lengths ≡ false → lists_length l ≤ size

-- the result of a call that is handed a state: its number, and where it is accepted the sums of the state's schedule
pub record Found (l : Limits) (d : InputData) (st : AssignmentScheduleState) (b : Beside) (also : Bool) (bytes : List ℕ) (r : Result SlotSums Refusal) : Type 0 where
  pub number : outcome r ≡ state_number l d st b also bytes
  pub sums : IfOk r (AreSums (min_at d) (entry_at (kept_of d st.schedule)) d.choices)

-- a schedule, by its entries, that names the day's slots alone
pub record Names (d : InputData) (sch : List ℕ) : Type 0 where
  pub fits : (k : ℕ) → k < d.choices → entry_at sch k ≤ d.slots

-- a day whose blocks fit into their table, and whose constraints that block name a chooser and a choice
pub record Small (d : InputData) : Type 0 where
  pub choosers : d.choosers ≤ 64
  pub choices : d.choices ≤ 32
  pub blocking : Blocking d.assignment

module _ {l : Limits} {d : InputData} {size : ℕ} (r : Ready l d size) where
  pub choices_most : d.choices ≤ 32
  choices_most = omega (arith, r.day.choices, r.within.choices)

  pub slots_most : d.slots ≤ 8
  slots_most = omega (arith, r.day.slots, r.within.slots)

  pub choosers_most : d.choosers ≤ 64
  choosers_most = omega (arith, r.day.choosers, r.within.choosers)

  -- every slot's part is in the buffer
  pub part_in : (s : ℕ) → s < d.slots → l.choices * s + l.choices ≤ size
  part_in s h =
      let b : suc s ≤ l.slots = omega (arith, r.day.slots) in
      omega (arith, r.room, mul-le-mul_left l.choices b, mul-suc l.choices s)

  -- the kinds that block name a chooser and a choice of the day
  pub blocking : Blocking d.assignment
  blocking = record {
    count = r.day.assignment.count;
    each = λ j h k. (
      omega (arith, choosers_most, left_chooser d.choosers d.choices d.slots _ (r.day.assignment.operands j h) k),
      omega (arith, choices_most, right_below d.choosers d.choices d.slots _ (r.day.assignment.operands j h) k),
    );
  }

  module _ (sch : Scheduling) (inside : outside d sch ≡ false) where
    pub kept_fits : (k : ℕ) → k < d.choices → entry_at (kept_of d sch) k ≤ d.slots
    kept_fits = kept_inside d sch choices_most inside

    pub kept_names : Names d (kept_of d sch)
    kept_names = record { fits = kept_fits }

  pub min_most : (k : ℕ) → k < d.choices → entry_at d.mins k ≤ 1000
  min_most k h = omega (arith, r.day.min_max k h, r.day.max_most k h)

  -- what summing asks of a schedule that names the day's slots alone
  pub weighs_of : {sch : List ℕ} → Names d sch → Weighs sch d.mins d.choices
  weighs_of f = record { count = choices_most; small = λ k b. omega (arith, f.fits k b, slots_most); light = min_most }

  pub part_of : {sch : List ℕ} → Names d sch → (k s : ℕ) → k < d.choices → entry_at sch k ≡ suc s → l.choices * s + l.choices ≤ size
  part_of f k s h e = part_in s (omega (arith, f.fits k h))

  pub small_day : Small d
  small_day = record { choosers = choosers_most; choices = choices_most; blocking = blocking }

-- ---- check 12

-- what it asks: the state's own schedule, which names the day's slots alone, and its sums
pub record Holdable (l : Limits) (d : InputData) (st : AssignmentScheduleState) (entries : List ℕ) (s : SlotSums) (size : ℕ) : Type 0 where
  pub ready : Ready l d size
  pub own : entries ≡ kept_of d st.schedule
  pub names : Names d entries
  pub sums : AreSums (min_at d) (entry_at entries) d.choices s

module _ {l : Limits} {d : InputData} {st : AssignmentScheduleState} {entries : List ℕ} {s : SlotSums} {size : ℕ} (h : Holdable l d st entries s size) where
  pub looks : {x : Bor (List ℕ)} → size ≡ length x.now → Looks d.choices d.slots entries (record { bytes = x; stride = l.choices; lens = s.lens })
  looks e = record {
    count = choices_most h.ready;
    few = slots_most h.ready;
    room = h.ready.day.choices;
    fits = h.names.fits;
    part = rw e at (part_in h.ready);
    lens = h.sums.lens;
  }

  -- what the code holds the state against is its own schedule
  counted : (c : List ℕ) → miscounted_in (sums_of s.covered) d.slots c ≡ miscounted d entries c
  unfolding miscounted_in
  counted c = fold_ext ◌||◌ false d.slots (miscounted_at (sums_of s.covered) c) (miscounted_at (covered_at d entries) c)
      (λ t b. ap (λ (n : ℕ). not (eqb (get_or c t 0) n)) (h.sums.covered.at t (omega (arith, slots_most h.ready))))

  pub inconsistent_is : (bytes : List ℕ) {x y w : Bool} → x ≡ misheld l.choices (entry_at entries) d.choices d.slots bytes
      → y ≡ miscounted_in (sums_of s.covered) d.slots st.covered → w ≡ misblocked_in d entries st.blocks
      → (x || y || w) ≡ inconsistent l d st bytes
  inconsistent_is bytes p q r =
      rw (p, q ∙ counted st.covered, r, h.own)

-- the blocks that the code makes anew are those of the schedule
pub blocked_in : (d : InputData) (sch : List ℕ) (blocks : List Bool) {b : List Bool} → Small d → Blocks (blocked_at d sch) b → misblocked (cells_of b) d.choosers d.choices blocks ≡ misblocked_in d sch blocks
unfolding misblocked
blocked_in d sch blocks {b = b} h p = fold_ext ◌||◌ false d.choosers (misblocked_row (cells_of b) d.choices blocks) (misblocked_row (blocked_at d sch) d.choices blocks)
    (λ c x. fold_ext ◌||◌ false d.choices (misblocked_at (cells_of b) blocks c) (misblocked_at (blocked_at d sch) blocks c)
    (λ k y. ap (λ (t : Bool). unlike (get_or blocks (cell c k) false) t) (p.at c k (omega (arith, h.choosers)) (omega (arith, h.choices)))))

-- without assignment constraints nothing is blocked
nothing_blocked : (d : InputData) (sch : List ℕ) (c k : ℕ) → d.assignment.count ≡ 0 → blocked_at d sch c k ≡ false
unfolding blocked_by
nothing_blocked d sch c k e = each_below 32 d.assignment.count (blocks_at d.assignment sch c k) (λ j h. absurd (omega arith))

pub none_misblocked : (d : InputData) (sch : List ℕ) (blocks : List Bool) → Small d → d.assignment.count ≡ 0 → any_to 2048 (is_blocked blocks) ≡ false → misblocked_in d sch blocks ≡ false
unfolding misblocked
none_misblocked d sch blocks h e p = each_none d.choosers (misblocked_row (blocked_at d sch) d.choices blocks) (λ c x. each_none d.choices (misblocked_at (blocked_at d sch) blocks c)
    (λ k y. simp (none_each 2048 (is_blocked blocks) p (cell c k) (cell_in c k (omega (arith, h.choosers)) (omega (arith, h.choices))), nothing_blocked d sch c k e)))

-- tables that do not differ anywhere do not differ within the day
pub nowhere_unlike : (a b : List Bool) (choosers choices : ℕ) → choosers ≤ 64 → choices ≤ 32 → any_to 2048 (unlike_at a b) ≡ false → misblocked (cells_of b) choosers choices a ≡ false
unfolding misblocked
nowhere_unlike a b choosers choices hc hk e =
    each_none choosers (misblocked_row (cells_of b) choices a) (λ c x. each_none choices (misblocked_at (cells_of b) a c)
    (λ k y. none_each 2048 (unlike_at a b) e (cell c k) (cell_in c k (omega arith) (omega arith))))
