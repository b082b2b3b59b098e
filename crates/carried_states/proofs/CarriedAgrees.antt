-- The proof of Agreement.antt. Assumes nothing.
use Rattle.std.specs.Prelude.{ℕ, ◌<◌, ◌≤◌, ◌/◌, ◌%◌, ◌≡◌, refl, Bool, true, List, [], ◌∷◌, length, get_or}
use Rattle.std.proofs.Common.{sym, ◌∙◌, div-add-mod', arith, eq-eqb, le-ltb}
use Rattle.std.proofs.Math.Path.{ap}
use Rattle.std.proofs.Math.Bool.{false, not, or-false}
use Rattle.counting.specs.Fold.{table_to}
use Rattle.counting.specs.Lists.{table_at}
use Rattle.counting.specs.Tests.{eq_cases, each_none, each_below}
use Rattle.input_data.specs.Accepted.{Past, number_accepted}
use Rattle.input_data.specs.Checks.{first_of}
use Rattle.input_data.specs.Lengths.{Within, lists_length}
use Rattle.input_data.specs.declared.Limits.{Limits}
use Rattle.input_data.specs.declared.InputData.{InputData}
use Rattle.scheduling.specs.Handed.{outside, kept_of}
use Rattle.scheduling.specs.Schedule.{entry_at, bad_entry_at}
use Rattle.scheduling.specs.ScheduleLaws.{kept_twice}
use Rattle.scheduling.specs.declared.Scheduling.{Scheduling}
use Rattle.slot_lists.specs.HeldLaws.{Held, member, not_misheld, held_after, held_nowhere, holds_any}
use Rattle.slot_lists.specs.Sums.{nowhere}
use Rattle.slot_lists.specs.WalkLaws.{carried_length}
use Rattle.carried_states.specs.Agreement.{Call, number_of, Carried, after_build, updated, after_update, run_updates, Fed, is_in, Agree, CarriedAgrees}
use Rattle.blocks.specs.Blocks.{cell}
use Rattle.blocks.specs.BlocksLaws.{cell_in}
use Rattle.schedule_state.specs.Calls.{beside_lists, build_number, built_state, built_lists, update_number, updated_state, updated_lists, state_number}
use Rattle.schedule_state.specs.Good.{Ready, choices_most, slots_most, choosers_most, part_in, kept_fits}
use Rattle.schedule_updates.specs.Numbers.{build_ready, build_inside, update_accepted}
use Rattle.schedule_state.specs.State.{state_of, covered_at, blocked_at, blocked_cell, miscounted, miscounted_at, miscounted_in, misblocked, misblocked_row, misblocked_at, unlike, inconsistent}
use Rattle.schedule_state.specs.declared.AssignmentScheduleState.{AssignmentScheduleState}

unlike_same : (b : Bool) → unlike b b ≡ false
unlike_same true = refl
unlike_same false = refl

cell_div : (c k : ℕ) → k < 32 → cell c k / 32 ≡ c
cell_div c k h = omega (arith, div-add-mod' (cell c k) 32)

cell_mod : (c k : ℕ) → k < 32 → cell c k % 32 ≡ k
cell_mod c k h = omega (arith, div-add-mod' (cell c k) 32)

-- what is carried is the state of the last accepted schedule, with lists that hold that schedule
record Kept (l : Limits) (d : InputData) (x : Carried) : Type 0 where
  ready : Ready l d (length x.lists)
  inside : outside d x.schedule ≡ false
  state : x.state ≡ state_of d (kept_of d x.schedule)
  lists : Held l.choices (entry_at (kept_of d x.schedule)) d.choices d.slots x.lists

module _ {l : Limits} (d : InputData) (sch : Scheduling) {size : ℕ} (r : Ready l d size) (inside : outside d sch ≡ false) where
  abbrev e : List ℕ
  e = kept_of d sch

  -- the state of a schedule has that schedule
  own_schedule : kept_of d (state_of d e).schedule ≡ e
  own_schedule = kept_twice d.choices sch.entries

  own_inside : outside d (state_of d e).schedule ≡ false
  own_inside = each_below 32 d.choices (bad_entry_at d.slots e) (λ k h. le-ltb d.slots (entry_at e k) (kept_fits r sch inside k h))

  own_counts : miscounted d e (state_of d e).covered ≡ false
  unfolding miscounted_in
  own_counts = each_none d.slots (miscounted_at (covered_at d e) (table_to 8 (covered_at d e)))
      (λ s h. ap not (eq-eqb (get_or (table_to 8 (covered_at d e)) s 0) (covered_at d e s) (table_at 8 (covered_at d e) 0 s (omega (arith, slots_most r)))))

  own_blocks : misblocked (blocked_at d e) d.choosers d.choices (state_of d e).blocks ≡ false
  unfolding misblocked
  own_blocks = each_none d.choosers (misblocked_row (blocked_at d e) d.choices (table_to 2048 (blocked_cell d e)))
      (λ c h. each_none d.choices (misblocked_at (blocked_at d e) (table_to 2048 (blocked_cell d e)) c)
      (λ k g. let m : k < 32 = omega (arith, choices_most r) in
      rw (table_at 2048 (blocked_cell d e) false (cell c k) (cell_in c k (omega (arith, choosers_most r)) m), cell_div c k m, cell_mod c k m) (unlike_same (blocked_at d e c k))))

  -- so that 12 does not apply to it, with lists that hold the schedule
  consistent : {bytes : List ℕ} → Held l.choices (entry_at e) d.choices d.slots bytes → inconsistent l d (state_of d e) bytes ≡ false
  consistent {bytes = bytes} h = rw (own_schedule, not_misheld l.choices (entry_at e) d.choices d.slots bytes h, own_counts, own_blocks)

-- ---- along the list

ready_size : {l : Limits} {d : InputData} {m n : ℕ} → m ≡ n → Ready l d m → Ready l d n
ready_size e r = rw e at r

module _ (l : Limits) (w : Within l) where
  kept_first : (d : InputData) (sch : Scheduling) (lent : List ℕ) → build_number l d sch (length lent) ≡ 0 → Kept l d (after_build l d sch lent)
  kept_first d sch lent q =
      let r = build_ready l d sch (length lent) w q in
      let i = build_inside l d sch (length lent) w q in
      record {
        ready = ready_size (sym (carried_length l.choices nowhere (entry_at (kept_of d sch)) d.choices lent d.choices)) r;
        inside = i;
        state = refl;
        lists = held_after r.day.choices nowhere (entry_at (kept_of d sch)) (λ k h. omega arith) (kept_fits r sch i) lent (part_in r) (held_nowhere l.choices d.choices d.slots lent);
      }

  -- an accepted update of what was kept
  kept_updated : (d : InputData) (x : Carried) (sch : Scheduling) → Kept l d x → update_number l d x.state sch x.lists ≡ 0
      → Kept l d (record { schedule = sch; state = updated_state d sch; lists = updated_lists l d x.state sch x.lists })
  kept_updated d x sch k q =
      let a = update_accepted l d x.state sch x.lists w q in
      let o : kept_of d x.state.schedule ≡ kept_of d x.schedule = ap (λ st. kept_of d st.schedule) k.state ∙ own_schedule d x.schedule k.ready k.inside in
      record {
        ready = ready_size (sym (carried_length l.choices (entry_at (kept_of d x.state.schedule)) (entry_at (kept_of d sch)) d.choices x.lists d.choices)) k.ready;
        inside = a.to;
        state = refl;
        lists = rw o (held_after k.ready.day.choices (entry_at (kept_of d x.schedule)) (entry_at (kept_of d sch)) (kept_fits k.ready x.schedule k.inside) (kept_fits k.ready sch a.to) x.lists (part_in k.ready) k.lists);
      }

  handed : (d : InputData) (x : Carried) (c : Call) → Kept l d x → number_of l c ≡ 0 → (c.day ≡ d) × (c.state ≡ x.state) × (c.lists ≡ x.lists) → Kept l d (updated l c)
  handed d x c k q (e, s, p) =
      rw (e, s, p) (kept_updated d x c.schedule k (rw (e, s, p) at q))

  kept_after : (d : InputData) (x : Carried) (c : Call) → Kept l d x → (number_of l c ≡ 0 → (c.day ≡ d) × (c.state ≡ x.state) × (c.lists ≡ x.lists)) → Kept l d (after_update l x c)
  kept_after d x c k fed = eq_cases (number_of l c) 0 (λ q t. rw t (handed d x c k q (fed q))) (λ q t. rw t k)

  kept_run : (d : InputData) (x : Carried) (calls : List Call) → Kept l d x → Fed l d x calls → Kept l d (run_updates l x calls)
  kept_run d x [] k fed = k
  kept_run d x (c ∷ cs) k fed = kept_run d (after_update l x c) cs (kept_after d x c k fed.0) fed.1

  -- ---- what was kept is as fresh

  besides : (size : ℕ) → lists_length l ≤ size → Past (beside_lists l size false) 0
  besides size h = record { lengths = le-ltb size (lists_length l) h; preferences = refl; levels = refl; costs = refl; asked = refl; none = refl }

  module _ (d : InputData) (x : Carried) (k : Kept l d x) (buffer : List ℕ) (room : lists_length l ≤ length buffer) where
    fresh : build_number l d x.schedule (length buffer) ≡ 0
    unfolding build_number first_of
    fresh = number_accepted l d (beside_lists l (length buffer) false) k.ready.day (besides (length buffer) room) (first_of (outside d x.schedule) 11 0) ∙ rw k.inside

    fresh_kept : Kept l d (after_build l d x.schedule buffer)
    fresh_kept = kept_first d x.schedule buffer fresh

    abbrev own : List ℕ
    own = kept_of d x.schedule

    -- the set of a slot's choices is that of the schedule
    set_is : (st : AssignmentScheduleState) (bytes : List ℕ) → st ≡ state_of d own → Held l.choices (entry_at own) d.choices d.slots bytes → (s : ℕ) → s < d.slots → (j : ℕ) → is_in l d st bytes s j ≡ member (entry_at own) d.choices s j
    set_is st bytes p h s b j =
        let o : kept_of d st.schedule ≡ own = ap (λ t. kept_of d t.schedule) p ∙ own_schedule d x.schedule k.ready k.inside in
        rw o (holds_any (h.at s b) j)

    same : Agree l d x.state x.lists (built_state d x.schedule) (built_lists l d x.schedule buffer)
    same = record {
      schedule = ap (λ t. t.schedule) k.state;
      covered = ap (λ t. t.covered) k.state;
      blocks = ap (λ t. t.blocks) k.state;
      lists = λ s b j. set_is x.state x.lists k.state k.lists s b j ∙ sym (set_is (built_state d x.schedule) (built_lists l d x.schedule buffer) refl fresh_kept.lists s b j);
    }

    next_number : (sch : Scheduling) → update_number l d x.state sch x.lists ≡ first_of (outside d sch) 11 0
    unfolding state_number first_of
    next_number sch =
        rw k.state
        (number_accepted l d (beside_lists l (length x.lists) false) k.ready.day (besides (length x.lists) k.ready.room) _
        ∙ rw (own_inside d x.schedule k.ready k.inside, consistent d x.schedule k.ready k.inside k.lists, or-false (outside d sch)))

-- what is carried agrees with a fresh build
pub carried_agrees : CarriedAgrees
carried_agrees l w d sch lent q calls fed buffer room =
    let x = run_updates l (after_build l d sch lent) calls in
    let k = kept_run l w d (after_build l d sch lent) calls (kept_first l w d sch lent q) fed in
    record { accepted = fresh l w d x k buffer room; agree = same l w d x k buffer room; next = next_number l w d x k buffer room }
