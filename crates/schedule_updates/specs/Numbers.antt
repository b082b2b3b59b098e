-- The numbers of build, update and slot list, as the code comes to them, and what these calls leave. Assumes nothing.
use Rattle.std.specs.Prelude.{ℕ, ◌+◌, ◌*◌, ◌<◌, ◌≤◌, ◌≡◌, refl, Bool, ◌||◌, List, Result, Ok, Err, IsErrAnd, eqb, ltb, leb, length, get_or, replicate}
use Rattle.std.specs.Borrow.{Bor}
use Rattle.std.proofs.Common.{zero-le, sym, ap, ◌∙◌, le_antisymm, arith, ltb-false, leb-false, eq-eqb, ne_eqb}
use Rattle.std.proofs.Math.Path.{fun_ext}
use Rattle.std.proofs.Math.Bool.{false}
use Rattle.std.proofs.lemmas.List.{get_or-replicate}
use Rattle.std.proofs.Math.ListN.{get_or-eq_default}
use Rattle.refusal.specs.Number.{number}
use Rattle.refusal.specs.Laws.{some_number}
use Rattle.refusal.specs.declared.Refusal.{Refusal}
use Rattle.counting.specs.Sums.{count_le}
use Rattle.counting.specs.Tests.{or_split, eq_cases, lt_cases}
use Rattle.scheduling.specs.Handed.{schedule_of, not_schedule, outside, kept_of}
use Rattle.scheduling.specs.HandedLaws.{lengths_right}
use Rattle.scheduling.specs.Schedule.{entry_at, bad_slots, kept}
use Rattle.scheduling.specs.declared.Scheduling.{Scheduling}
use Rattle.slot_lists.specs.SumsLaws.{AreSums, sums_table, nowhere_summed}
use Rattle.slot_lists.specs.Sums.{in_slot, nowhere, no_sums}
use Rattle.carried_lists.specs.Carried.{ListsCarried}
use Rattle.carried_lists.specs.CarriedLaws.{Carries}
use Rattle.carried_lists.specs.declared.CarriedLists.{CarriedLists}
use Rattle.slot_lists.specs.Walk.{carried}
use Rattle.slot_lists.specs.declared.SlotSums.{SlotSums}
use Rattle.blocks.specs.BlocksLaws.{Blocking, Blocks, blocks_table}
use Rattle.input_data.specs.Accepted.{accepted, past, first_zero}
use Rattle.input_data.specs.Bytes.{IsDay, day_of, wider, lent_number}
use Rattle.input_data.specs.BytesLaws.{Lent, lent_zero, lent_short}
use Rattle.input_data.specs.Checks.{first_of, day_number}
use Rattle.input_data.specs.Day.{min_at}
use Rattle.input_data.specs.Lengths.{Within, lists_length}
use Rattle.input_data.specs.Read.{day_read}
use Rattle.input_data.specs.ReadLaws.{read_ok, read_err}
use Rattle.input_data.specs.declared.Limits.{Limits}
use Rattle.input_data.specs.declared.InputData.{InputData}
use Rattle.input_data.specs.declared.checks.Beside.{Beside}
use Rattle.schedule_state.specs.Answered.{state_answered, list_answered}
use Rattle.schedule_state.specs.Bytes.{IsState, not_state, state_in}
use Rattle.schedule_state.specs.Calls.{beside_lists, build_number, update_number, state_number, slot_list_number, state_answer, Leaves, names_outside, build_lent, update_lent, Built, Updated, slot_list_lent, slot_list_answer}
use Rattle.schedule_state.specs.Good.{Handed, Ready, Names, kept_names, part_in, part_of, choices_most, slots_most, weighs_of, blocking}
use Rattle.schedule_state.specs.Numbers.{err_is, lent_rest, state_long, state_accepted}
use Rattle.schedule_state.specs.State.{inconsistent, blocked_at, state_of}
use Rattle.schedule_state.specs.declared.AssignmentScheduleState.{AssignmentScheduleState}
use Rattle.schedule_state.specs.declared.listing.SlotListPart.{SlotListPart}
use Rattle.schedule_state.specs.declared.listing.SlotListAnswer.{SlotListAnswer}
use Rattle.schedule_updates.specs.Carrying.{build_tested, update_tested, StateCarried}
use Rattle.schedule_updates.specs.Listing.{list_beside, list_tested, ListFound, Listed}

-- ---- a call that is lent bytes

-- a schedule that has its length names outside what it names
pub names_lent : (d : InputData) (sch : List ℕ) → not_schedule sch ≡ false → names_outside d sch ≡ outside d (schedule_of sch)
names_lent d sch e = rw e

-- .. of one that was read beside a day that passes
pub read_names : (l : Limits) (d : InputData) (sch : List ℕ) (size : ℕ) {e : List ℕ} {x : Bool} → 0 ≡ day_number l d (wider (not_schedule sch) (beside_lists l size false)) 0 → e ≡ sch → x ≡ bad_slots d.choices d.slots e → x ≡ names_outside d sch
read_names l d sch size p q r =
    let t : (not_schedule sch ≡ false) × (ltb size (lists_length l) ≡ false) = or_split (lengths_right l d (wider (not_schedule sch) (beside_lists l size false)) p) in
    r ∙ ap (bad_slots d.choices d.slots) q ∙ sym (names_lent d sch t.0)

pub handed_lists : (l : Limits) (st : List ℕ) (size : ℕ) (wrong asked : Bool) → (wrong ≡ false → IsState st) → Handed l (wider wrong (beside_lists l size asked)) st size
handed_lists l st size wrong asked h = record {
  state = λ e. let p : (wrong ≡ false) × (ltb size (lists_length l) ≡ false) = or_split e in h p.0;
  room = λ e. let p : (wrong ≡ false) × (ltb size (lists_length l) ≡ false) = or_split e in ltb-false size (lists_length l) p.1;
}

-- the numbers of the calls on bytes, as the code comes to them
state_lent : (l : Limits) (day : List ℕ) (wrong also also' : Bool) (b : Beside) (st : AssignmentScheduleState) (bytes : List ℕ) → IsDay day → (wrong ≡ false → also' ≡ also)
    → state_number l (day_of day) st (wider wrong b) also' bytes ≡ lent_number l day wrong (state_number l (day_of day) st b also bytes)
unfolding state_number
state_lent l day wrong also also' b st bytes h e =
    lent_rest l day wrong b _ _ h (λ w. ap (λ (t : Bool). first_of (t || outside (day_of day) st.schedule) 11 (first_of (inconsistent l (day_of day) st bytes) 12 0)) (e w))

-- what is lent to a call that passes has its lengths
pub state_lengths : (l : Limits) (d : InputData) (st : AssignmentScheduleState) (b : Beside) (also : Bool) (bytes : List ℕ) → 0 ≡ state_number l d st b also bytes → b.bad_lengths ≡ false
unfolding state_number
state_lengths l d st b also bytes e = (past l d b _ (sym e)).lengths

-- .. of a day that is read, and of one that is not
pub unread : (l : Limits) (day : List ℕ) (wrong : Bool) (n : ℕ) {r : Refusal} → Err r ≡ day_read day → number r ≡ lent_number l day wrong n
unread l day wrong n e = let p = read_err day e in p.1 ∙ lent_short l day wrong n p.0

module _ (l : Limits) (day : List ℕ) {d : InputData} (r : Ok d ≡ day_read day) where
  pub build_is : (sch : List ℕ) (size : ℕ) → build_tested l d sch size ≡ build_lent l day sch size
  unfolding build_number
  build_is sch size =
      let (h, e) = read_ok day r in
      rw e (lent_rest l day (not_schedule sch) (beside_lists l size false) _ _ h (λ w. ap (λ (x : Bool). first_of x 11 0) (names_lent (day_of day) sch w)))

  pub update_is : (st sch bytes : List ℕ) → update_tested l d st sch bytes ≡ update_lent l day st sch bytes
  update_is st sch bytes =
      let (h, e) = read_ok day r in
      rw e (state_lent l day (not_state st || not_schedule sch) _ _ (beside_lists l (length bytes) false) (state_in st) bytes h
      (λ w. let p : (not_state st ≡ false) × (not_schedule sch ≡ false) = or_split w in names_lent (day_of day) sch p.1))

  pub list_is : (st : List ℕ) (slot : ℕ) (bytes : List ℕ) → list_tested l d st slot bytes ≡ slot_list_lent l day st slot bytes
  list_is st slot bytes =
      let (h, e) = read_ok day r in
      rw e (state_lent l day (not_state st) false false (beside_lists l (length bytes) (leb (day_of day).slots slot)) (state_in st) bytes h (λ w. refl))

-- a day whose number is 0 is ready, with its buffer
pub ready_of : (l : Limits) (d : InputData) (size : ℕ) (asked : Bool) (rest : ℕ) → Within l → day_number l d (beside_lists l size asked) rest ≡ 0 → Ready l d size
ready_of l d size asked rest w e = record {
  within = w;
  day = accepted l d (beside_lists l size asked) rest w e;
  room = ltb-false size (lists_length l) (past l d (beside_lists l size asked) rest e).lengths;
}

-- ---- what accepted input satisfies

module _ (l : Limits) (d : InputData) (sch : Scheduling) (size : ℕ) (w : Within l) (e : build_number l d sch size ≡ 0) where
  pub build_ready : Ready l d size
  unfolding build_number
  build_ready = ready_of l d size false (first_of (outside d sch) 11 0) w e

  pub build_inside : outside d sch ≡ false
  unfolding build_number
  build_inside = (first_zero (outside d sch) 11 0 (omega arith) (past l d (beside_lists l size false) (first_of (outside d sch) 11 0) e).none).0

pub record UpdateAccepted (l : Limits) (d : InputData) (st : AssignmentScheduleState) (sch : Scheduling) (bytes : List ℕ) : Type 0 where
  pub ready : Ready l d (length bytes)
  pub to : outside d sch ≡ false
  pub from : outside d st.schedule ≡ false
  pub consistent : inconsistent l d st bytes ≡ false

pub update_accepted : (l : Limits) (d : InputData) (st : AssignmentScheduleState) (sch : Scheduling) (bytes : List ℕ) → Within l → update_number l d st sch bytes ≡ 0 → UpdateAccepted l d st sch bytes
update_accepted l d st sch bytes w e =
    let a = state_accepted l d st (beside_lists l (length bytes) false) (outside d sch) bytes w (ltb-false (length bytes) (lists_length l)) e in
    record { ready = a.ready; to = a.also_inside; from = a.inside; consistent = a.consistent }

pub record SlotListAccepted (l : Limits) (d : InputData) (st : AssignmentScheduleState) (s : ℕ) (bytes : List ℕ) : Type 0 where
  pub ready : Ready l d (length bytes)
  pub inside : outside d st.schedule ≡ false
  pub slot : s < d.slots
  pub consistent : inconsistent l d st bytes ≡ false

pub slot_list_accepted : (l : Limits) (d : InputData) (st : AssignmentScheduleState) (slot : ℕ) (bytes : List ℕ) → Within l → slot_list_number l d st slot bytes ≡ 0 → SlotListAccepted l d st slot bytes
slot_list_accepted l d st slot bytes w e =
    let a = state_accepted l d st (beside_lists l (length bytes) (leb d.slots slot)) false bytes w (ltb-false (length bytes) (lists_length l)) e in
    record { ready = a.ready; inside = a.inside; slot = leb-false d.slots slot a.past.asked; consistent = a.consistent }

-- ---- what a call leaves

pub leaves_refused : {n : ℕ} {st : AssignmentScheduleState} {made before : List ℕ} (res : Result AssignmentScheduleState Refusal) (r : Refusal) → IsErrAnd res (λ y. y ≡ r) → number r ≡ n → Leaves n st made before before (state_answered res)
leaves_refused {n = n} res r h e =
    let f : eqb n 0 ≡ false = ne_eqb n 0 (λ z. some_number r (e ∙ z)) in
    rw (err_is res h) (record { gives = rw (f, e); leaves = rw f })

leaves_done : {n : ℕ} {st st' : AssignmentScheduleState} {made before after : List ℕ} → 0 ≡ n → st' ≡ st → after ≡ made → Leaves n st made before after (state_answered (Ok st'))
leaves_done e p q = rw (← e) (record { gives = ap (state_answer 0) p; leaves = q })

-- what the code makes is the state of the next schedule
pub state_made : (d : InputData) {last next : List ℕ} {c c' : CarriedLists} {blocks : List Bool} → ListsCarried d.choices last next d.mins c c' → Blocks (blocked_at d next) blocks
    → record { schedule = record { entries = next }; covered = c'.sums.now.covered; blocks = blocks } ≡ state_of d next
state_made d {next = next} {c' = c'} {blocks = blocks} h b = rw (sums_table (min_at d) (entry_at next) d.choices c'.sums.now.covered h.sums.covered, blocks_table (blocked_at d next) blocks b)

-- .. and what it carries, by the limits
pub state_carried : (l : Limits) (d : InputData) {last next after : List ℕ} {c c' : CarriedLists} {st : AssignmentScheduleState} → c.stride ≡ l.choices → st ≡ state_of d next → ListsCarried d.choices last next d.mins c c' → after ≡ c'.bytes.now
    → StateCarried l d last next c.bytes.now after st
state_carried l d {last = last} {next = next} {c = c} e q h t = record {
  gives = q;
  leaves = t ∙ ap (λ x. x.bytes.now) h.lists ∙ ap (λ n. carried n (entry_at last) (entry_at next) d.choices c.bytes.now d.choices) e;
}

-- what carrying asks, of two schedules that name the day's slots alone, and the sums of the first
carries_of : {l : Limits} {d : InputData} {last next : List ℕ} {c : CarriedLists} → Ready l d (length c.bytes.now) → c.stride ≡ l.choices → Names d last → Names d next → AreSums (min_at d) (entry_at last) d.choices c.sums.now
    → Carries d.choices last next d.mins c × Blocking d.assignment
carries_of a e f g s = (
  record { count = choices_most a; room = rw e a.day.choices; from = weighs_of a f; to = weighs_of a g; from_part = rw e (part_of a f); to_part = rw e (part_of a g); sums = s },
  blocking a,
)

-- ---- a build

none_fits : (k n : ℕ) → entry_at (replicate 32 0) k ≤ n
none_fits k n = lt_cases k 32 (λ h e. omega (arith, get_or-replicate {A = ℕ} 32 k 0 0 h)) (λ h e. omega (arith, get_or-eq_default {A = ℕ} (replicate 32 0) 0 {n = k} h))

-- no entry of 32 zeros names a slot
none_nowhere : entry_at (replicate 32 0) ≡ nowhere
none_nowhere = fun_ext (λ k. le_antisymm (none_fits k 0) zero-le)

module _ (l : Limits) (day sch : List ℕ) (size : ℕ) (w : Within l) {d : InputData} (r : Ok d ≡ day_read day) (p : 0 ≡ build_tested l d sch size) where
  -- a build that is accepted
  build_zero : Lent day (not_schedule sch) (build_number l (day_of day) (schedule_of sch) size)
  build_zero = lent_zero l day (not_schedule sch) (build_number l (day_of day) (schedule_of sch) size) (sym (p ∙ build_is l day r sch size))

  pub build_carries : {first : List ℕ} {c : CarriedLists} → length c.bytes.now ≡ size → c.stride ≡ l.choices → first ≡ kept d.choices sch → c.sums.now ≡ no_sums → Carries d.choices (replicate 32 0) first d.mins c × Blocking d.assignment
  build_carries {c = c} b e t q =
      let z : build_number l d (schedule_of sch) size ≡ 0 = rw (← (read_ok day r).1) at build_zero.zero in
      let a : Ready l d (length c.bytes.now) = rw b (build_ready l d (schedule_of sch) size w z) in
      rw t (carries_of a e (record { fits = λ k x. none_fits k d.slots }) (kept_names a (schedule_of sch) (build_inside l d (schedule_of sch) size w z)) (rw (none_nowhere, q) (nowhere_summed (min_at d) d.choices)))

pub built_leaves : (l : Limits) (day sch : List ℕ) {d : InputData} {first bytes bytes' : List ℕ} {st : AssignmentScheduleState} → Ok d ≡ day_read day → 0 ≡ build_tested l d sch (length bytes) → first ≡ kept d.choices sch
    → StateCarried l d (replicate 32 0) first bytes bytes' st → Built l day sch bytes bytes' (state_answered (Ok st))
built_leaves l day sch {bytes = bytes} r p t h =
    let z : StateCarried l (day_of day) (replicate 32 0) (kept_of (day_of day) (schedule_of sch)) bytes _ _ = rw (t, (read_ok day r).1) at h in
    leaves_done (p ∙ build_is l day r sch (length bytes)) z.gives
    (z.leaves ∙ ap (λ f. carried l.choices f (entry_at (kept_of (day_of day) (schedule_of sch))) (day_of day).choices bytes (day_of day).choices) none_nowhere)

-- ---- an update

module _ (l : Limits) (day st sch bytes : List ℕ) (w : Within l) {d : InputData} (r : Ok d ≡ day_read day) (p : 0 ≡ update_tested l d st sch bytes) where
  update_zero : Lent day (not_state st || not_schedule sch) (update_number l (day_of day) (state_in st) (schedule_of sch) bytes)
  update_zero = lent_zero l day (not_state st || not_schedule sch) (update_number l (day_of day) (state_in st) (schedule_of sch) bytes) (sym (p ∙ update_is l day r st sch bytes))

  -- what was lent has its length
  pub update_long : IsState st
  update_long = let p : (not_state st ≡ false) × (not_schedule sch ≡ false) = or_split update_zero.right in state_long st p.0

  pub update_carries : {last next : List ℕ} {c : CarriedLists} → c.bytes.now ≡ bytes → c.stride ≡ l.choices → last ≡ kept_of d (state_in st).schedule → next ≡ kept d.choices sch → AreSums (min_at d) (entry_at (kept_of d (state_in st).schedule)) d.choices c.sums.now
      → Carries d.choices last next d.mins c × Blocking d.assignment
  update_carries {c = c} b e t q h =
      let z : update_number l d (state_in st) (schedule_of sch) bytes ≡ 0 = rw (← (read_ok day r).1) at update_zero.zero in
      let u = update_accepted l d (state_in st) (schedule_of sch) bytes w z in
      let a : Ready l d (length c.bytes.now) = rw b u.ready in
      rw (t, q) (carries_of a e (kept_names a (state_in st).schedule u.from) (kept_names a (schedule_of sch) u.to) h)

  pub updated_leaves : {last next bytes' : List ℕ} {st' : AssignmentScheduleState} → last ≡ kept_of d (state_in st).schedule → next ≡ kept d.choices sch
      → StateCarried l d last next bytes bytes' st' → Updated l day st sch bytes bytes' (state_answered (Ok st'))
  updated_leaves t q h =
      let z : StateCarried l (day_of day) (kept_of (day_of day) (state_in st).schedule) (kept_of (day_of day) (schedule_of sch)) bytes _ _ = rw (t, q, (read_ok day r).1) at h in
      leaves_done (p ∙ update_is l day r st sch bytes) z.gives z.leaves

-- ---- a slot's list

-- a call that is accepted asks about one of 8 slots
pub slot_few : (l : Limits) (d : InputData) (st : List ℕ) (slot : ℕ) (bytes : List ℕ) → Within l → 0 ≡ list_tested l d st slot bytes → slot < 8
slot_few l d st slot bytes w e =
    let a = state_accepted l d (state_in st) (list_beside l d st slot bytes) false bytes w (handed_lists l st (length bytes) (not_state st) (leb d.slots slot) (state_long st)).room (sym e) in
    omega (arith, leb-false d.slots slot a.past.asked, slots_most a.ready)

module _ (l : Limits) (day st : List ℕ) (slot : ℕ) (bytes : List ℕ) where
  pub list_refuses : (res : Result SlotListPart Refusal) (r : Refusal) → IsErrAnd res (λ y. y ≡ r) → number r ≡ slot_list_lent l day st slot bytes → list_answered res ≡ slot_list_answer l day st slot bytes
  unfolding slot_list_answer
  list_refuses res r h e = rw (err_is res h, ne_eqb (slot_list_lent l day st slot bytes) 0 (λ z. some_number r (e ∙ z)), e)

  pub list_number_lem : (slot_list_answer l day st slot bytes).number ≡ slot_list_lent l day st slot bytes
  unfolding slot_list_answer
  list_number_lem = eq_cases (slot_list_lent l day st slot bytes) 0 (λ e t. rw t (sym e)) (λ e t. rw t)

  pub listed_refuses : {x : Bor (List ℕ)} (res : Result (Bor (List ℕ)) Refusal) (r : Refusal) → IsErrAnd res (λ y. y ≡ r) → x.now ≡ bytes → list_answered (Err r) ≡ slot_list_answer l day st slot bytes → Listed l day st slot x res
  listed_refuses res r h t e = rw (err_is res h) (record { number = rw t (ap (λ a. a.number) e ∙ list_number_lem); part = tt })

  module _ (w : Within l) where
    pub list_accepted : slot_list_lent l day st slot bytes ≡ 0 → SlotListAccepted l (day_of day) (state_in st) slot bytes
    list_accepted e = slot_list_accepted l (day_of day) (state_in st) slot bytes w (lent_zero l day (not_state st) (slot_list_number l (day_of day) (state_in st) slot bytes) e).zero

    -- what is found is the list
    pub list_finds : {d : InputData} {s : SlotSums} → Ok d ≡ day_read day → ListFound l d st slot bytes (Ok s)
        → list_answered (Ok (record { start = l.choices * slot; length = get_or s.lens slot 0 })) ≡ slot_list_answer l day st slot bytes
    unfolding slot_list_answer
    list_finds {d = d} r f =
        let e = f.number ∙ list_is l day r st slot bytes in
        rw (eq-eqb (slot_list_lent l day st slot bytes) 0 (sym e), ← (read_ok day r).1) (ap (λ n. list_answered (Ok (record { start = l.choices * slot; length = n }))) (f.sums.lens.at slot (slot_few l d st slot bytes w f.number)))

    -- .. and within its part of the buffer
    pub list_inside : (slot_list_answer l day st slot bytes).start + (slot_list_answer l day st slot bytes).length ≤ length bytes
    unfolding slot_list_answer
    list_inside = eq_cases (slot_list_lent l day st slot bytes) 0
        (λ e t. let a = list_accepted e in
        rw t (omega (arith, part_in a.ready slot a.slot, a.ready.day.choices, count_le (day_of day).choices (in_slot (entry_at (kept_of (day_of day) (state_in st).schedule)) slot))))
        (λ e t. rw t (omega arith))

    pub part_inside : {p : SlotListAnswer} → p ≡ slot_list_answer l day st slot bytes → p.start + p.length ≤ length bytes
    part_inside e = rw e list_inside
