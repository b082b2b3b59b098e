-- The number of a call that is handed a state, test after test, as the code comes to it. Assumes nothing.
use Rattle.std.specs.Prelude.{ℕ, ◌≤◌, ◌≡◌, refl, Bool, true, false, ◌||◌, List, Result, Ok, Err, IsErrAnd, length}
use Rattle.std.proofs.Common.{sym, ap, ◌∙◌, arith, eqb-true, eq-eqb}
use Rattle.refusal.specs.Number.{number}
use Rattle.refusal.specs.declared.Refusal.{Refusal}
use Rattle.refusal.specs.declared.Refusal.TheVariants.{Schedule, State}
use Rattle.std.proofs.lemmas.Bool.{not-false}
use Rattle.std.proofs.lemmas.Result.{err_from_is_err_and}
use Rattle.counting.specs.Tests.{or_split, bool_cases}
use Rattle.scheduling.specs.Handed.{outside, kept_of}
use Rattle.scheduling.specs.Schedule.{entry_at}
use Rattle.slot_lists.specs.SumsLaws.{AreSums}
use Rattle.slot_lists.specs.declared.SlotSums.{SlotSums}
use Rattle.input_data.specs.Day.{min_at}
use Rattle.input_data.specs.ReadLaws.{day_refused, day_passed}
use Rattle.input_data.specs.Accepted.{Past, accepted, past, first_zero}
use Rattle.input_data.specs.Bytes.{IsDay, day_of, wider, lent_number}
use Rattle.input_data.specs.BytesLaws.{lent_number_lem}
use Rattle.input_data.specs.Checks.{first_of, too_many, day_number}
use Rattle.input_data.specs.Lengths.{Within, lists_length}
use Rattle.input_data.specs.Numbers.{first_applies, first_not}
use Rattle.input_data.specs.declared.Limits.{Limits}
use Rattle.input_data.specs.declared.InputData.{InputData}
use Rattle.input_data.specs.declared.checks.Beside.{Beside}
use Rattle.schedule_state.specs.Bytes.{IsState, not_state}
use Rattle.schedule_state.specs.Calls.{state_number}
use Rattle.schedule_state.specs.Good.{Handed, Ready, Names, Found, kept_names}
use Rattle.schedule_state.specs.State.{inconsistent}
use Rattle.schedule_state.specs.declared.AssignmentScheduleState.{AssignmentScheduleState}

-- where something has not its length, what is tested after the day does not matter
pub lent_rest : (l : Limits) (day : List ℕ) (wrong : Bool) (b : Beside) (rest rest' : ℕ) → IsDay day → (wrong ≡ false → rest' ≡ rest) → day_number l (day_of day) (wider wrong b) rest' ≡ lent_number l day wrong (day_number l (day_of day) b rest)
unfolding lent_number day_number first_of
lent_rest l day wrong b rest rest' h e = bool_cases wrong
    (λ w. bool_cases (too_many l (day_of day).choosers (day_of day).choices (day_of day).slots)
    (λ t. simp (eq-eqb (length day) 2044 h, t))
    (λ t. simp (eq-eqb (length day) 2044 h, t, w)))
    (λ w. rw (e w) (lent_number_lem l day wrong b rest h))

-- bytes that have their lengths
pub state_long : (st : List ℕ) → not_state st ≡ false → IsState st
state_long st e = eqb-true (length st) 2112 (not-false _ e)

pub record StateAccepted (l : Limits) (d : InputData) (st : AssignmentScheduleState) (b : Beside) (also : Bool) (bytes : List ℕ) : Type 0 where
  pub ready : Ready l d (length bytes)
  pub past : Past b 0
  pub also_inside : also ≡ false
  pub inside : outside d st.schedule ≡ false
  pub consistent : inconsistent l d st bytes ≡ false

-- the lists have their length where no length that the call tests is wrong
module _ (l : Limits) (d : InputData) (st : AssignmentScheduleState) (b : Beside) (also : Bool) (bytes : List ℕ) where
  pub state_accepted : Within l → (b.bad_lengths ≡ false → lists_length l ≤ length bytes) → state_number l d st b also bytes ≡ 0 → StateAccepted l d st b also bytes
  unfolding state_number
  state_accepted w room e =
      let rest = first_of (also || outside d st.schedule) 11 (first_of (inconsistent l d st bytes) 12 0) in
      let q = past l d b rest e in
      let p = first_zero (also || outside d st.schedule) 11 (first_of (inconsistent l d st bytes) 12 0) (omega arith) q.none in
      let s : (also ≡ false) × (outside d st.schedule ≡ false) = or_split p.0 in
      record {
        ready = record { within = w; day = accepted l d b rest w e; room = room q.lengths };
        past = rw q.none at q;
        also_inside = s.0;
        inside = s.1;
        consistent = (first_zero (inconsistent l d st bytes) 12 0 (omega arith) p.1).0;
      }

-- ---- as the code comes to it

-- what an early exit gives
pub err_is : {T : Type 0} (res : Result T Refusal) {r : Refusal} → IsErrAnd res (λ y. y ≡ r) → res ≡ Err r
err_is res h = let (y, e, f) = err_from_is_err_and res h in e ∙ ap Err f

-- the day is accepted, and its state's schedule names the day's slots alone
pub record Passed (l : Limits) (d : InputData) (st : AssignmentScheduleState) (size : ℕ) : Type 0 where
  pub ready : Ready l d size
  pub names : Names d (kept_of d st.schedule)

module _ (l : Limits) (d : InputData) (b : Beside) (p : 0 ≡ day_number l d b 0) {state : List ℕ} {size : ℕ} (within : Within l) (h : Handed l b state size) where
  pub handed_state : IsState state
  handed_state = h.state (past l d b 0 (sym p)).lengths

  pub passed : (st : AssignmentScheduleState) (also : Bool) → (also || outside d st.schedule) ≡ false → Passed l d st size
  passed st also t =
      let s : (also ≡ false) × (outside d st.schedule ≡ false) = or_split t in
      let r : Ready l d size = record { within = within; day = accepted l d b 0 within (sym p); room = h.room (past l d b 0 (sym p)).lengths } in
      record { ready = r; names = kept_names r st.schedule s.1 }

module _ (l : Limits) (d : InputData) (st : AssignmentScheduleState) (b : Beside) (also : Bool) (bytes : List ℕ) where
  pub found_day : (res : Result SlotSums Refusal) (r : Refusal) → IsErrAnd res (λ y. y ≡ r) → number r ≡ day_number l d b 0 → Found l d st b also bytes res
  unfolding state_number
  found_day res r h p = rw (err_is res h) (record { number = day_refused l d b _ r p; sums = tt })

  module _ (p : 0 ≡ day_number l d b 0) where
    pub found_11 : (also || outside d st.schedule) ≡ true → Found l d st b also bytes (Err Schedule)
    unfolding state_number
    found_11 t = record { number = day_passed l d b _ p (first_applies _ 11 _ t); sums = tt }

    pub found_12 : (also || outside d st.schedule) ≡ false → inconsistent l d st bytes ≡ true → Found l d st b also bytes (Err State)
    unfolding state_number
    found_12 t e = record { number = day_passed l d b _ p (first_not _ 11 _ t (first_applies _ 12 _ e)); sums = tt }

    pub found_none : (also || outside d st.schedule) ≡ false → inconsistent l d st bytes ≡ false → {s : SlotSums} → AreSums (min_at d) (entry_at (kept_of d st.schedule)) d.choices s → Found l d st b also bytes (Ok s)
    unfolding state_number
    found_none t e q = record { number = day_passed l d b _ p (first_not _ 11 _ t (first_not _ 12 _ e refl)); sums = q }
