-- What a call's tests say of its lent input, as the code comes to them. Assumes nothing.
use Rattle.std.specs.Prelude.{ℕ, ◌≡◌, refl, Bool, false, List, Result, Ok, Err, length}
use Rattle.std.specs.Result.{IsErrAnd}
use Rattle.std.proofs.Common.{sym, ◌∙◌, eqb-true}
use Rattle.std.proofs.lemmas.Bool.{not-false}
use Rattle.std.proofs.lemmas.Result.{err_from_is_err_and}
use Rattle.refusal.specs.declared.Refusal.{Refusal}
use Rattle.input_data.specs.Bytes.{IsDay, day_of, wider, lent_number}
use Rattle.input_data.specs.BytesLaws.{lent_number_lem, lent_zero, lent_short}
use Rattle.input_data.specs.Lengths.{Within}
use Rattle.input_data.specs.Read.{day_read}
use Rattle.input_data.specs.ReadLaws.{read_ok, read_err}
use Rattle.input_data.specs.declared.InputData.{InputData}
use Rattle.input_data.specs.declared.Limits.{Limits}
use Rattle.slot_lists.specs.declared.SlotSums.{SlotSums}
use Rattle.schedule_state.specs.Bytes.{IsState, state_in, not_state}
use Rattle.schedule_state.specs.Calls.{state_number}
use Rattle.schedule_state.specs.Good.{Found}
use Rattle.schedule_state.specs.declared.AssignmentScheduleState.{AssignmentScheduleState}
use Rattle.model_buffers.specs.Buffers.{lengths_of}
use Rattle.model_buffers.specs.Lent.{held}
use Rattle.model_buffers.specs.declared.LentInput.{LentInput}
use Rattle.model_buffers.specs.declared.Lengths.{Lengths}
use Rattle.model_buffers.specs.declared.buffers.LentBuffers.{LentBuffers}
use Rattle.plans.specs.Model.{beside_model}
use Rattle.flow_model.specs.Building.{good_of, counts_are}
use Rattle.flow_model.specs.Lent.{input_of, call_input, lent_number_with, Buildable, IsLists, ModelMade, EnteredLent}
use Rattle.flow_model.specs.declared.FlowModel.{FlowModel}

-- an accepted call's day and state have their lengths
pub record InputLent (b st : List ℕ) (n : ℕ) : Type 0 where
  pub day : IsDay b
  pub state : IsState st
  pub zero : n ≡ 0

pub input_lent : (l : Limits) (day st : List ℕ) (n : ℕ) → lent_number l day (not_state st) n ≡ 0 → InputLent day st n
input_lent l day st n e = let p = lent_zero l day (not_state st) n e in record { day = p.day; state = eqb-true (length st) 2112 (not-false _ p.right); zero = p.zero }

-- the result of the tests of a day that has its length; the state's length is one of those that are tested beside it
abbrev pub InputFound : Limits → InputData → List ℕ → LentInput → Lengths → Bool → Result SlotSums Refusal → Type 0
InputFound l d st i lens t r = Found l d (state_in st) (wider (not_state st) (beside_model l (input_of d (state_in st) i) lens t)) false i.lists.now r

-- its number is that of the call
entered_number : (l : Limits) (day st : List ℕ) (i : LentInput) (lens : Lengths) (t : Bool) → IsDay day
    → state_number l (day_of day) (state_in st) (wider (not_state st) (beside_model l (call_input day st i) lens t)) false i.lists.now ≡ lent_number_with l day st (call_input day st i) lens t
unfolding state_number
entered_number l day st i lens t h = lent_number_lem l day (not_state st) (beside_model l (call_input day st i) lens t) _ h

module _ (l : Limits) (day st : List ℕ) (i : LentInput) (t : Bool) (b : LentBuffers) where
  -- a day that has not its length
  pub entered_unread : (res : Result FlowModel Refusal) (r : Refusal) → IsErrAnd res (λ y. y ≡ r) → Err r ≡ day_read day → EnteredLent l day st (call_input day st i) t b b res
  entered_unread res r h e =
      let (y, p, q) = err_from_is_err_and res h in
      let u = read_err day e in
      rw (p, q) (record { number = u.1 ∙ lent_short l day (not_state st) _ u.0; kept = refl; made = tt })

  module _ {d : InputData} (e : Ok d ≡ day_read day) {lens : Lengths} (k : lens ≡ lengths_of (held b)) where
    -- refused by a test
    pub entered_refused : (res : Result FlowModel Refusal) (r : Refusal) → IsErrAnd res (λ y. y ≡ r) → InputFound l d st i lens t (Err r) → EnteredLent l day st (call_input day st i) t b b res
    entered_refused res r h f =
        let (y, p, q) = err_from_is_err_and res h in
        let u = read_ok day e in
        rw (p, q) (record { number = (rw (u.1, k) at f.number) ∙ entered_number l day st i (lengths_of (held b)) t u.0; kept = refl; made = tt })

    -- accepted
    module _ {s : SlotSums} (w : Within l) (f : InputFound l d st i lens t (Ok s)) where
      zero : 0 ≡ lent_number_with l day st (call_input day st i) (lengths_of (held b)) t
      zero = let u = read_ok day e in (rw (u.1, k) at f.number) ∙ entered_number l day st i (lengths_of (held b)) t u.0

      pub entered_state : IsState st
      entered_state = (input_lent l day st _ (sym zero)).state

      -- the state, as the builder reads it
      module _ {z : AssignmentScheduleState} (h : z ≡ state_in st) where
        pub buildable : Buildable l (input_of d z i) (lengths_of (held b))
        buildable = rw (h, (read_ok day e).1) (record { within = w; short = t; number = (input_lent l day st _ (sym zero)).zero })

        pub are_lists : IsLists l (input_of d z i) (record { bytes = i.lists; stride = l.choices; lens = s.lens })
        are_lists = record { bytes = refl; stride = refl; lens = counts_are (good_of buildable) (rw (← h) at f.sums.lens) }

        pub entered_done : {b' : LentBuffers} {m : FlowModel} → ModelMade l (input_of d z i) b b' m → EnteredLent l day st (call_input day st i) t b b' (Ok m)
        entered_done p = record { number = zero; kept = tt; made = rw (h, (read_ok day e).1) at p }
