-- What an accepted day and plan satisfy, and answers by their numbers. Definitions and their laws.
use Rattle.std.specs.Prelude.{Result, Ok, Err, IsErrAnd, ℕ, ◌<◌, ◌≤◌, ◌≡◌, refl, Bool, false, cond, not, ◌||◌, List, ◌≢◌, eqb, leb, length}
use Rattle.std.proofs.Common.{sym, ap, ◌∙◌, mul-le-mul, arith, ne_eqb, leb-false, eqb-true}
use Rattle.std.proofs.lemmas.Bool.{not-false}
use Rattle.std.proofs.lemmas.Result.{err_from_is_err_and}
use Rattle.refusal.specs.Number.{number, outcome}
use Rattle.refusal.specs.Laws.{some_number}
use Rattle.refusal.specs.declared.Refusal.{Refusal}
use Rattle.input_data.specs.Read.{day_read}
use Rattle.input_data.specs.ReadLaws.{read_ok, read_err}
use Rattle.assignment.specs.Calls.{in_choice, in_choice_number, in_choice_lent, choice, choice_number, choice_lent}
use Rattle.assignment.specs.Answered.{in_choice_answered, choice_answered}
use Rattle.counting.specs.Tests.{or_split}
use Rattle.input_data.specs.Accepted.{Accepted, accepted, past}
use Rattle.input_data.specs.Bytes.{day_of, lent_number}
use Rattle.input_data.specs.BytesLaws.{lent_short, lent_is}
use Rattle.input_data.specs.Checks.{first_of, day_number}
use Rattle.input_data.specs.Lengths.{Within, plan_length}
use Rattle.input_data.specs.declared.Limits.{Limits}
use Rattle.input_data.specs.declared.InputData.{InputData}
use Rattle.assignment.specs.Inside.{InPlan}
use Rattle.assignment.specs.Plan.{bad_plan, choice_of, is_in_choice}
use Rattle.assignment.specs.Calls.{beside_plan, seats, plan_number}

-- ---- what accepted input satisfies

-- a day within what the types hold
pub record Small (d : InputData) : Type 0 where
  pub choosers : d.choosers ≤ 64
  pub choices : d.choices ≤ 32
  pub slots : d.slots ≤ 8

pub small : {l : Limits} {d : InputData} → Within l → Accepted l d → Small d
small w a = record {
  choosers = omega (arith, w.choosers, a.choosers);
  choices = omega (arith, w.choices, a.choices);
  slots = omega (arith, w.slots, a.slots);
}

pub seats_most : {d : InputData} → Small d → seats d ≤ 512
seats_most s = mul-le-mul s.choosers s.slots

pub record PlanAccepted (l : Limits) (d : InputData) (plan : List ℕ) (short asked : Bool) : Type 0 where
  pub day : Accepted l d
  pub long : short ≡ false
  pub inside : asked ≡ false
  pub seats_in : seats d ≤ plan_length l
  pub plan_in : seats d ≤ length plan

pub plan_accepted : (l : Limits) (d : InputData) (plan : List ℕ) (short asked : Bool) (rest : ℕ) → Within l → day_number l d (beside_plan l (length plan) short asked) rest ≡ 0 → PlanAccepted l d plan short asked
plan_accepted l d plan short asked rest w e =
    let a = accepted l d (beside_plan l (length plan) short asked) rest w e in
    let p = past l d (beside_plan l (length plan) short asked) rest e in
    let q : (not (eqb (length plan) (plan_length l)) ≡ false) × (short ≡ false) = or_split p.lengths in
    let long : length plan ≡ plan_length l = eqb-true (length plan) (plan_length l) (not-false _ q.0) in
    let fits : seats d ≤ plan_length l = mul-le-mul a.choosers a.slots in
    record { day = a; long = q.1; inside = p.asked; seats_in = fits; plan_in = omega (arith, long, fits) }

-- the number of such a call is 0
pub plan_number_lem : (l : Limits) (d : InputData) (plan : List ℕ) (short asked : Bool) → Within l → plan_number l d plan short asked ≡ 0 → PlanAccepted l d plan short asked
unfolding plan_number
plan_number_lem l d plan short asked w e = plan_accepted l d plan short asked (first_of (bad_plan d.choices (seats d) plan) 13 0) w e

-- its plan has room for the day's seats
pub plan_inside : (l : Limits) (d : InputData) (plan : List ℕ) (short asked : Bool) → Within l → 0 ≡ plan_number l d plan short asked → InPlan d.choosers d.slots (length plan)
plan_inside l d plan short asked w e =
    let p = plan_number_lem l d plan short asked w (sym e) in
    let s = small w p.day in
    record { few = s.choosers; short = s.slots; inside = p.plan_in }

-- a call that is asked about a chooser and something else
pub asked_chooser : (l : Limits) (d : InputData) (plan : List ℕ) (c : ℕ) (other : Bool) → Within l → 0 ≡ plan_number l d plan false (leb d.choosers c || other) → c < d.choosers
asked_chooser l d plan c other w e = leb-false d.choosers c (or_split (plan_number_lem l d plan false (leb d.choosers c || other) w (sym e)).inside).0

pub asked_slot : (l : Limits) (d : InputData) (plan : List ℕ) (c s : ℕ) → Within l → 0 ≡ plan_number l d plan false (leb d.choosers c || leb d.slots s) → s < d.slots
asked_slot l d plan c s w e = leb-false d.slots s (or_split (plan_number_lem l d plan false (leb d.choosers c || leb d.slots s) w (sym e)).inside).1

-- ---- results of calls that are lent a day

-- the answer of a call that is refused has the number of the refusal
pub exit_refused : {A X : Type 0} (answered : Result A Refusal → X) (refused : ℕ → X) → ((r : Refusal) → answered (Err r) ≡ refused (number r)) → (res : Result A Refusal) (r : Refusal) (n : ℕ) (done : X) → IsErrAnd res (λ y. y ≡ r) → number r ≡ n → answered res ≡ cond (eqb n 0) done (refused n)
exit_refused answered refused gives res r n done h e =
    let p = err_from_is_err_and res h in
    let q : n ≢ 0 = λ z. some_number r (e ∙ z) in
    ap answered p.1 ∙ gives p.0 ∙ ap refused (ap number p.2 ∙ e) ∙ rw (ne_eqb n 0 q)

-- a day that is not read is refused by 2
pub unread : (l : Limits) (day : List ℕ) (wrong : Bool) (n : ℕ) {r : Refusal} → Err r ≡ day_read day → number r ≡ lent_number l day wrong n
unread l day wrong n e = let p = read_err day e in p.1 ∙ lent_short l day wrong n p.0

-- of a day that is read, the number is that of its own tests
pub plan_read : (l : Limits) (day plan : List ℕ) (short : Bool) (asked : InputData → Bool) {d : InputData} {n : ℕ} → Ok d ≡ day_read day → n ≡ plan_number l d plan short (asked d) → n ≡ lent_number l day false (plan_number l (day_of day) plan short (asked (day_of day)))
unfolding plan_number
plan_read l day plan short asked e p =
    let q = read_ok day e in
    let d = day_of day in
    p ∙ ap (λ x. plan_number l x plan short (asked x)) q.1 ∙ sym (lent_is l day false (beside_plan l (length plan) short (asked d)) (first_of (bad_plan d.choices (seats d) plan) 13 0) q.0 refl)

-- ---- the calls about a chooser

module _ (l : Limits) (day plan : List ℕ) (c k : ℕ) where
  pub in_choice_unread : (res : Result Bool Refusal) (r : Refusal) → Err r ≡ day_read day → IsErrAnd res (λ y. y ≡ r) → in_choice_answered res ≡ in_choice_lent l day plan c k
  unfolding in_choice_lent
  in_choice_unread res r e h = exit_refused in_choice_answered (λ n. in_choice n false) (λ y. refl) res r _ _ h (unread l day false _ e)

  pub in_choice_refused : (d : InputData) {T : Type 0} (q : Result T Refusal) (res : Result Bool Refusal) (r : Refusal) → q ≡ Err r → IsErrAnd res (λ y. y ≡ r) → Ok d ≡ day_read day → outcome q ≡ in_choice_number l d plan c k → in_choice_answered res ≡ in_choice_lent l day plan c k
  unfolding in_choice_lent
  in_choice_refused d q res r f h e p = exit_refused in_choice_answered (λ n. in_choice n false) (λ y. refl) res r _ _ h (plan_read l day plan false (λ d. leb d.choosers c || leb d.choices k) e (rw f at p))

  pub in_choice_done : (d : InputData) (found : Bool) → Ok d ≡ day_read day → 0 ≡ in_choice_number l d plan c k → found ≡ is_in_choice d.slots plan c k → in_choice 0 found ≡ in_choice_lent l day plan c k
  unfolding in_choice_lent
  in_choice_done d found e p q = rw (sym (plan_read l day plan false (λ d. leb d.choosers c || leb d.choices k) e p), q, (read_ok day e).1)

module _ (l : Limits) (day plan : List ℕ) (c s : ℕ) where
  pub choice_unread : (res : Result ℕ Refusal) (r : Refusal) → Err r ≡ day_read day → IsErrAnd res (λ y. y ≡ r) → choice_answered res ≡ choice_lent l day plan c s
  unfolding choice_lent
  choice_unread res r e h = exit_refused choice_answered (λ n. choice n 0) (λ y. refl) res r _ _ h (unread l day false _ e)

  pub choice_refused : (d : InputData) {T : Type 0} (q : Result T Refusal) (res : Result ℕ Refusal) (r : Refusal) → q ≡ Err r → IsErrAnd res (λ y. y ≡ r) → Ok d ≡ day_read day → outcome q ≡ choice_number l d plan c s → choice_answered res ≡ choice_lent l day plan c s
  unfolding choice_lent
  choice_refused d q res r f h e p = exit_refused choice_answered (λ n. choice n 0) (λ y. refl) res r _ _ h (plan_read l day plan false (λ d. leb d.choosers c || leb d.slots s) e (rw f at p))

  pub choice_done : (d : InputData) (k : ℕ) → Ok d ≡ day_read day → 0 ≡ choice_number l d plan c s → k ≡ choice_of d.slots plan c s → choice 0 k ≡ choice_lent l day plan c s
  unfolding choice_lent
  choice_done d k e p q = rw (sym (plan_read l day plan false (λ d. leb d.choosers c || leb d.slots s) e p), q, (read_ok day e).1)
