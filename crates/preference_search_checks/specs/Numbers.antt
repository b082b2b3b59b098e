-- What accepted input satisfies, and the numbers as the code comes to them. Assumes nothing.
use Rattle.std.specs.Prelude.{ℕ, ◌≤◌, ◌≡◌, Bool, true, false, not, ◌&&◌, ◌||◌, List, eqb, ltb, leb, length, Ok}
use Rattle.std.proofs.Common.{ap, ◌∙◌, mul-le-mul, arith, eqb-true, ltb-false, leb-false}
use Rattle.std.proofs.lemmas.Bool.{not-false}
use Rattle.counting.specs.Tests.{bool_cases, or_split}
use Rattle.input_data.specs.Accepted.{accepted, past, first_zero}
use Rattle.input_data.specs.Bytes.{not_long, day_of, wider}
use Rattle.input_data.specs.BytesLaws.{lent_number_lem}
use Rattle.input_data.specs.Checks.{first_of, day_number, has_bad_levels}
use Rattle.input_data.specs.Lengths.{Within, plan_length}
use Rattle.input_data.specs.Read.{day_read}
use Rattle.input_data.specs.ReadLaws.{read_ok}
use Rattle.input_data.specs.declared.Limits.{Limits}
use Rattle.input_data.specs.declared.InputData.{InputData}
use Rattle.scheduling.specs.Handed.{schedule_of, not_schedule, outside}
use Rattle.assignment.specs.Calls.{seats}
use Rattle.assignment.specs.Laws.{Small, small}
use Rattle.preference_search.specs.Bytes.{IsCached, IsSearch, not_cached, not_search, cached_in, search_in}
use Rattle.preference_search.specs.Laws.{Holding, Ranged}
use Rattle.preference_search.specs.Search.{Told, is_feasible}
use Rattle.preference_search.specs.declared.Search.{Search}
use Rattle.preference_search_checks.specs.Read.{begin_read_number, tell_read_number}
use Rattle.preference_search_checks.specs.Checks.{beside_levels, wrong_length, outside_cached, begin_number, bad_range, spent_at, spent, bad_cached, bad_told, held_number, tell_number, begin_lent_number, tell_lent_number}

-- ---- laws

is_long : (n : ℕ) (b : List ℕ) → not_long n b ≡ false → length b ≡ n
is_long n b e = eqb-true (length b) n (not-false _ e)

wide : (d : InputData) (levels : List ℕ) (wrong : Bool) → beside_levels d levels wrong ≡ wider wrong (beside_levels d levels false)
wide d levels wrong = bool_cases wrong (λ e. rw e) (λ e. rw e)

levels_few : (m : ℕ) (levels : List ℕ) → has_bad_levels m levels ≡ false → length levels ≤ 256
unfolding has_bad_levels
levels_few m levels e = let p : (ltb 256 (length levels) ≡ false) × (_ ≡ false) = or_split e in ltb-false 256 (length levels) p.0

module _ (l : Limits) (d : InputData) (levels : List ℕ) (wrong : Bool) (rest : ℕ) (w : Within l) (e : day_number l d (beside_levels d levels wrong) rest ≡ 0) where
  -- a day that passes 1 to 10
  pub day_small : Small d
  day_small = small w (accepted l d (beside_levels d levels wrong) rest w e)

  pub day_few : length levels ≤ 256
  day_few = levels_few d.max_preference levels (past l d (beside_levels d levels wrong) rest e).levels

-- a plan of its length has all seats
told_long : (l : Limits) (d : InputData) (levels : List ℕ) (t : Told) → Within l → day_number l d (beside_levels d levels (wrong_length l t)) 0 ≡ 0 → is_feasible t.result ≡ true → seats d ≤ length t.plan
told_long l d levels t w e f =
    let a = accepted l d (beside_levels d levels (wrong_length l t)) 0 w e in
    let p : (is_feasible t.result && not (eqb (length t.plan) (plan_length l))) ≡ false = (past l d (beside_levels d levels (wrong_length l t)) 0 e).lengths in
    let q : not (eqb (length t.plan) (plan_length l)) ≡ false = rw f at p in
    let n : length t.plan ≡ plan_length l = eqb-true _ _ (not-false _ q) in
    let m : seats d ≤ plan_length l = mul-le-mul a.choosers a.slots in
    omega (arith, n, m)

-- a search that 18 does not refuse, and is not greedy
range_of : (s : Search) (levels : List ℕ) → length levels ≤ 256 → spent s (length levels) ≡ false → s.greedy ≡ false → Ranged s levels
unfolding spent_at
range_of s levels few e g =
    let p : ((not s.asking || ltb 256 s.asks) ≡ false) × ((not s.greedy && bad_range s.start s.low s.high (length levels)) ≡ false) = or_split e in
    let q : (not s.asking ≡ false) × (ltb 256 s.asks ≡ false) = or_split p.0 in
    let r : bad_range s.start s.low s.high (length levels) ≡ false = rw g at p.1 in
    let u : ((ltb s.low s.start || ltb s.high s.low) ≡ false) × (leb (length levels) s.high ≡ false) = or_split r in
    let v : (ltb s.low s.start ≡ false) × (ltb s.high s.low ≡ false) = or_split u.0 in
    record {
      few = few;
      from = ltb-false _ _ v.0;
      ascends = ltb-false _ _ v.1;
      to = leb-false _ _ u.1;
      asks = ltb-false _ _ q.1;
    }

-- ---- begin

module _ (l : Limits) (d : InputData) (sch levels c : List ℕ) where
  abbrev opening : Bool
  opening = not_schedule sch || not_cached c

  pub begin_cached : day_number l d (beside_levels d levels opening) 0 ≡ 0 → IsCached c
  begin_cached e =
      let q : (not_schedule sch ≡ false) × (not_cached c ≡ false) = or_split (past l d (beside_levels d levels opening) 0 e).lengths in
      is_long 546 c q.1

-- the number of the call that is lent the day
pub begin_number_read : (l : Limits) (day sch levels c : List ℕ) {d : InputData} {n : ℕ} → Ok d ≡ day_read day → n ≡ begin_read_number l d sch levels c → n ≡ begin_lent_number l day sch levels c
unfolding begin_read_number begin_number
begin_number_read l day sch levels c e p =
    let q = read_ok day e in
    let d = day_of day in
    let wrong = not_schedule sch || not_cached c in
    let late = first_of (outside d (schedule_of sch) || outside_cached d (cached_in c)) 11 (first_of (bad_cached d (cached_in c)) 13 0) in
    rw q.1 at p ∙ ap (λ b. day_number l d b late) (wide d levels wrong) ∙ lent_number_lem l day wrong (beside_levels d levels false) late q.0

-- ---- tell

module _ (l : Limits) (d : InputData) (s levels : List ℕ) (t : Told) where
  abbrev telling : Bool
  telling = not_search s || wrong_length l t

  told_right : day_number l d (beside_levels d levels telling) 0 ≡ 0 → IsSearch s × (day_number l d (beside_levels d levels (wrong_length l t)) 0 ≡ 0)
  told_right e =
      let q : (not_search s ≡ false) × (wrong_length l t ≡ false) = or_split (past l d (beside_levels d levels telling) 0 e).lengths in
      (is_long 1114 s q.0, rw q.0 at e)

  -- once the day has passed
  pub tell_passed : Within l → day_number l d (beside_levels d levels telling) 0 ≡ 0 → Holding d t
  tell_passed w e =
      let f = (told_right e).1 in
      record { small = day_small l d levels (wrong_length l t) 0 w f; long = told_long l d levels t w f }

  pub tell_search : day_number l d (beside_levels d levels telling) 0 ≡ 0 → IsSearch s
  tell_search e = (told_right e).0

  -- once all has passed
  pub tell_range : Within l → tell_read_number l d s levels t ≡ 0 → (search_in s).greedy ≡ false → Ranged (search_in s) levels
  unfolding tell_read_number held_number
  tell_range w e g =
      let h = search_in s in
      let p = (past l d (beside_levels d levels telling) _ e).none in
      let a = first_zero (outside d h.schedule || outside_cached d h.cached) 11 _ (omega arith) p in
      let b = first_zero (bad_told d h t) 13 _ (omega arith) a.1 in
      let c = first_zero (spent h (length levels)) 18 0 (omega arith) b.1 in
      range_of h levels (day_few l d levels telling _ w e) c.0 g

pub tell_number_read : (l : Limits) (day s levels : List ℕ) (t : Told) {d : InputData} {n : ℕ} → Ok d ≡ day_read day → n ≡ tell_read_number l d s levels t → n ≡ tell_lent_number l day s levels t
unfolding tell_read_number tell_number
tell_number_read l day s levels t e p =
    let q = read_ok day e in
    let d = day_of day in
    rw q.1 at p ∙ lent_number_lem l day (not_search s) (beside_levels d levels (wrong_length l t)) (held_number d (search_in s) (length levels) t) q.0
