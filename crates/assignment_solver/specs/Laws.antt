-- Answers of begin and tell as the code comes to them: by their numbers, and from the parts of a step. Assumes nothing.
use Rattle.std.specs.Prelude.{refl, Result, Ok, Err, IsErrAnd, ℕ, ◌+◌, ◌<◌, ◌≡◌, Bool, false, ◌||◌, ◌&&◌, List}
use Rattle.std.proofs.Common.{sym, ap, ◌∙◌}
use Rattle.refusal.specs.Number.{outcome}
use Rattle.refusal.specs.declared.Refusal.{Refusal}
use Rattle.input_data.specs.Read.{day_read}
use Rattle.input_data.specs.ReadLaws.{read_ok}
use Rattle.assignment.specs.Laws.{exit_refused, unread}
use Rattle.preference_search.specs.Answered.{looked_at, range_by, search_answered}
use Rattle.preference_search.specs.declared.Asked.{Asked}
use Rattle.preference_search.specs.declared.Range.{Range}
use Rattle.preference_search_checks.specs.Numbers.{begin_number_read, tell_number_read}
use Rattle.input_data.specs.declared.InputData.{InputData}
use Rattle.input_data.specs.declared.Limits.{Limits}
use Rattle.scheduling.specs.Handed.{schedule_of, not_schedule, kept_of}
use Rattle.preference_search.specs.Search.{LimitSolveResult, Feasible, Infeasible, Incomplete, Told, told, is_feasible, middle}
use Rattle.preference_search.specs.Bytes.{not_cached, not_search, cached_in, search_in}
use Rattle.preference_search.specs.Steps.{search_refused, search_answer, begun_answer, asked_again, most_asks_of, told_range, told_step, told_answer}
use Rattle.preference_search.specs.Laws.{is_infeasible, told_again}
use Rattle.preference_search_checks.specs.Checks.{held_number, tell_number}
use Rattle.preference_search_checks.specs.Read.{begin_read_number, tell_read_number}
use Rattle.assignment_solver.specs.Calls.{begin_lent, tell_lent}
use Rattle.preference_search.specs.declared.CachedAssignment.{CachedAssignment}
use Rattle.preference_search.specs.declared.Search.{Search}
use Rattle.preference_search.specs.declared.SearchAnswer.{SearchAnswer}

module _ (l : Limits) (day sch levels c : List ℕ) (bound : ℕ) (greedy : Bool) where
  pub begin_unread : (res : Result Asked Refusal) (r : Refusal) → Err r ≡ day_read day → IsErrAnd res (λ y. y ≡ r) → search_answered res ≡ begin_lent l day sch levels bound greedy c
  unfolding begin_lent
  begin_unread res r e h = exit_refused search_answered search_refused (λ y. refl) res r _ _ h (unread l day (not_schedule sch || not_cached c) _ e)

  pub begin_refused : (d : InputData) {T : Type 0} (q : Result T Refusal) (res : Result Asked Refusal) (r : Refusal) → q ≡ Err r → IsErrAnd res (λ y. y ≡ r) → Ok d ≡ day_read day → outcome q ≡ begin_read_number l d sch levels c → search_answered res ≡ begin_lent l day sch levels bound greedy c
  unfolding begin_lent
  begin_refused d q res r f h e p = exit_refused search_answered search_refused (λ y. refl) res r _ _ h (begin_number_read l day sch levels c e (rw f at p))

  pub begin_done : (d : InputData) (h : CachedAssignment) (a : SearchAnswer) → Ok d ≡ day_read day → 0 ≡ begin_read_number l d sch levels c → h ≡ cached_in c → a ≡ begun_answer d (schedule_of sch) levels bound greedy h → a ≡ begin_lent l day sch levels bound greedy c
  unfolding begin_lent
  begin_done d h a e p f q = rw (sym (begin_number_read l day sch levels c e p), ← (read_ok day e).1, ← f) q

module _ (l : Limits) (day s levels : List ℕ) (t : Told) where
  pub tell_unread : (res : Result Asked Refusal) (r : Refusal) → Err r ≡ day_read day → IsErrAnd res (λ y. y ≡ r) → search_answered res ≡ tell_lent l day s levels t
  unfolding tell_lent
  tell_unread res r e h = exit_refused search_answered search_refused (λ y. refl) res r _ _ h (unread l day (not_search s) _ e)

  pub tell_refused : (d : InputData) {T : Type 0} (q : Result T Refusal) (res : Result Asked Refusal) (r : Refusal) → q ≡ Err r → IsErrAnd res (λ y. y ≡ r) → Ok d ≡ day_read day → outcome q ≡ tell_read_number l d s levels t → search_answered res ≡ tell_lent l day s levels t
  unfolding tell_lent
  tell_refused d q res r f h e p = exit_refused search_answered search_refused (λ y. refl) res r _ _ h (tell_number_read l day s levels t e (rw f at p))

  pub tell_done : (d : InputData) (h : Search) (a : SearchAnswer) → Ok d ≡ day_read day → 0 ≡ tell_read_number l d s levels t → h ≡ search_in s → a ≡ told_answer d h levels t → a ≡ tell_lent l day s levels t
  unfolding tell_lent
  tell_done d h a e p f q = rw (sym (tell_number_read l day s levels t e p), ← (read_ok day e).1, ← f) q

-- a plan beside an answer that is not feasible is not looked at
pub tell_looked : (l : Limits) (day s levels : List ℕ) (r : LimitSolveResult) (plan : List ℕ) → tell_lent l day s levels (looked_at (told r plan)) ≡ tell_lent l day s levels (told r plan)
unfolding tell_lent tell_number held_number told_answer told_step
tell_looked l day s levels Feasible plan = refl
tell_looked l day s levels Infeasible plan = refl
tell_looked l day s levels Incomplete plan = refl

-- ---- what is told, from its parts

pub told_asks : (d : InputData) (s : Search) (levels : List ℕ) (t : Told) (a : SearchAnswer) {m : ℕ} {r : Range} {sch : List ℕ} {mark : Bool} → r ≡ range_by s → m ≡ middle r.low r.high → sch ≡ kept_of d s.schedule → mark ≡ (is_infeasible t.result && s.optimal) → is_feasible t.result ≡ false → m < r.high → a ≡ search_answer (most_asks_of levels s) (asked_again levels s (m + 1) s.high sch mark) → a ≡ search_answer (most_asks_of levels s) (told_range d s levels t)
told_asks d s levels t a p₁ p₂ p₃ p₄ f h q =
    let h' : middle s.low s.high < s.high = rw (p₂, p₁) at h in
    q ∙ ap (search_answer (most_asks_of levels s)) (rw (p₂, p₁, p₃, p₄) (told_again d s levels t.result t.plan f h'))
