-- What a run remembers serves later searches (Memory.antt). Assumes nothing.
use Rattle.std.specs.Prelude.{ℕ, ◌≡◌, Bool, true, not, ◌&&◌, ◌||◌, List, [], ◌∷◌, ◌++◌}
use Rattle.std.proofs.Math.Path.{refl}
use Rattle.std.proofs.Common.{sym, ap, ◌∙◌, eq-eqb}
use Rattle.std.proofs.Math.Bool.{false}
use Rattle.std.proofs.lemmas.Bool.{not-false}
use Rattle.counting.specs.FoldLaws.{fold_ext}
use Rattle.counting.specs.Tests.{bool_cases, lt_cases, and_split, each_below}
use Rattle.input_data.specs.Accepted.{number_past, number_zero}
use Rattle.input_data.specs.Checks.{first_of}
use Rattle.input_data.specs.Lengths.{Within}
use Rattle.input_data.specs.declared.InputData.{InputData}
use Rattle.input_data.specs.declared.Limits.{Limits}
use Rattle.scheduling.specs.Handed.{kept_of, outside}
use Rattle.scheduling.specs.Schedule.{entry_at, kept_at}
use Rattle.scheduling.specs.declared.Scheduling.{Scheduling}
use Rattle.assignment.specs.Calls.{seats}
use Rattle.assignment.specs.Plan.{kept_plan}
use Rattle.preference_search.specs.Search.{Told, Outcome, searched}
use Rattle.preference_search.specs.Steps.{cached, same_setting, differs_in, is_equal, remembers, remembered, begun_step, begun_answer}
use Rattle.preference_search_checks.specs.Checks.{beside_levels, outside_cached, bad_cached, begin_number}
use Rattle.assignment_solver.specs.Calls.{begin_answer}
use Rattle.preference_search.specs.declared.CachedAssignment.{CachedAssignment}
use Rattle.preference_search.specs.declared.Known.{Known}
use Rattle.preference_search.specs.declared.Search.{Search}
use Rattle.preference_search.specs.declared.SearchAnswer.{SearchAnswer}
use Rattle.preference_search_runs.specs.Memory.{search_after, OfDay, Equal, Recalled, RunServes}
use Rattle.preference_search_runs.specs.Run.{run, asks_of, counted, outcome, memory, SameAsSearch}
use Rattle.preference_search_runs.specs.Whole.{Standing, standing, Sound, searched_sound, begin_is, run_is_search}

-- ---- equal schedules

-- .. are handed back as the same bytes
kept_equal : (d : InputData) (a b : Scheduling) → Equal d a b → kept_of d a ≡ kept_of d b
kept_equal d a b p = fold_ext ◌++◌ [] 32 (λ k. kept_at d.choices a.entries k ∷ []) (λ k. kept_at d.choices b.entries k ∷ [])
    (λ k h. ap (λ (v : ℕ). v ∷ []) (lt_cases k d.choices (λ x e. rw e (p.at k x)) (λ x e. rw e)))

same_setting_lem : (g : Bool) → same_setting g g ≡ true
same_setting_lem true = refl
same_setting_lem false = refl

equal_itself : (n : ℕ) (sch : List ℕ) → is_equal n sch sch ≡ true
equal_itself n sch = ap not (each_below 32 n (differs_in sch sch) (λ k h. ap not (eq-eqb (entry_at sch k) (entry_at sch k) refl)))

remembers_itself : (n : ℕ) (greedy : Bool) (sch plan : List ℕ) → remembers n sch greedy (cached true greedy sch plan) ≡ true
unfolding remembers
remembers_itself n greedy sch plan = rw (same_setting_lem greedy, equal_itself n sch)

-- ---- a memory that 11 and 13 pass

record Fits (d : InputData) (c : CachedAssignment) : Type 0 where
  inside : outside_cached d c ≡ false
  good : bad_cached d c ≡ false

module _ {l : Limits} {d : InputData} {levels sch : List ℕ} {c₀ : CachedAssignment} (st : Standing l d levels sch c₀) where
  -- what is remembered of what is known
  remembered_fits : (greedy : Bool) (k : Known) → Sound d sch k → Fits d (remembered greedy sch k c₀)
  remembered_fits greedy k w = bool_cases (k.found && k.optimal)
      (λ e.
      let f : (k.found ≡ true) × (k.optimal ≡ true) = and_split e in
      rw e (record { inside = st.inside; good = rw f.0 at w.good }))
      (λ e. rw e (record { inside = st.cached_inside; good = st.cached_good }))

  accepts : {c : CachedAssignment} → Fits d c → (sch' : Scheduling) (levels' : List ℕ) → OfDay d sch' levels' → begin_number l d sch' levels' c ≡ 0
  unfolding begin_number first_of
  accepts {c = c} f sch' levels' o =
      let b = beside_levels d levels' false in
      let rest = first_of (outside d sch' || outside_cached d c) 11 (first_of (bad_cached d c) 13 0) in
      let z = number_zero l d (beside_levels d levels false) 0 st.day b (record { lengths = refl; preferences = refl; levels = o.ascend; costs = refl; asked = refl; none = refl }) in
      number_past l d b 0 rest z ∙ rw (o.inside, f.inside, f.good)

-- ---- a run

module _ (l : Limits) (d : InputData) (sch : Scheduling) (levels : List ℕ) (bound : ℕ) (greedy : Bool) (c : CachedAssignment) (w : Within l) (e : begin_number l d sch levels c ≡ 0) (ts : List Told) where
  abbrev hit : Bool
  hit = remembers d.choices (kept_of d sch) greedy c

  abbrev left : Search
  left = search_after l d sch levels bound greedy c ts

  -- the search that is made where nothing is remembered
  abbrev made : Outcome
  made = searched greedy levels bound d.max_preference (seats d) (counted l d (kept_of d sch) ts)

  abbrev whole : Outcome
  whole = outcome d sch levels bound greedy c (counted l d (kept_of d sch) ts)

  st : Standing l d levels (kept_of d sch) c
  st = standing l d sch levels bound greedy c w e

  abbrev begin : SearchAnswer
  begin = begin_answer l d sch levels bound greedy c

  is : SameAsSearch whole (memory hit (kept_of d sch) greedy whole c) (asks_of l d levels begin ts) (run l d levels begin ts)
  is = (run_is_search l d sch levels bound greedy c w e ts).is

  made_sound : Sound d (kept_of d sch) made.known
  made_sound = searched_sound st greedy bound ts

  older : Fits d c
  older = record { inside = st.cached_inside; good = st.cached_good }

  memory_fits : Fits d left.cached
  memory_fits = rw is.remembers_it (bool_cases hit
      (λ h. rw h older)
      (λ h. rw h (bool_cases made.over (λ t. rw t (remembered_fits st greedy made.known made_sound)) (λ t. rw t older))))

  -- a run that has ended with an optimal plan
  module _ (ended : left.asking ≡ false) (found : left.found ≡ true) (optimal : left.optimal ≡ true) where
    over_is : whole.over ≡ true
    over_is = not-false _ (sym is.waits ∙ ended)

    found_is : whole.known.found ≡ true
    found_is = sym (ap (λ (k : Known). k.found) is.knows_it) ∙ found

    optimal_is : whole.known.optimal ≡ true
    optimal_is = sym (ap (λ (k : Known). k.optimal) is.knows_it) ∙ optimal

    -- it was answered from memory, and that stays, or it remembers its plan
    kept_is : (hit ≡ true → left.cached ≡ c) × (hit ≡ false → left.cached ≡ cached true greedy (kept_of d sch) whole.known.plan)
    kept_is = (λ h. is.remembers_it ∙ rw h, λ h. is.remembers_it ∙ rw (over_is, found_is, optimal_is, h))

    own_remembered : remembers d.choices (kept_of d sch) greedy left.cached ≡ true
    own_remembered = bool_cases hit
        (λ h. rw (kept_is.0 h) h)
        (λ h. rw (kept_is.1 h) (remembers_itself d.choices greedy (kept_of d sch) whole.known.plan))

    plan_of_lem : left.plan ≡ whole.known.plan
    plan_of_lem = ap (λ (k : Known). k.plan) is.knows_it

    plan_kept : kept_plan (seats d) left.cached.plan ≡ left.plan
    plan_kept = bool_cases hit
        (λ h. ap (λ (x : CachedAssignment). kept_plan (seats d) x.plan) (kept_is.0 h) ∙ sym (plan_of_lem ∙ rw h))
        (λ h.
        let k : whole ≡ made = rw h in
        ap (λ (x : CachedAssignment). kept_plan (seats d) x.plan) (kept_is.1 h) ∙ rw k (made_sound.whole (rw k at found_is)) ∙ sym plan_of_lem)

  -- the answer to a later search of a schedule that is remembered
  recalls : (sch' : Scheduling) (levels' : List ℕ) (bound' : ℕ) → OfDay d sch' levels' → remembers d.choices (kept_of d sch') greedy left.cached ≡ true → Recalled (kept_plan (seats d) left.cached.plan) (begin_answer l d sch' levels' bound' greedy left.cached)
  unfolding begun_answer begun_step
  recalls sch' levels' bound' o h = rw (begin_is l d sch' levels' bound' greedy left.cached w (accepts st memory_fits sch' levels' o)) (rw h (record { done = refl; ended = refl; asks = refl; level = refl; found = refl; optimal = refl; plan_is = refl }))

  pub run_serves : RunServes l d sch levels bound greedy c ts
  run_serves = record {
    serves = record {
      accepted = accepts st memory_fits;
      answers = recalls;
      remembers_it = λ a f q sch' p. rw (kept_equal d sch' sch p) (own_remembered a f q);
      plan_is = plan_kept;
    };
  }
