-- What accepted input satisfies, and the numbers and answers as the code comes to them. Assumes nothing.
use Rattle.std.specs.Prelude.{ℕ, Float, ◌+◌, ◌*◌, ◌<◌, ◌≤◌, ◌≡◌, Bool, true, not, ◌&&◌, ◌||◌, List, ◌≢◌, eqb, leb, ltb, length, Result, Ok, Err, IfOk, refl}
use Rattle.std.proofs.Common.{sym, ◌∙◌, mul-le-mul, arith}
use Rattle.std.proofs.Math.Path.{ap}
use Rattle.std.proofs.Math.Bool.{false, or-false, or_comm}
use borrow.Author.Tests.{eqb-true, eqb-false, eq-eqb, ne_eqb, ltb-false, leb-false, not-false}
use Rattle.assignment.specs.Calls.{beside_plan, seats}
use Rattle.assignment.specs.Laws.{small, seats_most}
use Rattle.assignment.specs.Plan.{choice_of, unseated, bad_plan_for}
use Rattle.counting.specs.Sums.{grid_lt}
use Rattle.counting.specs.Tests.{or_split, none_each}
use Rattle.input_data.specs.Accepted.{Accepted, accepted, past, first_zero}
use Rattle.input_data.specs.Bytes.{IsDay, day_of, wider, lent_number}
use Rattle.input_data.specs.BytesLaws.{lent_short, lent_number_lem, lent_is}
use Rattle.input_data.specs.Checks.{first_of, too_many, day_number, has_bad_preferences, above_at}
use Rattle.input_data.specs.Lengths.{Within, plan_length, preferences_length, powers_length}
use Rattle.input_data.specs.Read.{day_read}
use Rattle.input_data.specs.ReadLaws.{read_ok, read_err}
use Rattle.input_data.specs.declared.Limits.{Limits}
use Rattle.input_data.specs.declared.InputData.{InputData}
use Rattle.input_data.specs.declared.checks.Beside.{Beside}
use Rattle.feasibility.specs.Checks.{bad_seats, parts_number}
use Rattle.feasibility.specs.Feasible.{schedule_feasible, plan_feasible}
use Rattle.feasibility.specs.Laws.{Schedulable, Judged, Parted}
use Rattle.plan_score.specs.Laws.{Weighed}
use Rattle.refusal.specs.Number.{number, outcome}
use Rattle.refusal.specs.Laws.{some_number}
use Rattle.refusal.specs.declared.Refusal.{Refusal}
use Rattle.scheduling.specs.Handed.{schedule_of, not_schedule, outside, kept_of}
use Rattle.scheduling.specs.HandedLaws.{kept_inside}
use Rattle.scheduling.specs.Schedule.{entry_at}
use Rattle.scheduling.specs.ScheduleLaws.{kept_at_lem}
use Rattle.scheduling.specs.declared.Scheduling.{Scheduling}
use Rattle.seat_counts.specs.Laws.{Reading}
use Rattle.slot_lists.specs.SumsLaws.{Weighs}
use Rattle.scoring.specs.Answered.{looked_at, verdict_answered, score_answered}
use Rattle.scoring.specs.Calls.{verdict_of, beside_none, schedule_number, schedule_answer, verdict_number, plan_answer, has_schedule, evaluate_number, evaluate_lent_number, evaluate_lent, schedule_lent, plan_lent}
use Rattle.scoring.specs.Handed.{Parts, parts, with_plan, beside_scoring, schedule_handed, parts_handed, solution_handed, parts_scored, parts_lent}
use Rattle.scoring.specs.Solution.{Solution}
use Rattle.score.specs.declared.Score.{Score}

-- ---- a schedule that was accepted

-- it weighs the day's choices
weighs : {l : Limits} {d : InputData} → Within l → Accepted l d → (sch : Scheduling) → outside d sch ≡ false → (w : List ℕ) → ((k : ℕ) → k < d.choices → entry_at w k ≤ 1000) → Weighs (kept_of d sch) w d.choices
weighs {d = d} w a sch i v light =
    let s = small w a in
    record { count = s.choices; small = λ k h. omega (arith, kept_inside d sch s.choices i k h, s.slots); light = light }

pub schedule_accepted : (l : Limits) (d : InputData) (sch : List ℕ) (b : Beside) → Within l → schedule_handed l d sch b ≡ 0 → Schedulable d (kept_of d (schedule_of sch))
schedule_accepted l d sch b w e =
    let k = schedule_of sch in
    let rest = first_of (outside d k) 11 0 in
    let a = accepted l d (wider (not_schedule sch) b) rest w e in
    let s = small w a in
    let i = (first_zero (outside d k) 11 0 (omega arith) (past l d (wider (not_schedule sch) b) rest e).none).0 in
    record {
      read = record { few = s.choices; short = s.slots; accepted = a.scheduling };
      sizes = record { mins = weighs w a k i d.mins (λ c h. omega (arith, a.min_max c h, a.max_most c h)); maxs = weighs w a k i d.maxs a.max_most };
    }

-- ---- a plan that was accepted beside its schedule

-- of its length, it has room for the day's seats
pub parted : (l : Limits) (d : InputData) (sch plan : List ℕ) (b : Beside) (rest : ℕ) → Within l → day_number l d (wider (not_schedule sch) (with_plan l (length plan) b)) rest ≡ 0 → Parted d (length plan)
parted l d sch plan b rest w e =
    let c = wider (not_schedule sch) (with_plan l (length plan) b) in
    let a = accepted l d c rest w e in
    let u : (not_schedule sch ≡ false) × ((not (eqb (length plan) (plan_length l)) || b.bad_lengths) ≡ false) = or_split (past l d c rest e).lengths in
    let v : (not (eqb (length plan) (plan_length l)) ≡ false) × (b.bad_lengths ≡ false) = or_split u.1 in
    let n : length plan ≡ plan_length l = eqb-true _ _ (not-false _ v.0) in
    let m : seats d ≤ plan_length l = mul-le-mul a.choosers a.slots in
    record { small = small w a; inside = omega (arith, n, m) }

module _ {l : Limits} {d : InputData} (sch : Scheduling) (plan : List ℕ) (w : Within l) (a : Accepted l d) (long : seats d ≤ length plan) (i : outside d sch ≡ false) (b : bad_seats d sch plan ≡ false) where
  entry_fine : (n : ℕ) → n < seats d → (entry_at plan n < d.choices) × (entry_at (kept_of d sch) (entry_at plan n) ≢ 0)
  unfolding bad_plan_for
  entry_fine n h =
      let u : (leb d.choices (entry_at plan n) ≡ false) × (eqb (entry_at sch.entries (entry_at plan n)) 0 ≡ false) = or_split (none_each (seats d) (unseated d.choices sch.entries plan) b n h) in
      let k : entry_at plan n < d.choices = leb-false d.choices (entry_at plan n) u.0 in
      (k, λ z. eqb-false (entry_at sch.entries (entry_at plan n)) 0 u.1 (sym (kept_at_lem d.choices sch.entries (entry_at plan n) k (small w a).choices) ∙ z))

  judged : Judged d (kept_of d sch) plan
  judged =
      let s = small w a in
      record {
        scheduling = record { few = s.choices; short = s.slots; accepted = a.scheduling };
        assignment = record { accepted = a.assignment; inside = record { few = s.choosers; short = s.slots; inside = long } };
        seated = record {
          few = s.choosers;
          short = s.slots;
          inside = long;
          choice = λ c t hc ht. omega (arith, s.choices, (entry_fine (c * d.slots + t) (grid_lt hc ht)).0);
          slot = λ c t hc ht. (entry_fine (c * d.slots + t) (grid_lt hc ht)).1;
          small = λ c t hc ht. omega (arith, s.slots, kept_inside d sch s.choices i (choice_of d.slots plan c t) (entry_fine (c * d.slots + t) (grid_lt hc ht)).0);
        };
        choices = record { few = seats_most s; inside = long; choice = λ n h. omega (arith, s.choices, (entry_fine n h).0) };
      }

  reads : (preferences : List ℕ) → length preferences ≡ preferences_length d → has_bad_preferences d.max_preference preferences ≡ false → Reading d.choosers d.choices d.slots preferences plan
  unfolding has_bad_preferences
  reads preferences n p =
      let s = small w a in
      record {
        few = s.choosers;
        kinds = s.choices;
        short = s.slots;
        inside = long;
        table = omega (arith, n);
        choice = λ c t hc ht. (entry_fine (c * d.slots + t) (grid_lt hc ht)).0;
        small = λ m h. omega (arith, a.max_preference, ltb-false d.max_preference (entry_at preferences m) (none_each (length preferences) (above_at d.max_preference preferences) p m h));
      }

-- the parts pass 11 and 13
parts_fine : (d : InputData) (sch : Scheduling) (plan : List ℕ) → parts_number true true d sch plan ≡ 0 → (outside d sch ≡ false) × (bad_seats d sch plan ≡ false)
unfolding parts_number
parts_fine d sch plan e =
    let p = first_zero (outside d sch) 11 _ (omega arith) e in
    (p.0, (first_zero (bad_seats d sch plan) 13 0 (omega arith) p.1).0)

module _ (l : Limits) (d : InputData) (sch plan : List ℕ) (b : Beside) (w : Within l) (e : parts_handed l d sch plan b ≡ 0) where
  abbrev beside : Beside
  beside = wider (not_schedule sch) (with_plan l (length plan) b)

  abbrev rest : ℕ
  rest = parts_number true true d (schedule_of sch) plan

  day : Accepted l d
  day = accepted l d beside rest w e

  inside : seats d ≤ length plan
  inside = (parted l d sch plan b rest w e).inside

  fine : (outside d (schedule_of sch) ≡ false) × (bad_seats d (schedule_of sch) plan ≡ false)
  fine = parts_fine d (schedule_of sch) plan (past l d beside rest e).none

  pub parts_accepted : Judged d (kept_of d (schedule_of sch)) plan
  parts_accepted = judged (schedule_of sch) plan w day inside fine.0 fine.1

-- .. and tables of their lengths
pub parts_weighed : (l : Limits) (d : InputData) (sch plan preferences : List ℕ) (powers : ℕ) → Within l → parts_handed l d sch plan (beside_scoring d preferences powers) ≡ 0 → Weighed d preferences powers plan
parts_weighed l d sch plan preferences powers w e =
    let b = beside_scoring d preferences powers in
    let p = past l d (beside l d sch plan b w e) (rest l d sch plan b w e) e in
    let u : (not_schedule sch ≡ false) × ((not (eqb (length plan) (plan_length l)) || b.bad_lengths) ≡ false) = or_split p.lengths in
    let v : (not (eqb (length plan) (plan_length l)) ≡ false) × (b.bad_lengths ≡ false) = or_split u.1 in
    let t : (not (eqb (length preferences) (preferences_length d)) ≡ false) × (not (eqb powers (powers_length d)) ≡ false) = or_split v.1 in
    let n : powers ≡ powers_length d = eqb-true _ _ (not-false _ t.1) in
    let a = day l d sch plan b w e in
    let f = fine l d sch plan b w e in
    record {
      reading = reads (schedule_of sch) plan w a (inside l d sch plan b w e) f.0 f.1 preferences (eqb-true _ _ (not-false _ t.0)) p.preferences;
      most = a.max_preference;
      table = omega (arith, n);
    }

-- ---- numbers

-- a day that is not too large can be multiplied
pub cells_most : (l : Limits) (d : InputData) → Within l → too_many l d.choosers d.choices d.slots ≡ false → d.choosers * d.choices ≤ 2048
cells_most l d w e =
    let m : ((ltb l.choosers d.choosers || ltb l.choices d.choices) ≡ false) × (ltb l.slots d.slots ≡ false) = or_split e in
    let n : (ltb l.choosers d.choosers ≡ false) × (ltb l.choices d.choices ≡ false) = or_split m.0 in
    let a : d.choosers ≤ 64 = omega (arith, w.choosers, ltb-false l.choosers d.choosers n.0) in
    let b : d.choices ≤ 32 = omega (arith, w.choices, ltb-false l.choices d.choices n.1) in
    mul-le-mul a b

-- .. and one that is too large is refused by 1, whatever stands beside it
pub many_number : (l : Limits) (d : InputData) (s : Parts) (preferences : List ℕ) (powers : ℕ) → too_many l d.choosers d.choices d.slots ≡ true → 1 ≡ solution_handed l d s preferences powers
unfolding day_number first_of
many_number l d s preferences powers e = rw e refl

-- the number of a solution is that of the parts that it has
module _ (l : Limits) (d : InputData) (sch plan preferences : List ℕ) (powers : ℕ) where
  abbrev tables : Beside
  tables = beside_scoring d preferences powers

  pub invalid_number : {n : ℕ} → n ≡ day_number l d tables 0 → n ≡ solution_handed l d (parts Solution.Invalid sch plan) preferences powers
  unfolding parts_number first_of
  invalid_number p = rw (or-false tables.bad_lengths) p

  pub scheduling_number : {n : ℕ} → n ≡ schedule_handed l d sch tables → n ≡ solution_handed l d (parts Solution.Scheduling sch plan) preferences powers
  unfolding parts_number first_of
  scheduling_number p = rw (or-false tables.bad_lengths) p

  pub complete_number : {n : ℕ} → n ≡ parts_handed l d sch plan tables → n ≡ solution_handed l d (parts Solution.Complete sch plan) preferences powers
  complete_number p = rw (or_comm tables.bad_lengths (not (eqb (length plan) (plan_length l)))) p

-- ---- answers: by the number of a call that is lent a day, as the code comes to it

module _ (l : Limits) (day : List ℕ) (wrong : Bool) (b : Beside) (rest : ℕ) where
  abbrev lent : ℕ
  lent = lent_number l day wrong (day_number l (day_of day) b rest)

  -- a day that is not read is refused by 2, and the number of one that is read is that of its tests
  unread : {r : Refusal} → Err r ≡ day_read day → number r ≡ lent
  unread e = let p = read_err day e in p.1 ∙ lent_short l day wrong (day_number l (day_of day) b rest) p.0

  tested : {d : InputData} {n : ℕ} → Ok d ≡ day_read day → n ≡ day_number l d (wider wrong b) rest → n ≡ lent
  tested e p = let q = read_ok day e in (rw q.1 at p) ∙ lent_number_lem l day wrong b rest q.0

  pub verdict_unread : {r : Refusal} (t : Bool) → Err r ≡ day_read day → verdict_answered (Err r) ≡ verdict_of lent t
  verdict_unread {r = r} t e = rw (← unread e, ne_eqb (number r) 0 (some_number r))

  pub verdict_refused : {d : InputData} (r : Refusal) (t : Bool) → Ok d ≡ day_read day → number r ≡ day_number l d (wider wrong b) rest → verdict_answered (Err r) ≡ verdict_of lent t
  verdict_refused r t e p = rw (← tested e p, ne_eqb (number r) 0 (some_number r))

  pub verdict_given : {d : InputData} (t : Bool) → Ok d ≡ day_read day → 0 ≡ day_number l d (wider wrong b) rest → verdict_answered (Ok t) ≡ verdict_of lent t
  verdict_given t e p = rw (← tested e p)

module _ (l : Limits) (day : List ℕ) (s : Parts) (greedy : Bool) (preferences : List ℕ) (powers : List Float) where
  -- the number of a day that is read
  solution_tested : {d : InputData} {n : ℕ} → Ok d ≡ day_read day → n ≡ solution_handed l d s preferences (length powers) → n ≡ evaluate_lent_number l day s.kind s.schedule s.plan preferences (length powers)
  unfolding evaluate_number
  solution_tested e p = let q = read_ok day e in (rw q.1 at p) ∙ lent_number_lem l day (has_schedule s.kind && not_schedule s.schedule) _ _ q.0

  pub score_unread : {r : Refusal} → Err r ≡ day_read day → score_answered (Err r) ≡ parts_lent l day s greedy preferences powers
  unfolding evaluate_lent evaluate_number
  score_unread {r = r} e = rw (← unread l day (has_schedule s.kind && not_schedule s.schedule) _ _ e, ne_eqb (number r) 0 (some_number r))

  pub score_tested : {d : InputData} (r : Result Score Refusal) → Ok d ≡ day_read day → outcome r ≡ solution_handed l d s preferences (length powers) → IfOk r (λ v. v ≡ parts_scored d s greedy preferences powers)
      → score_answered r ≡ parts_lent l day s greedy preferences powers
  unfolding evaluate_lent
  score_tested (Ok v) e p q = rw (← solution_tested e p, q, (read_ok day e).1)
  score_tested (Err r) e p q = rw (← solution_tested e p, ne_eqb (number r) 0 (some_number r))

-- a part that a solution lacks is not looked at
pub evaluate_looked : (l : Limits) (bytes : List ℕ) (kind : Solution) (sch plan : List ℕ) (greedy : Bool) (preferences : List ℕ) (powers : List Float) → parts_lent l bytes (looked_at (parts kind sch plan)) greedy preferences powers ≡ evaluate_lent l bytes kind sch plan greedy preferences powers
unfolding evaluate_lent evaluate_number parts_number
evaluate_looked l bytes Solution.Invalid sch plan greedy preferences powers = refl
evaluate_looked l bytes Solution.Scheduling sch plan greedy preferences powers = refl
evaluate_looked l bytes Solution.Complete sch plan greedy preferences powers = refl

-- ---- bytes of their lengths: the answers are those on what they stand for

module _ (l : Limits) (day sch : List ℕ) (h : IsDay day) (k : length sch ≡ 32) where
  abbrev d : InputData
  d = day_of day

  right : not_schedule sch ≡ false
  right = ap not (eq-eqb (length sch) 32 k)

  pub schedule_answer_lem : schedule_lent l day sch ≡ schedule_answer l d (schedule_of sch)
  unfolding schedule_lent schedule_answer schedule_number
  schedule_answer_lem = ap (λ n. verdict_of n (schedule_feasible d (kept_of d (schedule_of sch)))) (lent_is l day (not_schedule sch) beside_none _ h right)

  pub plan_answer_lem : (plan : List ℕ) → plan_lent l day sch plan ≡ plan_answer l d (schedule_of sch) plan
  unfolding plan_lent plan_answer verdict_number
  plan_answer_lem plan = ap (λ n. verdict_of n (plan_feasible d (kept_of d (schedule_of sch)) plan)) (lent_is l day (not_schedule sch) (beside_plan l (length plan) false false) _ h right)
