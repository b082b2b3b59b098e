-- Which plans can be had from a state: the proofs of CanBeHad.antt. Assumes nothing.
use Rattle.std.specs.Prelude.{ℕ, ◌+◌, ◌*◌, ◌/◌, ◌%◌, ◌<◌, ◌≡◌, Bool, false, cond, List, eqb, ltb, ℤ, length, get_or}
use Rattle.std.proofs.Common.{sym, ◌∙◌, subst, div-add-mod', mod-lt, div-lt_iff_lt-mul, le_refl, arith, ext_get_or}
use Rattle.std.proofs.Math.Path.{ap, fun_ext}
use Rattle.std.proofs.Math.IntN.{pos}
use Rattle.std.specs.Int.Signed.{mag, non_neg}
use borrow.Author.Tests.{lt-ltb, le-ltb}
use Rattle.counting.specs.Fold.{gate, table_to}
use Rattle.counting.specs.Lists.{length_table, table_at}
use Rattle.counting.specs.Tests.{eq_cases}
use Rattle.input_data.specs.Lengths.{Within, edges_length, plan_length}
use Rattle.input_data.specs.declared.Limits.{Limits}
use Rattle.input_data.specs.declared.InputData.{InputData}
use Rattle.schedule_state.specs.Good.{choices_most}
use Rattle.model_buffers.specs.Lengths.{short_values}
use Rattle.model_buffers.specs.declared.Lengths.{Lengths}
use Rattle.edge_values.specs.Values.{value_at, values_number}
use Rattle.plans.specs.Model.{ModelInput, entries_of, seats_of, network_of, plan_of, number_with, model_number, enter_number}
use Rattle.plans.specs.Read.{read}
use Rattle.plans.specs.Seatable.{Seatable, choice_in}
use Rattle.plans.specs.CanBeHad.{CanBeHad, PlansSeatable, SamePlans, WithinLimit}
use Rattle.plans.specs.Good.{Good, good}
use Rattle.plans.specs.Pairs.{gate_on, sum_ext, value_ext}
use Rattle.plans.specs.Flow.{Flow, meets, along_value, flow_accepted}
use Rattle.plans.specs.SeatPairs.{frame_of, edge_count, row_at, item_at, model_edges, edges_room, read_value}
use Rattle.plans.specs.Balance.{Passed, passed_outside, passed_unbalanced}
use Rattle.plans.specs.Decode.{all_passed, values_zero, values_passed, read_flow, has_same, chosen_has, plan_length_lem, plan_at}
use Rattle.plans.specs.Seated.{Reads, flow_seatable, seated_together, table, table_flow, table_reads}
use Rattle.plans.proofs.Together.{together_iff}

-- the number of a check: that before the values, and that of the values
cond_zero : (n m : ℕ) → cond (eqb n 0) m n ≡ 0 → (n ≡ 0) × (m ≡ 0)
cond_zero n m e = eq_cases n 0 (λ p t. (p, rw t at e)) (λ p t. absurd (p (rw t at e)))

-- accepted values decode to a plan that seats everybody
module _ (l : Limits) (w : Within l) (x : ModelInput) (lens : Lengths) (short : Bool) (e : number_with l x lens short ≡ 0) (vs : List ℤ) (v : values_number (network_of l x) vs ≡ 0) where
  abbrev g : Good l x
  g = good l x lens short w e

  abbrev passed : Passed l x g vs
  passed = values_passed l x lens short w e vs v

  decoded_reads : (c s : ℕ) → c < x.day.choosers → s < x.day.slots → Reads l x g (plan_of l x vs) (read (seats_of l x) vs) c s
  decoded_reads c s h i =
      let r = chosen_has l x g vs passed c s h i in
      let n = sym (plan_at l x vs c s h i) in
      record { choice = rw n at r.choice; slot = rw n at r.slot; one = rw n at r.one }

  decoded_seatable : Seatable x.day (entries_of x) x.limit x.preferences (plan_of l x vs)
  decoded_seatable =
      let a = all_passed (network_of l x) vs v in
      flow_seatable l x g (plan_of l x vs) (read (seats_of l x) vs) (read_flow l x g vs passed) decoded_reads (plan_length_lem l x vs)
      ((together_iff l x lens short w e vs (λ i h. passed.whole_values i (omega arith))).0 (a.used, a.uneven))

had_seatable : (l : Limits) → Within l → (x : ModelInput) (plan : List ℕ) → CanBeHad l x plan → Seatable x.day (entries_of x) x.limit x.preferences plan
had_seatable l w x plan h =
    let z = cond_zero (enter_number l x h.lengths (length h.values) h.room) (values_number (network_of l x) h.values) h.accepted in
    subst (λ p. Seatable x.day (entries_of x) x.limit x.preferences p) h.decodes
    (decoded_seatable l w x h.lengths (short_values l (length h.values) h.room) z.0 h.values z.1)

-- a plan that seats everybody, as values
module _ (l : Limits) (w : Within l) (x : ModelInput) (lens : Lengths) (e : model_number l x lens ≡ 0) (plan : List ℕ)
    (ok : Seatable x.day (entries_of x) x.limit x.preferences plan) where
  abbrev gd : Good l x
  gd = good l x lens false w e

  abbrev along : ℕ → ℕ
  along i = table l x gd plan (row_at l x i) (item_at l x i)

  -- the edges' values, then zeros
  lay_at : ℕ → ℤ
  lay_at i = pos (gate (ltb i (edge_count l x)) (along i))

  laid : List ℤ
  laid = table_to (edges_length l) lay_at

  laid_at : (i : ℕ) → i < edge_count l x → value_at laid i ≡ pos (along i)
  unfolding laid lay_at
  laid_at i h = table_at (edges_length l) lay_at (pos 0) i (omega (arith, edges_room l x gd)) ∙ ap pos (gate_on (along i) (lt-ltb i (edge_count l x) h))

  laid_mag : (i : ℕ) → i < edge_count l x → mag (value_at laid i) ≡ along i
  laid_mag i h = ap mag (laid_at i h)

  tabled : Flow (frame_of l x gd) (table l x gd plan)
  tabled = table_flow l x gd plan ok

  meets_same : (ends : ℕ → ℕ) → meets (edge_count l x) ends along ≡ meets (edge_count l x) ends (λ i. mag (value_at laid i))
  meets_same ends = fun_ext (λ p. sum_ext (edge_count l x) (λ i. gate (eqb (ends i) p) (along i)) (λ i. gate (eqb (ends i) p) (mag (value_at laid i))) (λ i h. ap (λ (n : ℕ). gate (eqb (ends i) p) n) (sym (laid_mag i h))))

  laid_passed : Passed l x gd laid
  laid_passed =
      let a = flow_accepted (frame_of l x gd) (model_edges l x gd) (table l x gd plan) tabled in
      record {
        whole_values = λ i h. ap non_neg (laid_at i h);
        accepted = record {
          within = λ i h. omega (arith, laid_mag i h, a.within i h);
          kinds = rw (meets_same (λ i. get_or (network_of l x).from i 0), meets_same (λ i. get_or (network_of l x).to i 0)) at a.kinds;
        };
      }

  -- what is read of them is the table
  laid_read : (c k : ℕ) → c < x.day.choosers → k < x.day.choices → read (seats_of l x) laid c k ≡ table l x gd plan c k
  laid_read c k h i =
      read_value l x gd laid c k h (omega (arith, choices_most gd.ready))
      ∙ value_ext (edge_count l x) (row_at l x) (item_at l x) (λ i. mag (value_at laid i)) along laid_mag c k
      ∙ along_value (frame_of l x gd) (model_edges l x gd) (table l x gd plan) tabled c k

  laid_reads : (c s : ℕ) → c < x.day.choosers → s < x.day.slots → Reads l x gd plan (read (seats_of l x) laid) c s
  laid_reads c s h i =
      let r = table_reads l x gd plan ok c s h i in
      record { choice = r.choice; slot = r.slot; one = laid_read c (choice_in x.day plan c s) h r.choice ∙ r.one }

  laid_zero : values_number (network_of l x) laid ≡ 0
  laid_zero =
      let t = (together_iff l x lens false w e laid (λ i h. laid_passed.whole_values i (omega arith))).1
      (seated_together l x gd plan (read (seats_of l x) laid) (read_flow l x gd laid laid_passed) laid_reads ok) in
      values_zero (network_of l x) laid (record {
        outside = passed_outside l x gd laid laid_passed;
        used = t.0;
        uneven = t.1;
        unbalanced = passed_unbalanced l x gd laid laid_passed;
      })

  laid_decodes : plan_of l x laid ≡ plan
  laid_decodes = ext_get_or 0 (plan_of l x laid) plan (plan_length_lem l x laid ∙ sym ok.long) (λ i h.
      let n : i < x.day.choosers * x.day.slots = omega (arith, plan_length_lem l x laid) in
      let hs : 0 < x.day.slots = eq_cases x.day.slots 0 (λ z t. absurd (omega (arith, ap (λ (m : ℕ). x.day.choosers * m) z))) (λ z t. omega arith) in
      subst (λ j. get_or (plan_of l x laid) j 0 ≡ get_or plan j 0) (div-add-mod' i x.day.slots) (cell (i / x.day.slots) (i % x.day.slots) ((div-lt_iff_lt-mul hs).1 n) (mod-lt i hs)))
    where
      cell : (c s : ℕ) → c < x.day.choosers → s < x.day.slots → get_or (plan_of l x laid) (c * x.day.slots + s) 0 ≡ get_or plan (c * x.day.slots + s) 0
      cell c s h i = plan_at l x laid c s h i
          ∙ has_same l x gd laid laid_passed c s _ _ h i (chosen_has l x gd laid laid_passed c s h i)
          (let r = laid_reads c s h i in record { choice = r.choice; slot = r.slot; one = r.one })

  roomy : short_values l (length laid) (plan_length l) ≡ false
  unfolding laid
  roomy = rw (length_table (edges_length l) lay_at, le-ltb (edges_length l) (edges_length l) (le_refl (edges_length l)), le-ltb (plan_length l) (plan_length l) (le_refl (plan_length l)))

  seatable_had : CanBeHad l x plan
  seatable_had = record {
    lengths = lens;
    room = plan_length l;
    values = laid;
    accepted = rw (roomy, e) laid_zero;
    decodes = laid_decodes;
  }

pub plans_seatable : PlansSeatable
plans_seatable l w x lens e plan = (had_seatable l w x plan, seatable_had l w x lens e plan)

-- what seats everybody depends on the day, the schedule, the limit and the preferences alone
seatable_same : {d d' : InputData} {sch sch' : List ℕ} {limit limit' : ℕ} {ps ps' plan : List ℕ} → d ≡ d' → sch ≡ sch' → limit ≡ limit' → ps ≡ ps' → Seatable d sch limit ps plan → Seatable d' sch' limit' ps' plan
seatable_same p q r t h = rw (p, q, r, t) at h

pub same_plans : SamePlans
same_plans l w x y lens e f day sch limit preferences plan = (
  (λ h. seatable_had l w y lens f plan (seatable_same day sch limit preferences (had_seatable l w x plan h))),
  (λ h. seatable_had l w x lens e plan (seatable_same (sym day) (sym sch) (sym limit) (sym preferences) (had_seatable l w y plan h))),
)

pub within_limit : WithinLimit
within_limit l w x plan h c s hc hs = ((had_seatable l w x plan h).seat c s hc hs).preference
