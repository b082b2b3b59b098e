-- What input satisfies that a model is built from: the day, the state's lists, its covered counts and its blocks. Assumes nothing.
use Rattle.std.specs.Prelude.{ℕ, ◌<◌, ◌≤◌, ◌≡◌, refl, Bool, true, false, ◌||◌, ltb, length, get_or}
use borrow.Author.Tests.{eqb-true, ltb-false, not-false}
use Rattle.counting.specs.Tests.{or_split, none_each, never}
use Rattle.input_data.specs.Lengths.{Within, lists_length}
use Rattle.input_data.specs.declared.Limits.{Limits}
use Rattle.scheduling.specs.Schedule.{entry_at}
use Rattle.slot_lists.specs.HeldLaws.{Held, held}
use Rattle.slot_lists.specs.Held.{misheld}
use Rattle.blocks.specs.Blocks.{cell}
use Rattle.schedule_state.specs.Good.{Ready, kept_fits}
use Rattle.schedule_state.specs.Numbers.{StateAccepted, state_accepted}
use Rattle.schedule_state.specs.State.{covered_at, blocked_at, unlike, miscounted, miscounted_in, miscounted_at, misblocked, misblocked_row, misblocked_at}
use Rattle.model_buffers.specs.Lengths.{short_buffers}
use Rattle.model_buffers.specs.declared.Lengths.{Lengths}
use Rattle.plans.specs.Model.{ModelInput, entries_of, wrong_model_tables, beside_model, number_with}

pub record Good (l : Limits) (x : ModelInput) : Type 0 where
  pub ready : Ready l x.day (length x.lists)
  -- an entry is 0, or s + 1 for a slot s of the day
  pub fits : (k : ℕ) → k < x.day.choices → entry_at (entries_of x) k ≤ x.day.slots
  pub lists : Held l.choices (entry_at (entries_of x)) x.day.choices x.day.slots x.lists
  pub covered : (s : ℕ) → s < x.day.slots → get_or x.state.covered s 0 ≡ covered_at x.day (entries_of x) s
  pub blocks : (c k : ℕ) → c < x.day.choosers → k < x.day.choices → get_or x.state.blocks (cell c k) false ≡ blocked_at x.day (entries_of x) c k

unlike_not : (a b : Bool) → unlike a b ≡ false → a ≡ b
unlike_not true true e = refl
unlike_not true false e = never e
unlike_not false true e = never e
unlike_not false false e = refl

-- where the lengths are right, the lists have theirs
lists_long : (size most : ℕ) (tables buffers short : Bool) → (tables || ltb size most || buffers || short) ≡ false → most ≤ size
lists_long size most tables buffers short e =
    let p : ((tables || ltb size most || buffers) ≡ false) × (short ≡ false) = or_split e in
    let q : ((tables || ltb size most) ≡ false) × (buffers ≡ false) = or_split p.0 in
    let r : (tables ≡ false) × (ltb size most ≡ false) = or_split q.0 in
    ltb-false size most r.1

-- the lists' length is one of the lengths that these calls test
pub model_room : (l : Limits) (x : ModelInput) (lens : Lengths) (short : Bool) → (beside_model l x lens short).bad_lengths ≡ false → lists_length l ≤ length x.lists
model_room l x lens short e = lists_long (length x.lists) (lists_length l) (wrong_model_tables x) (short_buffers l lens) short e

module _ (l : Limits) (x : ModelInput) (lens : Lengths) (short : Bool) (w : Within l) (e : number_with l x lens short ≡ 0) where
  pub model_accepted : StateAccepted l x.day x.state (beside_model l x lens short) false x.lists
  model_accepted = state_accepted l x.day x.state (beside_model l x lens short) false x.lists w (model_room l x lens short) e

  abbrev held_ill : Bool
  held_ill = misheld l.choices (entry_at (entries_of x)) x.day.choices x.day.slots x.lists

  abbrev count_ill : Bool
  count_ill = miscounted x.day (entries_of x) x.state.covered

  abbrev block_ill : Bool
  block_ill = misblocked (blocked_at x.day (entries_of x)) x.day.choosers x.day.choices x.state.blocks

  pub good : Good l x
  unfolding miscounted_in misblocked
  good =
      let a = model_accepted in
      let p : ((held_ill || count_ill) ≡ false) × (block_ill ≡ false) = or_split a.consistent in
      let q : (held_ill ≡ false) × (count_ill ≡ false) = or_split p.0 in
      record {
        ready = a.ready;
        fits = kept_fits a.ready x.state.schedule a.inside;
        lists = held l.choices (entry_at (entries_of x)) x.day.choices x.day.slots x.lists q.0;
        covered = λ s h. eqb-true _ _ (not-false _ (none_each x.day.slots (miscounted_at (covered_at x.day (entries_of x)) x.state.covered) q.1 s h));
        blocks = λ c k h g. unlike_not _ _ (none_each x.day.choices (misblocked_at (blocked_at x.day (entries_of x)) x.state.blocks c)
            (none_each x.day.choosers (misblocked_row (blocked_at x.day (entries_of x)) x.day.choices x.state.blocks) p.1 c h) k g);
      }
