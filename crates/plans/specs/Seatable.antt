-- Which plans seat everybody as the day asks: no slot list, no edge and no order in it. SPEC 7.9. Definitions only.
use Rattle.std.specs.Prelude.{ℕ, suc, ◌+◌, ◌-◌, ◌*◌, ◌<◌, ◌≤◌, ◌≡◌, Bool, false, List, ◌≢◌, eqb, length, get_or}
use Rattle.counting.specs.Fold.{count_to}
use Rattle.constraint.specs.Cases.{target_operand}
use Rattle.constraint.specs.Kind.{kind_number}
use Rattle.input_data.specs.Day.{min_at, max_at, constraint_at}
use Rattle.input_data.specs.declared.InputData.{InputData}
use Rattle.scheduling.specs.Schedule.{entry_at}
use Rattle.schedule_state.specs.State.{blocked_at}
use Rattle.edge_groups.specs.Names.{member_start}

-- the choice that a plan gives chooser c in slot s
abbrev pub choice_in : InputData → List ℕ → ℕ → ℕ → ℕ
choice_in d plan c s = get_or plan (c * d.slots + s) 0

-- chooser c sits in choice k, in its slot; an entry of the schedule is s + 1 for slot s
abbrev pub sits : InputData → List ℕ → List ℕ → ℕ → ℕ → Bool
sits d sch plan c k = eqb (choice_in d plan c (entry_at sch k - 1)) k

-- how many sit in choice k
abbrev pub seats_in : InputData → List ℕ → List ℕ → ℕ → ℕ
seats_in d sch plan k = count_to d.choosers (λ c. sits d sch plan c k)

-- chooser c has choice k in slot s: a choice of that slot, of a preference within the limit, that is not blocked
pub record Allowed (d : InputData) (sch : List ℕ) (limit : ℕ) (preferences : List ℕ) (c s k : ℕ) : Type 0 where
  pub choice : k < d.choices
  pub slot : entry_at sch k ≡ suc s
  pub preference : get_or preferences (c * d.choices + k) 0 ≤ limit
  pub unblocked : blocked_at d sch c k ≡ false

-- member i of dependent group g
abbrev pub member_of : InputData → ℕ → ℕ → ℕ
member_of d g i = get_or d.members (member_start d.lengths g + i) 0

pub record Seatable (d : InputData) (sch : List ℕ) (limit : ℕ) (preferences plan : List ℕ) : Type 0 where
  pub long : length plan ≡ d.choosers * d.slots
  -- every chooser has an allowed choice in every slot
  pub seat : (c s : ℕ) → c < d.choosers → s < d.slots → Allowed d sch limit preferences c s (choice_in d plan c s)
  -- every scheduled choice has from min to max choosers
  pub least : (k : ℕ) → k < d.choices → entry_at sch k ≢ 0 → min_at d k ≤ seats_in d sch plan k
  pub most : (k : ℕ) → k < d.choices → entry_at sch k ≢ 0 → seats_in d sch plan k ≤ max_at d k
  -- choosers that have the same choices sit in the same scheduled choices
  pub same : (j : ℕ) → j < d.assignment.count → kind_number (constraint_at d.assignment j).kind ≡ 65539
      → (k : ℕ) → k < d.choices → entry_at sch k ≢ 0
      → sits d sch plan (constraint_at d.assignment j).left k ≡ sits d sch plan (target_operand (constraint_at d.assignment j).right) k
  -- of a dependent group whose length is not 1, a chooser sits in all scheduled members or in none
  pub together : (g : ℕ) → g < d.groups → entry_at d.lengths g ≢ 1 → (c : ℕ) → c < d.choosers
      → (i j : ℕ) → i < entry_at d.lengths g → j < entry_at d.lengths g → entry_at sch (member_of d g i) ≢ 0 → entry_at sch (member_of d g j) ≢ 0
      → sits d sch plan c (member_of d g i) ≡ sits d sch plan c (member_of d g j)
