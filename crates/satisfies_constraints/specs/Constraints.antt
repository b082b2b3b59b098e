-- When a schedule and a plan meet the constraints of a day, from scoring.rs: SPEC 4.4 to 4.7, 4.11. Definitions only.
use Rattle.std.specs.Prelude.{ℕ, ◌*◌, Bool, false, not, ◌&&◌, ◌||◌, List, eqb, ltb, leb, ℤ, pos, ◌-ℤ◌}
use Rattle.assignment.specs.Plan.{is_scheduled, is_seat, is_in_choice}
use Rattle.constraint.specs.declared.Constraint.{Constraint}
use Rattle.constraint.specs.declared.ConstraintExtra.{ConstraintExtra}
use Rattle.constraint.specs.declared.ConstraintExtra.TheVariants as Extra
use Rattle.constraint.specs.declared.ConstraintTarget.{ConstraintTarget}
use Rattle.constraint.specs.declared.ConstraintTarget.TheVariants as Target
use Rattle.constraint.specs.declared.ConstraintType.{ConstraintType}
use Rattle.constraint.specs.declared.ConstraintType.TheVariants.{Invalid, ChoiceIsInSlot, ChoiceIsNotInSlot, ChoicesAreInSameSlot, ChoicesAreNotInSameSlot, ChoicesHaveOffset, SlotHasLimitedSize, SlotContainsChoice, SlotNotContainsChoice, SlotsHaveSameChoices, ChoicesHaveSameChoosers, ChooserIsInChoice, ChooserIsNotInChoice, ChoosersHaveSameChoices, ChoiceContainsChooser, ChoiceNotContainsChooser}
use Rattle.constraint.specs.declared.SlotSizeLimitOp.{SlotSizeLimitOp}
use Rattle.constraint.specs.declared.SlotSizeLimitOp.TheVariants.{Eq, Gt, Geq, Neq, Leq, Lt}
use Rattle.counting.specs.Fold.{count_to, all_to}
use Rattle.counting.specs.Ints.{eq_z}
use Rattle.input_data.specs.Day.{constraint_at}
use Rattle.input_data.specs.declared.ConstraintList.{ConstraintList}
use Rattle.input_data.specs.declared.InputData.{InputData}
use Rattle.scheduling.specs.Schedule.{of_entry, entry_at}
use Rattle.slot_lists.specs.Sums.{in_slot, one, weighed}

-- ---- what a kind reads of its constraint. The Rust panics at a target or an extra of another case, and at a kind that the list
-- ---- is not for; 8 and 9 refuse these, and here they are not met

unfoldable pub of_slot : ConstraintTarget → (ℕ → Bool) → Bool
of_slot Target.None p = false
of_slot (Target.Slot s) p = p s
of_slot (Target.Choice k) p = false
of_slot (Target.Chooser c) p = false
of_slot (Target.Limit n) p = false

unfoldable pub of_choice : ConstraintTarget → (ℕ → Bool) → Bool
of_choice Target.None p = false
of_choice (Target.Slot s) p = false
of_choice (Target.Choice k) p = p k
of_choice (Target.Chooser c) p = false
of_choice (Target.Limit n) p = false

unfoldable pub of_chooser : ConstraintTarget → (ℕ → Bool) → Bool
of_chooser Target.None p = false
of_chooser (Target.Slot s) p = false
of_chooser (Target.Choice k) p = false
of_chooser (Target.Chooser c) p = p c
of_chooser (Target.Limit n) p = false

unfoldable pub of_limit : ConstraintTarget → (ℕ → Bool) → Bool
of_limit Target.None p = false
of_limit (Target.Slot s) p = false
of_limit (Target.Choice k) p = false
of_limit (Target.Chooser c) p = false
of_limit (Target.Limit n) p = p n

unfoldable pub of_offset : ConstraintExtra → (ℤ → Bool) → Bool
of_offset Extra.None p = false
of_offset (Extra.Offset z) p = p z
of_offset (Extra.SlotSizeLimitOp o) p = false

unfoldable pub of_operator : ConstraintExtra → (SlotSizeLimitOp → Bool) → Bool
of_operator Extra.None p = false
of_operator (Extra.Offset z) p = false
of_operator (Extra.SlotSizeLimitOp o) p = p o

-- ---- scheduling constraints; an entry of a schedule is 0 for none, and s + 1 for slot s

-- ChoicesAreNotInSameSlot: unless both have the same slot
abbrev pub apart : ℕ → ℕ → Bool
apart a b = eqb a 0 || eqb b 0 || not (eqb a b)

-- ChoicesHaveOffset: right slot minus left slot is the offset, or neither has a slot
unfoldable pub has_offset : ℕ → ℕ → ℤ → Bool
has_offset left right offset =
    of_entry left (eqb right 0) (λ l. of_entry right false (λ r. eq_z (pos r -ℤ pos l) offset))

-- SlotHasLimitedSize: a slot's count of choices against the limit
unfoldable pub has_size : SlotSizeLimitOp → ℕ → ℕ → Bool
has_size Eq count limit = eqb count limit
has_size Gt count limit = ltb limit count
has_size Geq count limit = leb limit count
has_size Neq count limit = not (eqb count limit)
has_size Leq count limit = leb count limit
has_size Lt count limit = ltb count limit

-- how many choices a slot has
abbrev pub size_of : ℕ → List ℕ → ℕ → ℕ
size_of choices sch s = weighed one (entry_at sch) choices s

-- the test of one constraint by its kind, left operand, target and extra
unfoldable pub scheduling_kind_met : ℕ → List ℕ → ConstraintType → ℕ → ConstraintTarget → ConstraintExtra → Bool
scheduling_kind_met choices sch Invalid left target extra = false
scheduling_kind_met choices sch ChoiceIsInSlot left target extra = of_slot target (λ s. in_slot (entry_at sch) s left)
scheduling_kind_met choices sch ChoiceIsNotInSlot left target extra = of_slot target (λ s. not (in_slot (entry_at sch) s left))
scheduling_kind_met choices sch ChoicesAreInSameSlot left target extra = of_choice target (λ k. eqb (entry_at sch left) (entry_at sch k))
scheduling_kind_met choices sch ChoicesAreNotInSameSlot left target extra = of_choice target (λ k. apart (entry_at sch left) (entry_at sch k))
scheduling_kind_met choices sch ChoicesHaveOffset left target extra = of_choice target (λ k. of_offset extra (λ z. has_offset (entry_at sch left) (entry_at sch k) z))
scheduling_kind_met choices sch SlotHasLimitedSize left target extra = of_limit target (λ n. of_operator extra (λ o. has_size o (size_of choices sch left) n))
scheduling_kind_met choices sch SlotContainsChoice left target extra = false
scheduling_kind_met choices sch SlotNotContainsChoice left target extra = false
scheduling_kind_met choices sch SlotsHaveSameChoices left target extra = false
scheduling_kind_met choices sch ChoicesHaveSameChoosers left target extra = false
scheduling_kind_met choices sch ChooserIsInChoice left target extra = false
scheduling_kind_met choices sch ChooserIsNotInChoice left target extra = false
scheduling_kind_met choices sch ChoosersHaveSameChoices left target extra = false
scheduling_kind_met choices sch ChoiceContainsChooser left target extra = false
scheduling_kind_met choices sch ChoiceNotContainsChooser left target extra = false

abbrev pub meets_scheduling : ℕ → List ℕ → Constraint → Bool
meets_scheduling choices sch c = scheduling_kind_met choices sch c.kind c.left c.right c.extra

abbrev pub scheduling_at : ℕ → List ℕ → ConstraintList → ℕ → Bool
scheduling_at choices sch l j = meets_scheduling choices sch (constraint_at l j)

-- every constraint of a list
abbrev pub scheduling_in : ℕ → List ℕ → ConstraintList → Bool
scheduling_in choices sch l = all_to l.count (scheduling_at choices sch l)

-- satisfies_constraints_scheduling
unfoldable pub scheduling_met : InputData → List ℕ → Bool
scheduling_met d sch = scheduling_in d.choices sch d.scheduling

-- ---- assignment constraints

-- how often chooser c has choice k
unfoldable pub times_in : ℕ → List ℕ → ℕ → ℕ → ℕ
times_in slots plan c k = count_to slots (is_seat plan (c * slots) k)

-- two choices have the same choosers, each as often
abbrev pub as_often : ℕ → List ℕ → ℕ → ℕ → ℕ → Bool
as_often slots plan a b c = eqb (times_in slots plan c a) (times_in slots plan c b)

unfoldable pub same_choosers : ℕ → ℕ → List ℕ → ℕ → ℕ → Bool
same_choosers choosers slots plan a b = all_to choosers (as_often slots plan a b)

-- two choosers have the same choices, each as often
abbrev pub likewise : ℕ → List ℕ → ℕ → ℕ → ℕ → Bool
likewise slots plan a b k = eqb (times_in slots plan a k) (times_in slots plan b k)

unfoldable pub same_choices : ℕ → ℕ → List ℕ → ℕ → ℕ → Bool
same_choices choices slots plan a b = all_to choices (likewise slots plan a b)

-- the test of one constraint by its kind, left operand and target. The Rust passes over choices without a slot in the first two
unfoldable pub assignment_kind_met : ℕ → ℕ → ℕ → List ℕ → List ℕ → ConstraintType → ℕ → ConstraintTarget → Bool
assignment_kind_met choosers choices slots sch plan Invalid left target = false
assignment_kind_met choosers choices slots sch plan ChoiceIsInSlot left target = false
assignment_kind_met choosers choices slots sch plan ChoiceIsNotInSlot left target = false
assignment_kind_met choosers choices slots sch plan ChoicesAreInSameSlot left target = false
assignment_kind_met choosers choices slots sch plan ChoicesAreNotInSameSlot left target = false
assignment_kind_met choosers choices slots sch plan ChoicesHaveOffset left target = false
assignment_kind_met choosers choices slots sch plan SlotHasLimitedSize left target = false
assignment_kind_met choosers choices slots sch plan SlotContainsChoice left target = false
assignment_kind_met choosers choices slots sch plan SlotNotContainsChoice left target = false
assignment_kind_met choosers choices slots sch plan SlotsHaveSameChoices left target = false
assignment_kind_met choosers choices slots sch plan ChoicesHaveSameChoosers left target =
    of_choice target (λ k. not (is_scheduled sch left && is_scheduled sch k) || same_choosers choosers slots plan left k)
assignment_kind_met choosers choices slots sch plan ChooserIsInChoice left target =
    of_choice target (λ k. not (is_scheduled sch k) || is_in_choice slots plan left k)
assignment_kind_met choosers choices slots sch plan ChooserIsNotInChoice left target = of_choice target (λ k. not (is_in_choice slots plan left k))
assignment_kind_met choosers choices slots sch plan ChoosersHaveSameChoices left target = of_chooser target (λ c. same_choices choices slots plan left c)
assignment_kind_met choosers choices slots sch plan ChoiceContainsChooser left target = false
assignment_kind_met choosers choices slots sch plan ChoiceNotContainsChooser left target = false

abbrev pub meets_assignment : ℕ → ℕ → ℕ → List ℕ → List ℕ → Constraint → Bool
meets_assignment choosers choices slots sch plan c = assignment_kind_met choosers choices slots sch plan c.kind c.left c.right

abbrev pub assignment_at : ℕ → ℕ → ℕ → List ℕ → List ℕ → ConstraintList → ℕ → Bool
assignment_at choosers choices slots sch plan l j = meets_assignment choosers choices slots sch plan (constraint_at l j)

-- every constraint of a list
abbrev pub assignment_in : ℕ → ℕ → ℕ → List ℕ → List ℕ → ConstraintList → Bool
assignment_in choosers choices slots sch plan l = all_to l.count (assignment_at choosers choices slots sch plan l)

-- satisfies_constraints_assignment
unfoldable pub assignment_met : InputData → List ℕ → List ℕ → Bool
assignment_met d sch plan = assignment_in d.choosers d.choices d.slots sch plan d.assignment
