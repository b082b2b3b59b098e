-- Checks 1 to 10, each a test, and their order: SPEC 3.1 to 3.10, 3.19. Definitions only.
use Rattle.std.specs.Prelude.{ℕ, ◌+◌, Bool, true, cond, ◌&&◌, ◌||◌, List, ltb, leb, ℤ, pos, negsuc, length, get_or}
use Rattle.counting.specs.Fold.{gate, sum_to, any_to, some_below}
use Rattle.input_data.specs.Day.{numbers_at, constraint_at}
use Rattle.input_data.specs.Operands.{bad_operand}
use Rattle.input_data.specs.declared.Limits.{Limits}
use Rattle.input_data.specs.declared.ConstraintList.{ConstraintList}
use Rattle.input_data.specs.declared.InputData.{InputData}
use Rattle.input_data.specs.declared.checks.Beside.{Beside}

-- 1. more choosers, choices or slots than the limits
abbrev pub too_many : Limits → ℕ → ℕ → ℕ → Bool
too_many l choosers choices slots = ltb l.choosers choosers || ltb l.choices choices || ltb l.slots slots

-- 3. min above max, or max above 1,000
abbrev pub bad_choice : ℕ → ℕ → Bool
bad_choice min max = ltb max min || ltb 1000 max

abbrev pub bad_choice_at : List ℕ → List ℕ → ℕ → Bool
bad_choice_at mins maxs k = bad_choice (get_or mins k 0) (get_or maxs k 0)

abbrev pub bad_choices : ℕ → List ℕ → List ℕ → Bool
bad_choices choices mins maxs = some_below 32 choices (bad_choice_at mins maxs)

-- 4. max_preference above 255, or a preference above it
abbrev pub bad_max_preference : ℕ → Bool
bad_max_preference m = ltb 255 m

abbrev pub above_at : ℕ → List ℕ → ℕ → Bool
above_at m ps i = ltb m (get_or ps i 0)

unfoldable pub has_bad_preferences : ℕ → List ℕ → Bool
has_bad_preferences m ps = any_to (length ps) (above_at m ps)

-- 5. more than 256 levels, or one above max_preference, or one that is not below the next
abbrev pub bad_level_at : ℕ → List ℕ → ℕ → Bool
bad_level_at m ls i = ltb m (get_or ls i 0) || (ltb (i + 1) (length ls) && leb (get_or ls (i + 1) 0) (get_or ls i 0))

unfoldable pub has_bad_levels : ℕ → List ℕ → Bool
has_bad_levels m ls = ltb 256 (length ls) || any_to (length ls) (bad_level_at m ls)

-- 6. a cost outside 0 to 1,099,511,627,776
abbrev pub bad_cost : ℤ → Bool
bad_cost (pos n) = ltb 1099511627776 n
bad_cost (negsuc n) = true

abbrev pub bad_cost_at : List ℤ → ℕ → Bool
bad_cost_at cs i = bad_cost (get_or cs i (pos 0))

unfoldable pub has_bad_costs : List ℤ → Bool
has_bad_costs cs = any_to (length cs) (bad_cost_at cs)

-- 7. more than 32 constraints in a list
abbrev pub many_constraints : ConstraintList → ConstraintList → Bool
many_constraints scheduling assignment = ltb 32 scheduling.count || ltb 32 assignment.count

-- 8. a kind outside the kinds of its list
abbrev pub bad_kind : ℕ → ℕ → ℕ → Bool
bad_kind least most kind = ltb kind least || ltb most kind

abbrev pub bad_kind_at : ℕ → ℕ → ConstraintList → ℕ → Bool
bad_kind_at least most l j = bad_kind least most (numbers_at l j).kind

abbrev pub bad_kinds : ℕ → ℕ → ConstraintList → Bool
bad_kinds least most l = some_below 32 l.count (bad_kind_at least most l)

-- 9. an operand of a constraint of the list is bad
abbrev pub bad_operand_at : ℕ → ℕ → ℕ → ConstraintList → ℕ → Bool
bad_operand_at choosers choices slots l j = bad_operand choosers choices slots (constraint_at l j)

abbrev pub bad_operands : ℕ → ℕ → ℕ → ConstraintList → Bool
bad_operands choosers choices slots l = some_below 32 l.count (bad_operand_at choosers choices slots l)

-- 8 and 9 of both lists of a day
abbrev pub bad_day_kinds : InputData → Bool
bad_day_kinds d = bad_kinds 1 6 d.scheduling || bad_kinds 65536 65539 d.assignment

abbrev pub bad_day_operands : InputData → Bool
bad_day_operands d = bad_operands d.choosers d.choices d.slots d.scheduling || bad_operands d.choosers d.choices d.slots d.assignment

-- 10. more than 16 groups, or more than 32 members in all groups together, or a member that is no choice
abbrev pub length_in : ℕ → List ℕ → ℕ → ℕ
length_in groups lengths g = gate (ltb g groups) (get_or lengths g 0)

unfoldable pub member_count : ℕ → List ℕ → ℕ
member_count groups lengths = sum_to 16 (length_in groups lengths)

abbrev pub bad_member : ℕ → List ℕ → ℕ → Bool
bad_member choices members i = leb choices (get_or members i 0)

abbrev pub bad_members : ℕ → ℕ → List ℕ → Bool
bad_members choices count members = ltb 32 count || some_below 32 count (bad_member choices members)

abbrev pub bad_groups : ℕ → ℕ → List ℕ → List ℕ → Bool
bad_groups choices groups lengths members = ltb 16 groups || bad_members choices (member_count groups lengths) members

-- the number of a check that applies, or else what is left to check
unfoldable pub first_of : Bool → ℕ → ℕ → ℕ
first_of applies number rest = cond applies number rest

-- the first of checks 7 to 10 that applies, or `rest`; `asked`: a chooser, choice or slot that the call is asked about is outside the day
unfoldable pub late_number : InputData → Bool → ℕ → ℕ
late_number d asked rest =
    first_of (many_constraints d.scheduling d.assignment) 7
    (first_of (bad_day_kinds d) 8
    (first_of (bad_day_operands d || asked) 9
    (first_of (bad_groups d.choices d.groups d.lengths d.members) 10 rest)))

-- the first number that applies, with what a call tests beside the day itself, and `rest`, what it tests after 10
unfoldable pub day_number : Limits → InputData → Beside → ℕ → ℕ
day_number l d b rest =
    first_of (too_many l d.choosers d.choices d.slots) 1
    (first_of b.bad_lengths 2
    (first_of (bad_choices d.choices d.mins d.maxs) 3
    (first_of (bad_max_preference d.max_preference || b.bad_preferences) 4
    (first_of b.bad_levels 5
    (first_of b.bad_costs 6 (late_number d b.bad_asked rest))))))
