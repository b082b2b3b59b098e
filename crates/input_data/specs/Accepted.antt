-- What a day satisfies that no check of 1 to 10 refuses, and what its number then is. Assumes nothing.
use Rattle.std.specs.Prelude.{ℕ, ◌≤◌, ◌<◌, ◌≡◌, refl, Bool, true, false, ◌||◌, ltb, get_or}
use Rattle.std.proofs.Common.{arith, ltb-false, leb-false, le-ltb}
use Rattle.std.proofs.lemmas.Bool.{lt-leb}
use Rattle.counting.specs.Tests.{or_split, below_each, each_below}
use Rattle.counting.specs.Fold.{some_below}
use Rattle.input_data.specs.Day.{min_at, max_at, numbers_at, constraint_at}
use Rattle.input_data.specs.Operands.{bad_operand}
use Rattle.input_data.specs.Checks.{too_many, bad_choice_at, bad_choices, bad_max_preference, many_constraints, bad_kind_at, bad_kinds, bad_operand_at, bad_operands, bad_day_kinds, bad_day_operands, member_count, bad_member, bad_members, bad_groups, first_of, late_number, day_number}
use Rattle.input_data.specs.Lengths.{Within}
use Rattle.input_data.specs.declared.Limits.{Limits}
use Rattle.input_data.specs.declared.ConstraintList.{ConstraintList}
use Rattle.input_data.specs.declared.InputData.{InputData}
use Rattle.input_data.specs.declared.checks.Beside.{Beside}

-- a list of constraints of kinds `least` to `most`
pub record AcceptedList (choosers choices slots least most : ℕ) (l : ConstraintList) : Type 0 where
  pub count : l.count ≤ 32
  pub kind_least : (j : ℕ) → j < l.count → least ≤ (numbers_at l j).kind
  pub kind_most : (j : ℕ) → j < l.count → (numbers_at l j).kind ≤ most
  pub operands : (j : ℕ) → j < l.count → bad_operand choosers choices slots (constraint_at l j) ≡ false

pub record Accepted (l : Limits) (d : InputData) : Type 0 where
  pub choosers : d.choosers ≤ l.choosers
  pub choices : d.choices ≤ l.choices
  pub slots : d.slots ≤ l.slots
  pub min_max : (k : ℕ) → k < d.choices → min_at d k ≤ max_at d k
  pub max_most : (k : ℕ) → k < d.choices → max_at d k ≤ 1000
  pub max_preference : d.max_preference ≤ 255
  pub scheduling : AcceptedList d.choosers d.choices d.slots 1 6 d.scheduling
  pub assignment : AcceptedList d.choosers d.choices d.slots 65536 65539 d.assignment
  pub groups : d.groups ≤ 16
  pub members : member_count d.groups d.lengths ≤ 32
  pub member : (i : ℕ) → i < member_count d.groups d.lengths → get_or d.members i 0 < d.choices

-- what else a call tests does not apply either
pub record Past (b : Beside) (rest : ℕ) : Type 0 where
  pub lengths : b.bad_lengths ≡ false
  pub preferences : b.bad_preferences ≡ false
  pub levels : b.bad_levels ≡ false
  pub costs : b.bad_costs ≡ false
  pub asked : b.bad_asked ≡ false
  pub none : rest ≡ 0

-- a number of 0: the test does not apply, and what is left gives 0
pub first_zero : (b : Bool) (n rest : ℕ) → 0 < n → first_of b n rest ≡ 0 → (b ≡ false) × (rest ≡ 0)
unfolding first_of
first_zero true n rest h e = absurd (omega arith)
first_zero false n rest h e = (refl, e)

module _ (choosers choices slots least most : ℕ) (l : ConstraintList) where
  list_of_tests : ltb 32 l.count ≡ false → bad_kinds least most l ≡ false → bad_operands choosers choices slots l ≡ false → AcceptedList choosers choices slots least most l
  list_of_tests e k o =
      let c : l.count ≤ 32 = ltb-false 32 l.count e in
      let t : (j : ℕ) → j < l.count → (ltb (numbers_at l j).kind least ≡ false) × (ltb most (numbers_at l j).kind ≡ false) = λ j h. or_split (below_each 32 l.count (bad_kind_at least most l) c k j h) in
      record {
        count = c;
        kind_least = λ j h. ltb-false (numbers_at l j).kind least (t j h).0;
        kind_most = λ j h. ltb-false most (numbers_at l j).kind (t j h).1;
        operands = λ j h. below_each 32 l.count (bad_operand_at choosers choices slots l) c o j h;
      }

  tests_of_list : AcceptedList choosers choices slots least most l → (bad_kinds least most l ≡ false) × (bad_operands choosers choices slots l ≡ false)
  tests_of_list a =
      (each_below 32 l.count (bad_kind_at least most l) (λ j h. simp (le-ltb _ _ (a.kind_least j h), le-ltb _ _ (a.kind_most j h))), each_below 32 l.count (bad_operand_at choosers choices slots l) a.operands)

-- no test of the day itself applies
record NoFault (l : Limits) (d : InputData) : Type 0 where
  many : too_many l d.choosers d.choices d.slots ≡ false
  choices : bad_choices d.choices d.mins d.maxs ≡ false
  max_preference : bad_max_preference d.max_preference ≡ false
  constraints : many_constraints d.scheduling d.assignment ≡ false
  kinds : bad_day_kinds d ≡ false
  operands : bad_day_operands d ≡ false
  groups : bad_groups d.choices d.groups d.lengths d.members ≡ false

module _ (l : Limits) (d : InputData) where
  day_of_tests : Within l → NoFault l d → Accepted l d
  day_of_tests w f =
      let n = member_count d.groups d.lengths in
      let m : ((ltb l.choosers d.choosers || ltb l.choices d.choices) ≡ false) × (ltb l.slots d.slots ≡ false) = or_split f.many in
      let m' : (ltb l.choosers d.choosers ≡ false) × (ltb l.choices d.choices ≡ false) = or_split m.0 in
      let few : d.choices ≤ l.choices = ltb-false l.choices d.choices m'.1 in
      let t : (k : ℕ) → k < d.choices → (ltb (max_at d k) (min_at d k) ≡ false) × (ltb 1000 (max_at d k) ≡ false) = λ k h. or_split (below_each 32 d.choices (bad_choice_at d.mins d.maxs) (omega (arith, w.choices)) f.choices k h) in
      let c : (ltb 32 d.scheduling.count ≡ false) × (ltb 32 d.assignment.count ≡ false) = or_split f.constraints in
      let k : (bad_kinds 1 6 d.scheduling ≡ false) × (bad_kinds 65536 65539 d.assignment ≡ false) = or_split f.kinds in
      let o : (bad_operands d.choosers d.choices d.slots d.scheduling ≡ false) × (bad_operands d.choosers d.choices d.slots d.assignment ≡ false) = or_split f.operands in
      let g : (ltb 16 d.groups ≡ false) × (bad_members d.choices n d.members ≡ false) = or_split f.groups in
      let g' : (ltb 32 n ≡ false) × (some_below 32 n (bad_member d.choices d.members) ≡ false) = or_split g.1 in
      let small : n ≤ 32 = ltb-false 32 n g'.0 in
      record {
        choosers = ltb-false l.choosers d.choosers m'.0;
        choices = few;
        slots = ltb-false l.slots d.slots m.1;
        min_max = λ k h. ltb-false (max_at d k) (min_at d k) (t k h).0;
        max_most = λ k h. ltb-false 1000 (max_at d k) (t k h).1;
        max_preference = ltb-false 255 d.max_preference f.max_preference;
        scheduling = list_of_tests d.choosers d.choices d.slots 1 6 d.scheduling c.0 k.0 o.0;
        assignment = list_of_tests d.choosers d.choices d.slots 65536 65539 d.assignment c.1 k.1 o.1;
        groups = ltb-false 16 d.groups g.0;
        members = small;
        member = λ i h. leb-false d.choices (get_or d.members i 0) (below_each 32 n (bad_member d.choices d.members) small g'.1 i h);
      }

  tests_of_day : Accepted l d → NoFault l d
  tests_of_day a =
      let s = tests_of_list _ _ _ 1 6 d.scheduling a.scheduling in
      let t = tests_of_list _ _ _ 65536 65539 d.assignment a.assignment in
      record {
        many = simp (le-ltb _ _ a.choosers, le-ltb _ _ a.choices, le-ltb _ _ a.slots);
        choices = each_below 32 d.choices (bad_choice_at d.mins d.maxs) (λ k h. simp (le-ltb _ _ (a.min_max k h), le-ltb _ _ (a.max_most k h)));
        max_preference = le-ltb _ _ a.max_preference;
        constraints = simp (le-ltb _ _ a.scheduling.count, le-ltb _ _ a.assignment.count);
        kinds = simp (s.0, t.0);
        operands = simp (s.1, t.1);
        groups = simp (le-ltb _ _ a.groups, le-ltb _ _ a.members, each_below 32 (member_count d.groups d.lengths) (bad_member d.choices d.members) (λ i h. lt-leb _ _ (a.member i h)));
      }

  tests_of_number : (b : Beside) (rest : ℕ) → day_number l d b rest ≡ 0 → NoFault l d × Past b rest
  unfolding day_number late_number
  tests_of_number b rest e =
      let s1 = first_zero _ 1 _ (omega arith) e in
      let s2 = first_zero _ 2 _ (omega arith) s1.1 in
      let s3 = first_zero _ 3 _ (omega arith) s2.1 in
      let s4 = first_zero _ 4 _ (omega arith) s3.1 in
      let s5 = first_zero _ 5 _ (omega arith) s4.1 in
      let s6 = first_zero _ 6 _ (omega arith) s5.1 in
      let s7 = first_zero _ 7 _ (omega arith) s6.1 in
      let s8 = first_zero _ 8 _ (omega arith) s7.1 in
      let s9 = first_zero _ 9 _ (omega arith) s8.1 in
      let s10 = first_zero _ 10 _ (omega arith) s9.1 in
      let p : (bad_max_preference d.max_preference ≡ false) × (b.bad_preferences ≡ false) = or_split s4.0 in
      let o : (bad_day_operands d ≡ false) × (b.bad_asked ≡ false) = or_split s9.0 in (
        record { many = s1.0; choices = s3.0; max_preference = p.0; constraints = s7.0; kinds = s8.0; operands = o.0; groups = s10.0 },
        record { lengths = s2.0; preferences = p.1; levels = s5.0; costs = s6.0; asked = o.1; none = s10.1 },
      )

  number_of_tests : (b : Beside) → NoFault l d → Past b 0 → (rest : ℕ) → day_number l d b rest ≡ rest
  unfolding day_number late_number first_of
  number_of_tests b f p rest = simp (f.many, f.choices, f.max_preference, f.constraints, f.kinds, f.operands, f.groups, p.lengths, p.preferences, p.levels, p.costs, p.asked)

-- a number of 0 means an accepted day, and that nothing else applies
pub accepted : (l : Limits) (d : InputData) (b : Beside) (rest : ℕ) → Within l → day_number l d b rest ≡ 0 → Accepted l d
accepted l d b rest w e = day_of_tests l d w (tests_of_number l d b rest e).0

pub past : (l : Limits) (d : InputData) (b : Beside) (rest : ℕ) → day_number l d b rest ≡ 0 → Past b rest
past l d b rest e = (tests_of_number l d b rest e).1

-- the number of an accepted day is what is tested after 10: no such day is refused by 1 to 10
pub number_accepted : (l : Limits) (d : InputData) (b : Beside) → Accepted l d → Past b 0 → (rest : ℕ) → day_number l d b rest ≡ rest
number_accepted l d b a p rest = number_of_tests l d b (tests_of_day l d a) p rest

-- the same of a day whose number was 0 before
pub number_past : (l : Limits) (d : InputData) (b : Beside) (rest rest' : ℕ) → day_number l d b rest ≡ 0 → day_number l d b rest' ≡ rest'
number_past l d b rest rest' e =
    let t = tests_of_number l d b rest e in
    number_of_tests l d b t.0 (rw t.1.none at t.1) rest'

-- and with another call's tests beside it, where these do not apply
pub number_zero : (l : Limits) (d : InputData) (b : Beside) (rest : ℕ) → day_number l d b rest ≡ 0 → (b' : Beside) → Past b' 0 → day_number l d b' 0 ≡ 0
number_zero l d b rest e b' p = number_of_tests l d b' (tests_of_number l d b rest e).0 p 0
