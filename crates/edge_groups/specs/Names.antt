-- Which edges constraints and dependent groups name together: SPEC 6.9, 6.10. Definitions only.
-- An edge is said by its chooser and its choice; `edge c k` is what stands for it: its number, or any other name.
use Rattle.std.specs.Prelude.{ℕ, ◌+◌, not, List, [], ◌∷◌, ◌++◌, eqb, length, get_or}
use Rattle.counting.specs.Fold.{only_if, join_to, sum_to}
use Rattle.constraint.specs.Kind.{kind_number}
use Rattle.constraint.specs.Cases.{target_operand}
use Rattle.constraint.specs.declared.Constraint.{Constraint}
use Rattle.input_data.specs.Day.{constraint_at}
use Rattle.input_data.specs.declared.ConstraintList.{ConstraintList}
use Rattle.scheduling.specs.Schedule.{entry_at}
use Rattle.input_data.specs.declared.Sizes.{Sizes}

module _ {A : Type 0} where
  -- ---- ChoosersHaveSameChoices of choosers a and b: for each slot and listed choice, both choosers' edges

  abbrev pub pair_names : (ℕ → ℕ → A) → ℕ → ℕ → (ℕ → ℕ) → ℕ → List (List A)
  pair_names edge a b list j = (edge a (list j) ∷ edge b (list j) ∷ []) ∷ []

  unfoldable pub slot_names : (ℕ → ℕ → A) → ℕ → ℕ → ℕ → (ℕ → ℕ) → List (List A)
  slot_names edge a b n list = join_to n (pair_names edge a b list)

  abbrev pub slot_names_at : (ℕ → ℕ → A) → (ℕ → ℕ) → (ℕ → ℕ → ℕ) → ℕ → ℕ → ℕ → List (List A)
  slot_names_at edge count list a b s = slot_names edge a b (count s) (list s)

  unfoldable pub same_choices_names : (ℕ → ℕ → A) → Sizes → (ℕ → ℕ) → (ℕ → ℕ → ℕ) → ℕ → ℕ → List (List A)
  same_choices_names edge z count list a b = join_to z.slots (slot_names_at edge count list a b)

  unfoldable pub constraint_names : (ℕ → ℕ → A) → Sizes → (ℕ → ℕ) → (ℕ → ℕ → ℕ) → Constraint → List (List A)
  constraint_names edge z count list con = only_if (eqb (kind_number con.kind) 65539) (same_choices_names edge z count list con.left (target_operand con.right))

  abbrev pub constraint_names_at : (ℕ → ℕ → A) → Sizes → (ℕ → ℕ) → (ℕ → ℕ → ℕ) → ConstraintList → ℕ → List (List A)
  constraint_names_at edge z count list l j = constraint_names edge z count list (constraint_at l j)

  unfoldable pub constraints_names : (ℕ → ℕ → A) → Sizes → (ℕ → ℕ) → (ℕ → ℕ → ℕ) → ConstraintList → List (List A)
  constraints_names edge z count list l = join_to l.count (constraint_names_at edge z count list l)

  -- ---- a dependent group whose length is not 1: for each chooser, the edges to its scheduled members

  abbrev pub member_name : (ℕ → ℕ → A) → List ℕ → ℕ → ℕ → List A
  member_name edge sch c k = only_if (not (eqb (entry_at sch k) 0)) (edge c k ∷ [])

  -- the member at place `start + i`
  abbrev pub member_name_at : (ℕ → ℕ → A) → List ℕ → List ℕ → ℕ → ℕ → ℕ → List A
  member_name_at edge sch members start c i = member_name edge sch c (get_or members (start + i) 0)

  unfoldable pub chooser_names : (ℕ → ℕ → A) → List ℕ → List ℕ → ℕ → ℕ → ℕ → List A
  chooser_names edge sch members start len c = join_to len (member_name_at edge sch members start c)

  abbrev pub chooser_names_at : (ℕ → ℕ → A) → List ℕ → List ℕ → ℕ → ℕ → ℕ → List (List A)
  chooser_names_at edge sch members start len c = chooser_names edge sch members start len c ∷ []

  unfoldable pub group_names : (ℕ → ℕ → A) → Sizes → List ℕ → List ℕ → ℕ → ℕ → List (List A)
  group_names edge z sch members start len = only_if (not (eqb len 1)) (join_to z.choosers (chooser_names_at edge sch members start len))

  -- .. which is handed as the list of its members
  abbrev pub chooser_names_of : (ℕ → ℕ → A) → List ℕ → List ℕ → ℕ → List A
  chooser_names_of edge sch group c = chooser_names edge sch group 0 (length group) c

  abbrev pub group_names_of : (ℕ → ℕ → A) → Sizes → List ℕ → List ℕ → List (List A)
  group_names_of edge z sch group = group_names edge z sch group 0 (length group)

-- where group g begins among the members
unfoldable pub member_start : List ℕ → ℕ → ℕ
member_start lengths g = sum_to g (entry_at lengths)

module _ {A : Type 0} where
  abbrev pub group_names_at : (ℕ → ℕ → A) → Sizes → List ℕ → List ℕ → List ℕ → ℕ → List (List A)
  group_names_at edge z sch lengths members g = group_names edge z sch members (member_start lengths g) (entry_at lengths g)

  unfoldable pub dependent_names : (ℕ → ℕ → A) → Sizes → List ℕ → ℕ → List ℕ → List ℕ → List (List A)
  dependent_names edge z sch groups lengths members = join_to groups (group_names_at edge z sch lengths members)

  -- ---- all of them, in their order

  unfoldable pub names : (ℕ → ℕ → A) → Sizes → List ℕ → (ℕ → ℕ) → (ℕ → ℕ → ℕ) → ConstraintList → ℕ → List ℕ → List ℕ → List (List A)
  names edge z sch count list assignment groups lengths members =
      constraints_names edge z count list assignment ++ dependent_names edge z sch groups lengths members
