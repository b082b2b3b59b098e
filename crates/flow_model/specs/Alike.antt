-- Numbers of edges that agree where they are read name the same edges and decode to the same plan. Assumes nothing.
use Prim.Native.Nat.{ℕ, ◌+◌, ◌<◌, ◌≤◌}
use Rattle.std.specs.Prelude.{◌≡◌, refl, Bool, true, false, not, eqb, ℤ}
use Rattle.std.proofs.Math.Path.{ap, ap₂}
use mathlib.Core.List.{List, [], ◌∷◌, ◌++◌}
use Rattle.std.proofs.Common.{arith, eqb-true}
use Rattle.std.proofs.Math.ListN.{get_or}
use Rattle.counting.specs.Fold.{only_if, join_to}
use Rattle.counting.specs.FoldLaws.{fold_ext, fold_more}
use Rattle.counting.specs.Search.{first_to}
use Rattle.counting.specs.SearchLaws.{first_ext}
use Rattle.counting.specs.Sums.{sum_mono}
use Rattle.constraint.specs.Kind.{kind_number}
use Rattle.constraint.specs.Cases.{target_operand}
use Rattle.input_data.specs.Day.{constraint_at}
use Rattle.input_data.specs.declared.ConstraintList.{ConstraintList}
use Rattle.scheduling.specs.Schedule.{entry_at}
use Rattle.input_data.specs.declared.Sizes.{Sizes}
use Rattle.edge_groups.specs.Names.{pair_names, slot_names, slot_names_at, same_choices_names, constraint_names, constraint_names_at, constraints_names, member_name_at, chooser_names, chooser_names_at, group_names, group_names_at, dependent_names, names, member_start}
use Rattle.decoding.specs.Decode.{is_one, has_one, choice_for, plan_row, decoded}

-- a test that is the same on both sides
if_same : {A : Type 0} (t : Bool) (u v : List A) → (t ≡ true → u ≡ v) → only_if t u ≡ only_if t v
if_same true u v h = h refl
if_same false u v h = refl

-- what names read
pub record Reading (z : Sizes) (count : ℕ → ℕ) (list : ℕ → ℕ → ℕ) (assignment : ConstraintList) (groups : ℕ) (lengths members : List ℕ) : Type 0 where
  pub choosers : z.choosers ≤ 64
  pub choice : (s j : ℕ) → s < z.slots → j < count s → list s j < 32
  pub constraint : (j : ℕ) → j < assignment.count → kind_number (constraint_at assignment j).kind ≡ 65539 → ((constraint_at assignment j).left < 64) × (target_operand (constraint_at assignment j).right < 64)
  pub member : (i : ℕ) → i < member_start lengths groups → get_or members i 0 < 32

module _ {A : Type 0} (e e' : ℕ → ℕ → A) (same : (c k : ℕ) → c < 64 → k < 32 → e c k ≡ e' c k) (z : Sizes) (sch : List ℕ) (count : ℕ → ℕ) (list : ℕ → ℕ → ℕ) (assignment : ConstraintList) (groups : ℕ) (lengths members : List ℕ) (r : Reading z count list assignment groups lengths members) where
  pairs_same : (a b : ℕ) → a < 64 → b < 64 → same_choices_names e z count list a b ≡ same_choices_names e' z count list a b
  unfolding same_choices_names slot_names
  pairs_same a b ha hb = fold_ext ◌++◌ [] z.slots (slot_names_at e count list a b) (slot_names_at e' count list a b) (λ s hs.
      fold_ext ◌++◌ [] (count s) (pair_names e a b (list s)) (pair_names e' a b (list s)) (λ j hj.
      ap₂ (λ (u v : A). (u ∷ v ∷ []) ∷ []) (same a (list s j) ha (r.choice s j hs hj)) (same b (list s j) hb (r.choice s j hs hj))))

  constraints_same : constraints_names e z count list assignment ≡ constraints_names e' z count list assignment
  unfolding constraints_names constraint_names
  constraints_same = fold_ext ◌++◌ [] assignment.count (constraint_names_at e z count list assignment) (constraint_names_at e' z count list assignment) (λ j h.
      let con = constraint_at assignment j in
      if_same (eqb (kind_number con.kind) 65539) (same_choices_names e z count list con.left (target_operand con.right)) (same_choices_names e' z count list con.left (target_operand con.right))
      (λ t. let q = r.constraint j h (eqb-true (kind_number con.kind) 65539 t) in pairs_same con.left (target_operand con.right) q.0 q.1))

  start_in : (g i : ℕ) → g < groups → i < entry_at lengths g → member_start lengths g + i < member_start lengths groups
  unfolding member_start
  start_in g i h l = omega (arith, fold_more ◌+◌ 0 g (entry_at lengths), sum_mono (g + 1) groups (entry_at lengths) (omega arith))

  chooser_same : (g c : ℕ) → g < groups → c < 64 → chooser_names e sch members (member_start lengths g) (entry_at lengths g) c ≡ chooser_names e' sch members (member_start lengths g) (entry_at lengths g) c
  unfolding chooser_names
  chooser_same g c h hc = fold_ext ◌++◌ [] (entry_at lengths g) (member_name_at e sch members (member_start lengths g) c) (member_name_at e' sch members (member_start lengths g) c) (λ i l.
      let k = get_or members (member_start lengths g + i) 0 in
      if_same (not (eqb (entry_at sch k) 0)) (e c k ∷ []) (e' c k ∷ []) (λ t. ap (λ (u : A). u ∷ []) (same c k hc (r.member (member_start lengths g + i) (start_in g i h l)))))

  dependents_same : dependent_names e z sch groups lengths members ≡ dependent_names e' z sch groups lengths members
  unfolding dependent_names group_names
  dependents_same = fold_ext ◌++◌ [] groups (group_names_at e z sch lengths members) (group_names_at e' z sch lengths members) (λ g h.
      if_same (not (eqb (entry_at lengths g) 1)) (join_to z.choosers (chooser_names_at e sch members (member_start lengths g) (entry_at lengths g))) (join_to z.choosers (chooser_names_at e' sch members (member_start lengths g) (entry_at lengths g)))
      (λ t. fold_ext ◌++◌ [] z.choosers (chooser_names_at e sch members (member_start lengths g) (entry_at lengths g)) (chooser_names_at e' sch members (member_start lengths g) (entry_at lengths g)) (λ c hc.
      ap (λ (u : List A). u ∷ []) (chooser_same g c h (omega (arith, r.choosers))))))

  pub names_same : names e z sch count list assignment groups lengths members ≡ names e' z sch count list assignment groups lengths members
  unfolding names
  names_same = ap₂ ◌++◌ constraints_same dependents_same

-- the same of decoding
module _ (e e' : ℕ → ℕ → ℕ) (same : (c k : ℕ) → c < 64 → k < 32 → e c k ≡ e' c k) (n : ℕ) (vs : List ℤ) (z : Sizes) (count : ℕ → ℕ) (list : ℕ → ℕ → ℕ) (few : z.choosers ≤ 64) (choice : (s j : ℕ) → s < z.slots → j < count s → list s j < 32) where
  pub first_same : (c s : ℕ) → c < 64 → s < z.slots → first_to (count s) (has_one n vs e (list s) c) ≡ first_to (count s) (has_one n vs e' (list s) c)
  first_same c s hc hs = first_ext (count s) (has_one n vs e (list s) c) (has_one n vs e' (list s) c) (λ j h. ap (is_one n vs) (same c (list s j) hc (choice s j hs h)))

  pub decoded_same : decoded n vs e count list z ≡ decoded n vs e' count list z
  unfolding decoded choice_for
  decoded_same = fold_ext ◌++◌ [] z.choosers (plan_row n vs e count list z) (plan_row n vs e' count list z) (λ c hc.
      fold_ext ◌++◌ [] z.slots (λ s. choice_for n vs e count list c s ∷ []) (λ s. choice_for n vs e' count list c s ∷ []) (λ s hs.
      ap (λ (j : ℕ). list s j ∷ []) (first_same c s (omega (arith, few)) hs)))
