-- 15 and 16 passed: edges that are named together have one value, where a missing one has 0. Proofs.
use Prim.Native.Nat.{ℕ, zero, suc, ◌+◌, ◌-◌, ◌<◌, ◌≤◌}
use Rattle.std.specs.Prelude.{◌≡◌, refl, Bool, true, false, ◌||◌, ◌≢◌, ◌↔◌, eqb, ltb, ℤ, negsuc, length, get_or}
use Rattle.std.proofs.Common.{sym, subst, ◌∙◌, arith, eqb-true, eq-eqb, ne_eqb, ltb-true, lt-ltb}
use Rattle.std.proofs.Math.Path.{ap}
use Rattle.std.proofs.Math.Bool.{not}
use mathlib.Core.List.{List, [], ◌∷◌, ◌++◌}
use Rattle.std.proofs.Math.Logic.Iff.{trans}
use Rattle.std.proofs.Math.IntN.{pos}
use Rattle.std.specs.Int.Signed.{mag, non_neg}
use Rattle.std.proofs.lemmas.Bool.{eqb-false, not-true, not-false}
use Rattle.counting.specs.Fold.{fold_to, gate, only_if, join_to}
use Rattle.counting.specs.HoldsLaws.{holds_in, holds_has}
use Rattle.counting.specs.Signed.{eq_z_same, same_eq_z}
use Rattle.counting.specs.Tests.{never, bool_cases, eq_cases, and_split, or_split, none_each, each_none}
use Rattle.constraint.specs.Cases.{target_operand}
use Rattle.constraint.specs.Kind.{kind_number}
use Rattle.constraint.specs.declared.Constraint.{Constraint}
use Rattle.input_data.specs.Day.{constraint_at}
use Rattle.input_data.specs.Lengths.{Within}
use Rattle.input_data.specs.declared.Limits.{Limits}
use Rattle.input_data.specs.declared.InputData.{InputData}
use Rattle.scheduling.specs.Schedule.{entry_at}
use Rattle.slot_lists.specs.HeldLaws.{Held, held}
use Rattle.slot_lists.specs.Held.{misheld}
use Rattle.slot_lists.specs.Lists.{listed}
use Rattle.slot_lists.specs.Sums.{one, weighed}
use Rattle.schedule_state.specs.Good.{kept_fits}
use Rattle.blocks.specs.Blocks.{blocked_by}
use Rattle.schedule_state.specs.State.{miscounted, misblocked}
use Rattle.schedule_state.specs.Numbers.{StateAccepted}
use Rattle.input_data.specs.declared.Sizes.{Sizes}
use Rattle.mip_flow.specs.Index.{edge_of}
use Rattle.model_buffers.specs.declared.Lengths.{Lengths}
use Rattle.edge_groups.specs.Groups.{each, all_there, present, groups_of, blocked_of}
use Rattle.edge_groups.specs.Names.{pair_names, slot_names, slot_names_at, same_choices_names, constraint_names, constraint_names_at, constraints_names, member_name_at, chooser_names, chooser_names_at, group_names, group_names_at, member_start, dependent_names, names}
use Rattle.edge_values.specs.Values.{value_at, used_at, some_used, differ, differs_at, is_uneven, uneven_at, some_uneven}
use Rattle.plans.specs.Good.{model_accepted}
use Rattle.plans.specs.Model.{ModelInput, sizes_of, entries_of, seats_of, names_of, network_of, beside_model, number_with}
use Rattle.plans.specs.Read.{read, ReadTogether}

-- ---- what holds of every element of a list

module _ {A : Type 0} where
  abbrev All : (A → Type 0) → List A → Type 0
  All Q [] = Unit {0}
  All Q (a ∷ l) = Q a × All Q l

  all_map : (Q R : A → Type 0) → ((a : A) → Q a → R a) → (l : List A) → All Q l → All R l
  all_map Q R f [] t = tt
  all_map Q R f (a ∷ l) t = (f a t.0, all_map Q R f l t.1)

  -- of two
  all_both : (P Q R : A → Type 0) → ((a : A) → P a → Q a → R a) → (l : List A) → All P l → All Q l → All R l
  all_both P Q R f [] s t = tt
  all_both P Q R f (a ∷ l) s t = (f a s.0 t.0, all_both P Q R f l s.1 t.1)

  all_append : (Q : A → Type 0) (s t : List A) → All Q (s ++ t) ↔ (All Q s × All Q t)
  all_append Q [] t = (λ h. (tt, h), λ h. h.1)
  all_append Q (a ∷ s) t = let r = all_append Q s t in (λ h. let q = r.0 h.1 in ((h.0, q.0), q.1), λ h. (h.0.0, r.1 (h.0.1, h.1)))

  all_join : (Q : A → Type 0) (n : ℕ) (f : ℕ → List A) → All Q (join_to n f) ↔ ((i : ℕ) → i < n → All Q (f i))
  unfolding fold_to
  all_join Q zero f = (λ h i l. absurd (omega arith), λ h. tt)
  all_join Q (suc n) f =
      let r = all_join Q n f in
      let s = all_append Q (join_to n f) (f n) in (
        λ h i l. let q = s.0 h in eq_cases i n (λ e t. rw e q.1) (λ e t. r.0 q.0 i (omega arith)),
        λ h. s.1 (r.1 (λ i l. h i (omega arith)), h n (omega arith)),
      )

  all_if : (Q : A → Type 0) (b : Bool) (l : List A) → All Q (only_if b l) ↔ (b ≡ true → All Q l)
  all_if Q true l = (λ h e. h, λ h. h refl)
  all_if Q false l = (λ h e. never (sym e), λ h. tt)

  -- .. at every place
  all_at : (Q : A → Type 0) (d : A) (l : List A) → All Q l ↔ ((i : ℕ) → i < length l → Q (get_or l i d))
  all_at Q d [] = (λ h i k. absurd (omega arith), λ h. tt)
  all_at Q d (a ∷ l) = let r = all_at Q d l in (at r.0, λ h. (h 0 (omega arith), r.1 (λ i k. h (suc i) (omega arith))))
    where
      at : (All Q l → (i : ℕ) → i < length l → Q (get_or l i d)) → All Q (a ∷ l) → (i : ℕ) → i < length (a ∷ l) → Q (get_or (a ∷ l) i d)
      at f h zero k = h.0
      at f h (suc i) k = f h.1 i (omega arith)

-- f has one value on a list
abbrev Same : (ℕ → ℕ) → List ℕ → Type 0
Same f l = All (λ a. All (λ b. f a ≡ f b) l) l

abbrev Zero : (ℕ → ℕ) → List ℕ → Type 0
Zero f l = All (λ a. f a ≡ 0) l

-- ---- the checks, as statements

module _ (vs : List ℤ) where
  unused_iff : (l : List ℕ) → (some_used (length l) l vs ≡ false) ↔ All (λ e. value_at vs e ≡ pos 0) l
  unfolding some_used
  unused_iff l =
      let a = all_at (λ e. value_at vs e ≡ pos 0) 0 l in (
        λ h. a.1 (λ i k. same_eq_z _ _ (not-false _ (none_each (length l) (used_at l vs) h i k))),
        λ h. each_none (length l) (used_at l vs) (λ i k. ap not (eq_z_same _ _ (a.0 h i k))),
      )

  abbrev Even : List ℕ → Type 0
  Even l = All (λ a. All (λ b. value_at vs a ≡ value_at vs b) l) l

  even_iff : (l : List ℕ) → (is_uneven vs l ≡ false) ↔ Even l
  unfolding is_uneven
  even_iff l =
      let a = all_at (λ a. All (λ b. value_at vs a ≡ value_at vs b) l) 0 l in (
        λ h. a.1 (λ i k. (all_at (λ b. value_at vs (get_or l i 0) ≡ value_at vs b) 0 l).1 (λ j m. same_eq_z _ _ (not-false _ (none_each (length l) (differ vs l i) (none_each (length l) (differs_at vs l) h i k) j m)))),
        λ h. each_none (length l) (differs_at vs l) (λ i k. each_none (length l) (differ vs l i) (λ j m. ap not (eq_z_same _ _ ((all_at (λ b. value_at vs (get_or l i 0) ≡ value_at vs b) 0 l).0 (a.0 h i k) j m)))),
      )

  evens_iff : (gs : List (List ℕ)) → (some_uneven gs vs ≡ false) ↔ All Even gs
  unfolding some_uneven
  evens_iff gs =
      let a = all_at Even [] gs in (
        λ h. a.1 (λ i k. (even_iff (get_or gs i [])).0 (none_each (length gs) (uneven_at gs vs) h i k)),
        λ h. each_none (length gs) (uneven_at gs vs) (λ i k. (even_iff (get_or gs i [])).1 (a.0 h i k)),
      )

-- ---- edges by number: there are those below n

-- the value of edge e, and 0 where it is missing
abbrev read_number : ℕ → List ℤ → ℕ → ℕ
read_number n vs e = gate (ltb e n) (mag (value_at vs e))

pos_mag : (z : ℤ) → non_neg z ≡ true → pos (mag z) ≡ z
pos_mag (pos a) e = refl
pos_mag (negsuc a) e = never (sym e)

module _ (n : ℕ) (vs : List ℤ) (signs : (e : ℕ) → e < n → non_neg (value_at vs e) ≡ true) where
  there_read : (e : ℕ) → ltb e n ≡ true → read_number n vs e ≡ mag (value_at vs e)
  there_read e t = rw t

  away_read : (e : ℕ) → ltb e n ≡ false → read_number n vs e ≡ 0
  away_read e t = rw t

  there_value : (e : ℕ) → ltb e n ≡ true → value_at vs e ≡ pos (read_number n vs e)
  there_value e t = sym (pos_mag (value_at vs e) (signs e (ltb-true e n t))) ∙ ap pos (sym (there_read e t))

  there_all : (l : List ℕ) → all_there n l ≡ true → All (λ e. ltb e n ≡ true) l
  unfolding all_there
  there_all [] t = tt
  there_all (e ∷ l) t = let p : (ltb e n ≡ true) × (all_there n l ≡ true) = and_split t in (p.0, there_all l p.1)

  -- all there: the values are equal where the reads are
  even_same : (l : List ℕ) → all_there n l ≡ true → Even vs l ↔ Same (read_number n vs) l
  even_same l t =
      let w = there_all l t in (
        all_both (λ e. ltb e n ≡ true) (λ a. All (λ b. value_at vs a ≡ value_at vs b) l) (λ a. All (λ b. read_number n vs a ≡ read_number n vs b) l)
            (λ a p h. all_both (λ e. ltb e n ≡ true) (λ b. value_at vs a ≡ value_at vs b) (λ b. read_number n vs a ≡ read_number n vs b)
            (λ b q e. there_read a p ∙ ap mag e ∙ sym (there_read b q)) l w h) l w,
        all_both (λ e. ltb e n ≡ true) (λ a. All (λ b. read_number n vs a ≡ read_number n vs b) l) (λ a. All (λ b. value_at vs a ≡ value_at vs b) l)
            (λ a p h. all_both (λ e. ltb e n ≡ true) (λ b. read_number n vs a ≡ read_number n vs b) (λ b. value_at vs a ≡ value_at vs b)
            (λ b q e. there_value a p ∙ ap pos e ∙ sym (there_value b q)) l w h) l w,
      )

  -- the present ones have 0 where all read 0
  present_zero : (l : List ℕ) → All (λ e. value_at vs e ≡ pos 0) (present n l) ↔ Zero (read_number n vs) l
  unfolding each
  present_zero [] = (λ h. tt, λ h. tt)
  present_zero (e ∷ l) = let r = present_zero l in bool_cases (ltb e n)
      (λ t. rw t (λ h. (ap mag h.0, r.0 h.1), λ h. (sym (pos_mag (value_at vs e) (signs e (ltb-true e n t))) ∙ ap pos h.0, r.1 h.1)))
      (λ t. rw t (λ h. (refl, r.0 h), λ h. r.1 h.1))

  -- one is missing: what all read is 0
  missing_zero : (a : ℕ) (l : List ℕ) → all_there n l ≡ false → All (λ b. a ≡ read_number n vs b) l → a ≡ 0
  unfolding all_there
  missing_zero a [] t h = never t
  missing_zero a (e ∷ l) t h = bool_cases (ltb e n)
      (λ p. missing_zero a l (rw p at t) h.1)
      (λ p. h.0 ∙ away_read e p)

  zero_same : (l : List ℕ) → all_there n l ≡ false → Zero (read_number n vs) l ↔ Same (read_number n vs) l
  zero_same l t = (
    λ h. all_map (λ a. read_number n vs a ≡ 0) (λ a. All (λ b. read_number n vs a ≡ read_number n vs b) l)
        (λ a p. all_map (λ b. read_number n vs b ≡ 0) (λ b. read_number n vs a ≡ read_number n vs b) (λ b q. p ∙ sym q) l h) l h,
    λ h. all_map (λ a. All (λ b. read_number n vs a ≡ read_number n vs b) l) (λ a. read_number n vs a ≡ 0) (λ a p. missing_zero (read_number n vs a) l t p) l h,
  )

  -- 15 and 16 of what is made of lists of named edges
  lists_iff : (ls : List (List ℕ)) → (All (λ e. value_at vs e ≡ pos 0) (blocked_of n ls) × All (Even vs) (groups_of n ls)) ↔ All (Same (read_number n vs)) ls
  unfolding each
  lists_iff [] = (λ t. tt, λ t. (tt, tt))
  lists_iff (l ∷ ls) = let r = lists_iff ls in bool_cases (all_there n l)
      (λ e. let s = even_same l e in rw e (λ t. (s.0 t.1.0, r.0 (t.0, t.1.1)), λ t. let q = r.1 t.1 in (q.0, (s.1 t.0, q.1))))
      (λ e. let s = trans (present_zero l) (zero_same l e) in let a = all_append (λ e. value_at vs e ≡ pos 0) (present n l) (blocked_of n ls) in
      rw e (λ t. let b = a.0 t.0 in (s.0 b.0, r.0 (b.1, t.1)), λ t. let q = r.1 t.1 in (a.1 (s.1 t.0, q.0), q.1)))

-- ---- which edges are named together

module _ (R : ℕ → ℕ) (edge : ℕ → ℕ → ℕ) where
  pair_iff : (a b : ℕ) (list : ℕ → ℕ) (j : ℕ) → All (Same R) (pair_names edge a b list j) ↔ (R (edge a (list j)) ≡ R (edge b (list j)))
  pair_iff a b list j = (λ h. h.0.0.1.0, λ e. (((refl, (e, tt)), ((sym e, (refl, tt)), tt)), tt))

  same_choices_iff : (z : Sizes) (count : ℕ → ℕ) (list : ℕ → ℕ → ℕ) (a b : ℕ)
      → All (Same R) (same_choices_names edge z count list a b) ↔ ((s : ℕ) → s < z.slots → (j : ℕ) → j < count s → R (edge a (list s j)) ≡ R (edge b (list s j)))
  unfolding same_choices_names slot_names
  same_choices_iff z count list a b =
      let p = all_join (Same R) z.slots (slot_names_at edge count list a b) in (
        λ h s l j m. (pair_iff a b (list s) j).0 ((all_join (Same R) (count s) (pair_names edge a b (list s))).0 (p.0 h s l) j m),
        λ h. p.1 (λ s l. (all_join (Same R) (count s) (pair_names edge a b (list s))).1 (λ j m. (pair_iff a b (list s) j).1 (h s l j m))),
      )

  chooser_iff : (sch members : List ℕ) (start len c : ℕ) → Same R (chooser_names edge sch members start len c)
      ↔ ((i j : ℕ) → i < len → j < len → entry_at sch (get_or members (start + i) 0) ≢ 0 → entry_at sch (get_or members (start + j) 0) ≢ 0
      → R (edge c (get_or members (start + i) 0)) ≡ R (edge c (get_or members (start + j) 0)))
  unfolding chooser_names
  chooser_iff sch members start len c =
      let l = join_to len (member_name_at edge sch members start c) in
      let outer = all_join (λ a. All (λ b. R a ≡ R b) l) len (member_name_at edge sch members start c) in (
        λ h i j p q d e.
            let x = (all_if (λ a. All (λ b. R a ≡ R b) l) (not (eqb (entry_at sch (get_or members (start + i) 0)) 0)) (edge c (get_or members (start + i) 0) ∷ [])).0 (outer.0 h i p) (ap not (ne_eqb _ _ d)) in
            let y = (all_join (λ b. R (edge c (get_or members (start + i) 0)) ≡ R b) len (member_name_at edge sch members start c)).0 x.0 j q in
            ((all_if (λ b. R (edge c (get_or members (start + i) 0)) ≡ R b) (not (eqb (entry_at sch (get_or members (start + j) 0)) 0)) (edge c (get_or members (start + j) 0) ∷ [])).0 y (ap not (ne_eqb _ _ e))).0,
        λ h. outer.1 (λ i p. (all_if (λ a. All (λ b. R a ≡ R b) l) (not (eqb (entry_at sch (get_or members (start + i) 0)) 0)) (edge c (get_or members (start + i) 0) ∷ [])).1 (λ d. (
          (all_join (λ b. R (edge c (get_or members (start + i) 0)) ≡ R b) len (member_name_at edge sch members start c)).1 (λ j q.
              (all_if (λ b. R (edge c (get_or members (start + i) 0)) ≡ R b) (not (eqb (entry_at sch (get_or members (start + j) 0)) 0)) (edge c (get_or members (start + j) 0) ∷ [])).1
              (λ e. (h i j p q (eqb-false _ _ (not-true _ d)) (eqb-false _ _ (not-true _ e)), tt))),
          tt,
        ))),
      )

  group_iff : (z : Sizes) (sch members : List ℕ) (start len : ℕ) → All (Same R) (group_names edge z sch members start len)
      ↔ (len ≢ 1 → (c : ℕ) → c < z.choosers → Same R (chooser_names edge sch members start len c))
  unfolding group_names
  group_iff z sch members start len =
      let a = all_if (Same R) (not (eqb len 1)) (join_to z.choosers (chooser_names_at edge sch members start len)) in
      let b = all_join (Same R) z.choosers (chooser_names_at edge sch members start len) in (
        λ h d c l. (b.0 (a.0 h (ap not (ne_eqb len 1 d))) c l).0,
        λ h. a.1 (λ t. b.1 (λ c l. (h (eqb-false len 1 (not-true _ t)) c l, tt))),
      )

-- a listed choice is a scheduled one, and every scheduled choice is listed
module _ (stride : ℕ) (sch : List ℕ) (choices slots : ℕ) (bytes : List ℕ) (h : Held stride (entry_at sch) choices slots bytes) (fit : (k : ℕ) → k < choices → entry_at sch k ≤ slots) where
  place : (k : ℕ) → k < choices → entry_at sch k ≢ 0 → (j : ℕ) × (j < weighed one (entry_at sch) choices (entry_at sch k - 1)) × (listed stride bytes (entry_at sch k - 1) j ≡ k)
  place k l d = holds_has (h.at (entry_at sch k - 1) (omega (arith, fit k l))) k (rw (lt-ltb k choices l) (eq-eqb (entry_at sch k) (suc (entry_at sch k - 1)) (omega arith)))

  every_iff : (Q : ℕ → Type 0) → ((s : ℕ) → s < slots → (j : ℕ) → j < weighed one (entry_at sch) choices s → Q (listed stride bytes s j)) ↔ ((k : ℕ) → k < choices → entry_at sch k ≢ 0 → Q k)
  every_iff Q = (
    λ q k l d. let r = place k l d in subst Q r.2 (q (entry_at sch k - 1) (omega (arith, fit k l)) r.0 r.1),
    λ q s b j l.
        let m : (ltb (listed stride bytes s j) choices ≡ true) × (eqb (entry_at sch (listed stride bytes s j)) (suc s) ≡ true) = and_split (holds_in (h.at s b) j l) in
        q (listed stride bytes s j) (ltb-true _ _ m.0) (λ e. omega (arith, eqb-true (entry_at sch (listed stride bytes s j)) (suc s) m.1)),
  )

-- the names of a day, and what they say
module _ (R : ℕ → ℕ) (edge : ℕ → ℕ → ℕ) (l : Limits) (d : InputData) (sch bytes : List ℕ) (h : Held l.choices (entry_at sch) d.choices d.slots bytes) (fit : (k : ℕ) → k < d.choices → entry_at sch k ≤ d.slots) where
  abbrev X : ℕ → ℕ → ℕ
  X c k = R (edge c k)

  abbrev count : ℕ → ℕ
  count = weighed one (entry_at sch) d.choices

  abbrev list : ℕ → ℕ → ℕ
  list = listed l.choices bytes

  constraint_iff : (con : Constraint) → All (Same R) (constraint_names edge (sizes_of l d) count list con)
      ↔ (kind_number con.kind ≡ 65539 → (k : ℕ) → k < d.choices → entry_at sch k ≢ 0 → X con.left k ≡ X (target_operand con.right) k)
  unfolding constraint_names
  constraint_iff con =
      let a = all_if (Same R) (eqb (kind_number con.kind) 65539) (same_choices_names edge (sizes_of l d) count list con.left (target_operand con.right)) in
      let b = same_choices_iff R edge (sizes_of l d) count list con.left (target_operand con.right) in
      let c = every_iff l.choices sch d.choices d.slots bytes h fit (λ k. X con.left k ≡ X (target_operand con.right) k) in (
        λ q e. c.0 (b.0 (a.0 q (eq-eqb _ _ e))),
        λ q. a.1 (λ t. b.1 (c.1 (q (eqb-true _ _ t)))),
      )

  names_iff : All (Same R) (names edge (sizes_of l d) sch count list d.assignment d.groups d.lengths d.members) ↔ ReadTogether d sch X
  unfolding names constraints_names dependent_names
  names_iff =
      let a = all_append (Same R) (constraints_names edge (sizes_of l d) count list d.assignment) (dependent_names edge (sizes_of l d) sch d.groups d.lengths d.members) in
      let p = all_join (Same R) d.assignment.count (constraint_names_at edge (sizes_of l d) count list d.assignment) in
      let g = all_join (Same R) d.groups (group_names_at edge (sizes_of l d) sch d.lengths d.members) in (
        λ q. let s = a.0 q in record {
          same = λ j b. (constraint_iff (constraint_at d.assignment j)).0 (p.0 s.0 j b);
          together = λ i b e c m. (chooser_iff R edge sch d.members (member_start d.lengths i) (entry_at d.lengths i) c).0
              ((group_iff R edge (sizes_of l d) sch d.members (member_start d.lengths i) (entry_at d.lengths i)).0 (g.0 s.1 i b) e c m);
        },
        λ t. a.1 (
          p.1 (λ j b. (constraint_iff (constraint_at d.assignment j)).1 (t.same j b)),
          g.1 (λ i b. (group_iff R edge (sizes_of l d) sch d.members (member_start d.lengths i) (entry_at d.lengths i)).1
              (λ e c m. (chooser_iff R edge sch d.members (member_start d.lengths i) (entry_at d.lengths i) c).1 (t.together i b e c m))),
        ),
      )

-- ---- of a model that can be built

module _ (l : Limits) (x : ModelInput) (lens : Lengths) (short : Bool) (w : Within l) (e : number_with l x lens short ≡ 0) where
  state : StateAccepted l x.day x.state (beside_model l x lens short) false x.lists
  state = model_accepted l x lens short w e

  lists_held : Held l.choices (entry_at (entries_of x)) x.day.choices x.day.slots x.lists
  lists_held =
      let a : ((misheld l.choices (entry_at (entries_of x)) x.day.choices x.day.slots x.lists || miscounted x.day (entries_of x) x.state.covered) ≡ false)
      × (misblocked (blocked_by x.day.assignment (entries_of x)) x.day.choosers x.day.choices x.state.blocks ≡ false) = or_split state.consistent in
      let b : (misheld l.choices (entry_at (entries_of x)) x.day.choices x.day.slots x.lists ≡ false) × (miscounted x.day (entries_of x) x.state.covered ≡ false) = or_split a.0 in
      held l.choices (entry_at (entries_of x)) x.day.choices x.day.slots x.lists b.0

pub together_iff : (l : Limits) (x : ModelInput) (lens : Lengths) (short : Bool) → Within l → number_with l x lens short ≡ 0 → (vs : List ℤ)
    → ((e : ℕ) → e < length (seats_of l x) → non_neg (value_at vs e) ≡ true)
    → ((some_used (length (network_of l x).blocked) (network_of l x).blocked vs ≡ false) × (some_uneven (network_of l x).groups vs ≡ false))
    ↔ ReadTogether x.day (entries_of x) (read (seats_of l x) vs)
unfolding network_of names_of read
together_iff l x lens short w e vs signs =
    let n = length (seats_of l x) in
    let u = unused_iff vs (blocked_of n (names_of l x)) in
    let v = evens_iff vs (groups_of n (names_of l x)) in
    let a = lists_iff n vs signs (names_of l x) in
    let b = names_iff (read_number n vs) (edge_of (seats_of l x)) l x.day (entries_of x) x.lists (lists_held l x lens short w e)
    (kept_fits (state l x lens short w e).ready x.state.schedule (state l x lens short w e).inside) in (
      λ t. b.0 (a.0 (u.0 t.0, v.0 t.1)),
      λ t. let q = a.1 (b.1 t) in (u.1 q.0, v.1 q.1),
    )
