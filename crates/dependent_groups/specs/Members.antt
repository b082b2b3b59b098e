-- The scheduled members of a dependent group, in an array. Definitions and their laws.
use Rattle.std.specs.Prelude.{ℕ, zero, suc, ◌+◌, ◌*◌, ◌<◌, ◌≤◌, ◌≡◌, ◌≢◌, refl, Bool, true, false, not, List, [], ◌∷◌, ◌++◌, map, eqb, length, set, replicate}
use Rattle.std.proofs.Common.{sym, ap, ap₂, ◌∙◌, zero-add, mul-one, mul-le-mul, arith, eq-eqb, ne_eqb, length-set, get_or-set_same, get_or-set_other}
use mathlib.Core.List.{append-nil}
use Rattle.std.proofs.lemmas.List.{map-append, length-replicate}
use Rattle.counting.specs.Fold.{fold_to, only_if, join_to, table_to}
use Rattle.counting.specs.FoldLaws.{fold_none, fold_more, fold_ext}
use Rattle.counting.specs.Lists.{length_table, table_more}
use Rattle.counting.specs.Tests.{eq_cases}
use Rattle.scheduling.specs.Schedule.{entry_at}
use Rattle.edge_groups.specs.Bounds.{Few, few_weaker, few_most}
use Rattle.edge_groups.specs.Groups.{each}
use Rattle.edge_groups.specs.Names.{member_name_at, chooser_names, chooser_names_at, chooser_names_of}

-- the members that have a slot: what a group names where a choice stands for the edge to it
abbrev pub scheduled_members : List ℕ → List ℕ → List ℕ
scheduled_members sch group = chooser_names_of (λ c k. k) sch group 0

-- the first `count` places of an array hold choices
pub record Inside (choices : List ℕ) (count : ℕ) : Type 0 where
  pub few : count ≤ 64
  pub small : (i : ℕ) → i < count → entry_at choices i < 32

-- .. and these, of a group of so many members
pub record Holds (choices : List ℕ) (count : ℕ) (members : List ℕ) (size : ℕ) : Type 0 where
  pub few : count ≤ size
  pub holds : table_to count (entry_at choices) ≡ members

-- what chooser c names with them
abbrev pub member_names : (ℕ → ℕ → ℕ) → List ℕ → ℕ → ℕ → List (List ℕ)
member_names edge choices count c = table_to count (λ i. edge c (entry_at choices i)) ∷ []

-- ---- laws

member_few : (edge : ℕ → ℕ → ℕ) (choices : List ℕ) (count c : ℕ) → Few (member_names edge choices count c) count 1
unfolding each
member_few edge choices count c = let f : ℕ → ℕ = λ i. edge c (entry_at choices i) in record { named = rw append-nil (omega (arith, length_table count f)); lists = omega arith }

-- how many edges the first c choosers name
pub members_few : (edge : ℕ → ℕ → ℕ) (choices : List ℕ) (count c : ℕ) → Few (join_to c (member_names edge choices count)) (c * count) c
members_few edge choices count c = few_weaker (c * count) c (omega arith) (omega (arith, mul-one c)) (few_most c count 1 (member_names edge choices count) (member_few edge choices count))

map_join : (f : ℕ → ℕ) (n : ℕ) (g : ℕ → List ℕ) → map f (join_to n g) ≡ join_to n (λ i. map f (g i))
unfolding fold_to
map_join f zero g = refl
map_join f (suc n) g = map-append f (join_to n g) (g n) ∙ ap (λ l. l ++ map f (g n)) (map_join f n g)

map_only : (f : ℕ → ℕ) (b : Bool) (x : ℕ) → map f (only_if b (x ∷ [])) ≡ only_if b (f x ∷ [])
map_only f true x = refl
map_only f false x = refl

-- one member of a group, if it has a slot
abbrev member_at : List ℕ → List ℕ → ℕ → List ℕ
member_at sch group = member_name_at (λ c k. k) sch group 0 0

module _ (edge : ℕ → ℕ → ℕ) (sch group : List ℕ) where
  names_map : (c : ℕ) → chooser_names_of edge sch group c ≡ map (edge c) (scheduled_members sch group)
  unfolding chooser_names
  names_map c = sym (map_join (edge c) (length group) (member_at sch group)
      ∙ fold_ext ◌++◌ [] (length group) (λ i. map (edge c) (member_at sch group i)) (member_name_at edge sch group 0 c)
      (λ i h. map_only (edge c) (not (eqb (entry_at sch (entry_at group (0 + i))) 0)) (entry_at group (0 + i))))

  module _ {choices : List ℕ} {count : ℕ} (h : Holds choices count (scheduled_members sch group) (length group)) where
    chooser_named : (c : ℕ) → table_to count (λ i. edge c (entry_at choices i)) ≡ chooser_names_of edge sch group c
    chooser_named c = sym (map_join (edge c) count (λ i. entry_at choices i ∷ [])) ∙ ap (map (edge c)) h.holds ∙ sym (names_map c)

    pub rows_few : {n : ℕ} → n ≤ 64 → n * count ≤ length group * 64
    rows_few b = omega (arith, mul-le-mul b h.few)

    pub members_named : (n : ℕ) → join_to n (member_names edge choices count) ≡ join_to n (chooser_names_at edge sch group 0 (length group))
    members_named n = fold_ext ◌++◌ [] n (member_names edge choices count) (chooser_names_at edge sch group 0 (length group)) (λ c k. ap (λ l. l ∷ []) (chooser_named c))

-- ---- the loop that keeps them

-- of the first i members of a group those with a slot are kept
pub record Kept (sch group : List ℕ) (i : ℕ) (choices : List ℕ) (count : ℕ) : Type 0 where
  pub size : length choices ≡ 64
  pub few : count ≤ i
  pub small : (j : ℕ) → j < count → entry_at choices j < 32
  pub holds : table_to count (entry_at choices) ≡ join_to i (member_at sch group)

-- one more at the end
table_set : (l : List ℕ) (n x : ℕ) → n < length l → table_to (n + 1) (entry_at (set l n x)) ≡ table_to n (entry_at l) ++ (x ∷ [])
table_set l n x h = table_more n (entry_at (set l n x)) ∙ ap₂ ◌++◌
    (fold_ext ◌++◌ [] n (λ k. entry_at (set l n x) k ∷ []) (λ k. entry_at l k ∷ []) (λ k b. ap (λ y. y ∷ []) (get_or-set_other l n k x 0 (λ e. omega arith))))
    (ap (λ y. y ∷ []) (get_or-set_same l n x 0 h))

module _ (sch group : List ℕ) where
  pub kept_none : Kept sch group 0 (replicate 64 0) 0
  kept_none = record {
    size = length-replicate {A = ℕ} 64 0;
    few = omega arith;
    small = λ j k. absurd (omega arith);
    holds = fold_none ◌++◌ [] (λ k. entry_at (replicate 64 0) k ∷ []) ∙ sym (fold_none ◌++◌ [] (member_at sch group));
  }

  module _ {i : ℕ} {choices : List ℕ} {count : ℕ} (p : Kept sch group i choices count) where
    pub kept_same : entry_at sch (entry_at group i) ≡ 0 → Kept sch group (i + 1) choices count
    kept_same e = record {
      size = p.size;
      few = omega (arith, p.few);
      small = p.small;
      holds = rw (fold_more ◌++◌ [] i (member_at sch group), zero-add i, eq-eqb (entry_at sch (entry_at group i)) 0 e, append-nil) p.holds;
    }

    pub kept_more : entry_at sch (entry_at group i) ≢ 0 → entry_at group i < 32 → i < 64 → Kept sch group (i + 1) (set choices count (entry_at group i)) (count + 1)
    kept_more e s b = record {
      size = length-set choices count (entry_at group i) ∙ p.size;
      few = omega (arith, p.few);
      small = λ j k. eq_cases j count
          (λ q t. rw (q, get_or-set_same choices count (entry_at group i) 0 (omega (arith, p.size, p.few))) s)
          (λ q t. rw (get_or-set_other choices count j (entry_at group i) 0 q) (p.small j (omega arith)));
      holds = table_set choices count (entry_at group i) (omega (arith, p.size, p.few))
          ∙ rw (fold_more ◌++◌ [] i (member_at sch group), zero-add i, ne_eqb (entry_at sch (entry_at group i)) 0 e) (ap (λ l. l ++ (entry_at group i ∷ [])) p.holds);
    }

  module _ {choices : List ℕ} {count : ℕ} (p : Kept sch group (length group) choices count) where
    pub kept_all : Holds choices count (scheduled_members sch group) (length group)
    unfolding chooser_names
    kept_all = record { few = p.few; holds = p.holds }

    pub kept_inside : length group ≤ 64 → Inside choices count
    kept_inside h = record { few = omega (arith, p.few); small = p.small }
