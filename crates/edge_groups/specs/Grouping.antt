-- What storing groups asks of its input. Definitions and their laws.
use Rattle.std.specs.Prelude.{ℕ, zero, suc, ◌+◌, ◌-◌, ◌<◌, ◌≤◌, ◌≡◌, refl, not, get_or, ◌≢◌, eqb, length, take, drop}
use Rattle.std.proofs.Common.{sym, ◌∙◌, arith, zero-add, eq-eqb, ne_eqb}
use Rattle.std.proofs.Math.Path.{ap}
use mathlib.Core.List.{List, [], ◌∷◌, ◌++◌}
use Rattle.counting.specs.Fold.{fold_to, only_if, join_to, table_to}
use Rattle.counting.specs.FoldLaws.{fold_ext}
use Rattle.counting.specs.Lists.{length_table, table_at}
use Rattle.constraint.specs.Kind.{kind_number, kind_of}
use Rattle.constraint.specs.Cases.{target_operand}
use Rattle.constraint.specs.declared.Constraint.{Constraint}
use Rattle.constraint.specs.declared.ConstraintType.TheVariants.{ChoosersHaveSameChoices}
use Rattle.input_data.specs.Day.{constraint_at}
use Rattle.input_data.specs.Fits.{kind_of_number}
use Rattle.input_data.specs.declared.ConstraintList.{ConstraintList}
use Rattle.input_data.specs.declared.InputData.{InputData}
use Rattle.input_data.specs.declared.Sizes.{Sizes}
use Rattle.scheduling.specs.Schedule.{entry_at}
use Rattle.slot_lists.specs.ListsLaws.{part_length, part_at}
use Rattle.slot_lists.specs.Parts.{Listed}
use Rattle.slot_lists.specs.declared.lists.SlotLists.{SlotLists}
use Rattle.model_buffers.specs.declared.groups.Groups.{Groups}
use Rattle.edge_groups.specs.Groups.{Room}
use Rattle.edge_groups.specs.Bounds.{start_within}
use Rattle.edge_groups.specs.Names.{same_choices_names, constraint_names, member_name, member_name_at, chooser_names, chooser_names_at, chooser_names_of, group_names, group_names_at, group_names_of, member_start}

-- the two choosers that a ChoosersHaveSameChoices names
abbrev pub NamesChoosers : Constraint → Type 0
NamesChoosers con = kind_number con.kind ≡ 65539 → (con.left < 64) × (target_operand con.right < 64)

-- a list of choices
abbrev pub Choices : List ℕ → Type 0
Choices l = (j : ℕ) → j < length l → entry_at l j < 32

-- a list of constraints that name choosers
pub record ListNamesChoosers (l : ConstraintList) : Type 0 where
  pub count : l.count ≤ 32
  pub names : (j : ℕ) → j < l.count → NamesChoosers (constraint_at l j)

-- all dependent groups of a day
pub record Dependent (d : InputData) : Type 0 where
  pub count : d.groups ≤ 16
  pub few : member_start d.lengths d.groups ≤ 32
  pub each : (i : ℕ) → i < member_start d.lengths d.groups → entry_at d.members i < 32

-- the slots' lists, what names edges, and buffers with room for all that may be named
pub record Grouping (z : Sizes) (lists : SlotLists) (d : InputData) (g : Groups) : Type 0 where
  pub choosers : z.choosers ≤ 64
  pub listed : Listed z.slots 32 lists
  pub constraints : ListNamesChoosers d.assignment
  pub dependent : Dependent d
  pub room : Room g 4096 2048

-- ---- laws

-- a constraint names edges if it is a ChoosersHaveSameChoices
module _ (edge : ℕ → ℕ → ℕ) (z : Sizes) (count : ℕ → ℕ) (list : ℕ → ℕ → ℕ) (con : Constraint) where
  pub names_none : con.kind ≢ ChoosersHaveSameChoices → constraint_names edge z count list con ≡ []
  unfolding constraint_names kind_of
  names_none h = rw (ne_eqb (kind_number con.kind) 65539 (λ e. h (sym (kind_of_number con.kind) ∙ ap kind_of e)))

  pub names_same : {b : ℕ} → con.kind ≡ ChoosersHaveSameChoices → b ≡ target_operand con.right → same_choices_names edge z count list con.left b ≡ constraint_names edge z count list con
  unfolding constraint_names
  names_same e q = rw (e, q)

-- two choosers, one by one
pub pair_small : (a b i : ℕ) → i < 2 → a < 64 → b < 64 → get_or (a ∷ b ∷ []) i 0 < 64
pair_small a b zero h p q = p
pair_small a b (suc zero) h p q = q
pair_small a b (suc (suc i)) h p q = absurd (omega arith)

pub pair_table : (edge : ℕ → ℕ → ℕ) (a b k : ℕ) → table_to 2 (λ i. edge (get_or (a ∷ b ∷ []) i 0) k) ≡ edge a k ∷ edge b k ∷ []
unfolding fold_to
pair_table edge a b k = refl

-- a dependent group names edges if its length is not 1
module _ (edge : ℕ → ℕ → ℕ) (z : Sizes) (sch members : List ℕ) (start len : ℕ) where
  pub group_one : len ≡ 1 → group_names edge z sch members start len ≡ []
  unfolding group_names
  group_one e = rw (eq-eqb len 1 e)

  pub group_other : len ≢ 1 → join_to z.choosers (chooser_names_at edge sch members start len) ≡ group_names edge z sch members start len
  unfolding group_names
  group_other e = rw (ne_eqb len 1 e)

-- the members of a dependent group, handed as a part of all members
module _ (edge : ℕ → ℕ → ℕ) (z : Sizes) (sch members : List ℕ) (start : ℕ) (part : List ℕ) (e : (i : ℕ) → i < length part → entry_at part i ≡ entry_at members (start + i)) where
  part_chooser : (c : ℕ) → chooser_names_of edge sch part c ≡ chooser_names edge sch members start (length part) c
  unfolding chooser_names
  part_chooser c = fold_ext ◌++◌ [] (length part) (member_name_at edge sch part 0 c) (member_name_at edge sch members start c)
      (λ i h. ap (member_name edge sch c) (rw zero-add (e i h)))

  part_group : group_names_of edge z sch part ≡ group_names edge z sch members start (length part)
  unfolding group_names
  part_group = ap (only_if (not (eqb (length part) 1))) (fold_ext ◌++◌ [] z.choosers (chooser_names_at edge sch part 0 (length part)) (chooser_names_at edge sch members start (length part))
      (λ c h. ap (λ l. l ∷ []) (part_chooser c)))

-- .. where a loop over the groups has come to group g: its members are `len` from `start` on
module _ {d : InputData} (h : Dependent d) {g start len : ℕ} (b : g < d.groups) (s : start ≡ member_start d.lengths g) (e : len ≡ entry_at d.lengths g) where
  pub part_ends : start + len ≤ 32
  part_ends = omega (arith, start_within d.lengths g d.groups b, h.few)

  module _ {all : List ℕ} (m : all ≡ table_to 32 (entry_at d.members)) where
    abbrev part : List ℕ
    part = take (start + len - start) (drop start all)

    size : start + len - start ≡ len
    size = omega arith

    pub part_long : length part ≡ len
    part_long = rw (size, m) (part_length start len (table_to 32 (entry_at d.members)) (omega (arith, part_ends, length_table 32 (entry_at d.members))))

    part_reads : (i : ℕ) → i < length part → entry_at part i ≡ entry_at d.members (start + i)
    part_reads i k =
        let j : i < len = omega (arith, part_long) in
        rw (size, m) (part_at start len (table_to 32 (entry_at d.members)) i j ∙ table_at 32 (entry_at d.members) 0 (start + i) (omega (arith, part_ends)))

    pub part_choices : Choices part
    part_choices i k = rw (part_reads i k) (h.each (start + i) (omega (arith, part_long, start_within d.lengths g d.groups b)))

    pub part_names : (edge : ℕ → ℕ → ℕ) (z : Sizes) (sch : List ℕ) → group_names_of edge z sch part ≡ group_names_at edge z sch d.lengths d.members g
    part_names edge z sch = part_group edge z sch d.members start part part_reads ∙ rw (part_long, s, e)
