-- How much is stored of lists of named edges, and how many edges constraints and dependent groups name. Assumes nothing.
use Rattle.std.specs.Prelude.{ℕ, zero, suc, ◌+◌, ◌*◌, ◌<◌, ◌≤◌, ◌≡◌, refl, Bool, true, false, not, ltb, eqb, length}
use Rattle.std.proofs.Common.{zero-le, mul-one, mul_comm, suc-mul, mul-le-mul_right, sym, length-append}
use native.Mathlib.Omega.{arith}
use mathlib.Core.List.{List, [], ◌∷◌, ◌++◌, append-nil}
use Rattle.counting.specs.Fold.{fold_to, only_if, join_to, sum_to}
use Rattle.counting.specs.FoldLaws.{fold_none, fold_more}
use Rattle.counting.specs.Sums.{sum_const, sum_mono}
use Rattle.counting.specs.Lists.{length_join_most, only_length}
use Rattle.counting.specs.WrittenLaws.{length_written}
use Rattle.constraint.specs.declared.Constraint.{Constraint}
use Rattle.constraint.specs.Kind.{kind_number}
use Rattle.constraint.specs.Cases.{target_operand}
use Rattle.input_data.specs.declared.ConstraintList.{ConstraintList}
use Rattle.input_data.specs.Day.{constraint_at}
use Rattle.scheduling.specs.Schedule.{entry_at}
use Rattle.input_data.specs.declared.Sizes.{Sizes}
use Rattle.model_buffers.specs.declared.groups.Groups.{Groups}
use Rattle.edge_groups.specs.Groups.{each, all_there, present, groups_of, blocked_of, flat, store_groups, Room}
use Rattle.edge_groups.specs.Names.{pair_names, slot_names, slot_names_at, same_choices_names, constraint_names, constraint_names_at, constraints_names, member_name_at, chooser_names, chooser_names_at, group_names, group_names_at, member_start, dependent_names, names}
use Rattle.edge_groups.specs.Stored.{each_append}

-- ---- no more is stored than is named

one_le : (t : Bool) (a : ℕ) (l : List ℕ) (m : ℕ) → length l ≤ m → length (only_if t (a ∷ []) ++ l) ≤ suc m
one_le true a l m h = omega arith
one_le false a l m h = omega arith

pub present_length : (n : ℕ) (l : List ℕ) → length (present n l) ≤ length l
unfolding each
present_length n [] = zero-le
present_length n (a ∷ l) = one_le (ltb a n) a (present n l) (length l) (present_length n l)

-- groups and blocked edges are at most what lists name
record Less (ls gs : List (List ℕ)) (bs : List ℕ) : Type 0 where
  in_groups : length (flat gs) ≤ length (flat ls)
  groups : length gs ≤ length ls
  blocked : length bs ≤ length (flat ls)

less_more : (t : Bool) (l p : List ℕ) (ls gs : List (List ℕ)) (bs : List ℕ) → length p ≤ length l → Less ls gs bs → Less (l ∷ ls) (only_if t (l ∷ []) ++ gs) (only_if (not t) p ++ bs)
unfolding each
less_more true l p ls gs bs h r = omega (arith, length-append l (flat gs), length-append l (flat ls))
less_more false l p ls gs bs h r = omega (arith, length-append l (flat ls), length-append p bs)

less_stored : (n : ℕ) (ls : List (List ℕ)) → Less ls (groups_of n ls) (blocked_of n ls)
unfolding each
less_stored n [] = record { in_groups = zero-le; groups = zero-le; blocked = zero-le }
less_stored n (l ∷ ls) = less_more (all_there n l) l (present n l) ls (groups_of n ls) (blocked_of n ls) (present_length n l) (less_stored n ls)

-- at most g lists that name at most w edges in all
pub record Few (ls : List (List ℕ)) (w g : ℕ) : Type 0 where
  pub named : length (flat ls) ≤ w
  pub lists : length ls ≤ g

-- what is stored of them
pub stored_most : (n : ℕ) {ls : List (List ℕ)} {w g : ℕ} → Few ls w g → (length (flat (groups_of n ls)) ≤ w) × (length (groups_of n ls) ≤ g) × (length (blocked_of n ls) ≤ w)
stored_most n {ls = ls} f = let le = less_stored n ls in (omega (arith, f.named), omega (arith, f.lists), omega (arith, f.named))

-- where there was room for w and k, room for w' and k' is left after some of them
pub room_after : (n : ℕ) (g : Groups) (ls : List (List ℕ)) {g' : Groups} {w k u v : ℕ} (w' k' : ℕ) → g' ≡ store_groups n g ls → Room g w k → Few ls u v → u + w' ≤ w → v + k' ≤ k → Room g' w' k'
unfolding store_groups
room_after n g ls w' k' p r f h i =
    let le = less_stored n ls in
    rw p (record {
      small = omega (arith, le.in_groups, f.named, r.small);
      entries = simp length_written (omega (arith, le.in_groups, f.named, r.entries));
      ends = simp length_written (omega (arith, le.groups, f.lists, r.ends));
      blocked = simp length_written (omega (arith, le.blocked, f.named, r.blocked));
    })

pub room_less : {g : Groups} {w k : ℕ} (u v : ℕ) → u ≤ w → v ≤ k → Room g w k → Room g u v
room_less u v h i r = record { small = omega (arith, r.small); entries = omega (arith, r.entries); ends = omega (arith, r.ends); blocked = omega (arith, r.blocked) }

-- ---- joins of few

few_none : (u v : ℕ) → Few [] u v
unfolding each
few_none u v = record { named = zero-le; lists = zero-le }

pub few_weaker : {ls : List (List ℕ)} {u v : ℕ} (u' v' : ℕ) → u ≤ u' → v ≤ v' → Few ls u v → Few ls u' v'
few_weaker u' v' h i p = record { named = omega (arith, p.named); lists = omega (arith, p.lists) }

few_if : (t : Bool) {ls : List (List ℕ)} {u v : ℕ} → Few ls u v → Few (only_if t ls) u v
few_if true p = p
few_if false p = few_none _ _

few_join : (m : ℕ) (f : ℕ → List (List ℕ)) (g h : ℕ → ℕ) → ((i : ℕ) → Few (f i) (g i) (h i)) → Few (join_to m f) (sum_to m g) (sum_to m h)
unfolding fold_to each
few_join zero f g h p = record { named = zero-le; lists = zero-le }
few_join (suc m) f g h p =
    let q = few_join m f g h p in
    let r = p m in
    record {
      named = rw each_append (omega (arith, length-append (flat (join_to m f)) (flat (f m))));
      lists = omega (arith, length-append (join_to m f) (f m));
    }

-- m parts of the same size
pub few_most : (m u v : ℕ) (f : ℕ → List (List ℕ)) → ((i : ℕ) → Few (f i) u v) → Few (join_to m f) (m * u) (m * v)
few_most m u v f p =
    let q = few_join m f (λ i. u) (λ i. v) p in
    few_weaker (m * u) (m * v) (omega (arith, sum_const m u)) (omega (arith, sum_const m v)) q

-- one after the other
pub few_then : {ls ms : List (List ℕ)} {u v u' v' : ℕ} → Few ls u v → Few ms u' v' → Few (ls ++ ms) (u + u') (v + v')
few_then {ls = ls} {ms = ms} p q = record {
  named = rw each_append (omega (arith, length-append (flat ls) (flat ms), p.named, q.named));
  lists = omega (arith, length-append ls ms, p.lists, q.lists);
}

-- ---- how much constraints and dependent groups name

sum_twice : (m : ℕ) (f : ℕ → ℕ) → sum_to m (λ i. f i * 2) ≡ sum_to m f * 2
unfolding fold_to
sum_twice zero f = refl
sum_twice (suc m) f = omega (arith, sum_twice m f)

sum_64_times : (m : ℕ) (f : ℕ → ℕ) → sum_to m (λ i. f i * 64) ≡ sum_to m f * 64
unfolding fold_to
sum_64_times zero f = refl
sum_64_times (suc m) f = omega (arith, sum_64_times m f)

-- what the first s summands make, and summand s, are within the sum of m
pub sum_within : (f : ℕ → ℕ) (s m : ℕ) → s < m → sum_to s f + f s ≤ sum_to m f
sum_within f s m h = omega (arith, fold_more ◌+◌ 0 s f, sum_mono (s + 1) m f (omega arith))

pub start_none : (lengths : List ℕ) → 0 ≡ member_start lengths 0
unfolding member_start
start_none lengths = sym (fold_none ◌+◌ 0 (entry_at lengths))

pub start_more : (lengths : List ℕ) (g : ℕ) {start : ℕ} → start ≡ member_start lengths g → start + entry_at lengths g ≡ member_start lengths (g + 1)
unfolding member_start
start_more lengths g e = rw (fold_more ◌+◌ 0 g (entry_at lengths), e)

pub start_within : (lengths : List ℕ) (g m : ℕ) → g < m → member_start lengths g + entry_at lengths g ≤ member_start lengths m
unfolding member_start
start_within lengths g m h = sum_within (entry_at lengths) g m h

pub row_le : (i m n : ℕ) → i < m → i * n + n ≤ m * n
row_le i m n h = omega (arith, suc-mul i n, mul-le-mul_right n h)

-- as many rows as there are choosers
pub rows_le : (m n : ℕ) → m ≤ 64 → m * n ≤ n * 64
rows_le m n h = rw (mul_comm n 64) (mul-le-mul_right n h)

-- `edge c k` is the number of an edge
module _ (edge : ℕ → ℕ → ℕ) where
  pair_few : (a b : ℕ) (list : ℕ → ℕ) (j : ℕ) → Few (pair_names edge a b list j) 2 1
  unfolding each
  pair_few a b list j = record { named = omega arith; lists = omega arith }

  pub pairs_few : (a b : ℕ) (list : ℕ → ℕ) (j : ℕ) → Few (join_to j (pair_names edge a b list)) (j * 2) j
  pairs_few a b list j = few_weaker (j * 2) j (omega arith) (omega (arith, mul-one j)) (few_most j 2 1 _ (pair_few a b list))

  -- the lists of the first s slots; `count s` is the length of the list of slot s
  pub slots_few : (count : ℕ → ℕ) (list : ℕ → ℕ → ℕ) (a b s : ℕ) → Few (join_to s (slot_names_at edge count list a b)) (sum_to s count * 2) (sum_to s count)
  unfolding slot_names
  slots_few count list a b s = rw (← sum_twice s count) (few_join s (slot_names_at edge count list a b) (λ i. count i * 2) count (λ i. pairs_few a b (list i) (count i)))

  module _ (z : Sizes) (count : ℕ → ℕ) (list : ℕ → ℕ → ℕ) (h : sum_to z.slots count ≤ 32) where
    constraint_few : (con : Constraint) → Few (constraint_names edge z count list con) 64 32
    unfolding constraint_names same_choices_names
    constraint_few con = few_if (eqb (kind_number con.kind) 65539) (few_weaker 64 32 (omega arith) h (slots_few count list con.left (target_operand con.right) z.slots))

    pub constraints_few : (l : ConstraintList) (j : ℕ) → Few (join_to j (constraint_names_at edge z count list l)) (j * 64) (j * 32)
    constraints_few l j = few_most j 64 32 (constraint_names_at edge z count list l) (λ i. constraint_few (constraint_at l i))

    pub list_few : (l : ConstraintList) → l.count ≤ 32 → Few (constraints_names edge z count list l) 2048 1024
    unfolding constraints_names
    list_few l m = few_weaker 2048 1024 (omega arith) (omega arith) (constraints_few l l.count)

  module _ (sch members : List ℕ) (start : ℕ) where
    pub members_length : (c i : ℕ) → length (join_to i (member_name_at edge sch members start c)) ≤ i
    members_length c i = omega (arith, mul-one i, length_join_most i 1 (member_name_at edge sch members start c) (λ j. only_length (not (eqb (entry_at sch (entry_at members (start + j))) 0)) _))

    pub chooser_length : (len c : ℕ) → length (chooser_names edge sch members start len c) ≤ len
    unfolding chooser_names
    chooser_length len c = members_length c len

    chooser_few : (len c : ℕ) → Few (chooser_names_at edge sch members start len c) len 1
    unfolding each
    chooser_few len c = record { named = rw append-nil (chooser_length len c); lists = omega arith }

    pub choosers_few : (len c : ℕ) → Few (join_to c (chooser_names_at edge sch members start len)) (c * len) c
    choosers_few len c = few_weaker (c * len) c (omega arith) (omega (arith, mul-one c)) (few_most c len 1 (chooser_names_at edge sch members start len) (chooser_few len))

  module _ (z : Sizes) (sch lengths members : List ℕ) (h : z.choosers ≤ 64) where
    group_few : (start len : ℕ) → Few (group_names edge z sch members start len) (len * 64) 64
    unfolding group_names
    group_few start len = few_if (not (eqb len 1)) (few_weaker (len * 64) 64 (rows_le z.choosers len h) h (choosers_few sch members start len z.choosers))

    pub groups_few : (g : ℕ) → Few (join_to g (group_names_at edge z sch lengths members)) (member_start lengths g * 64) (g * 64)
    unfolding member_start
    groups_few g = rw (← sum_64_times g (entry_at lengths), ← sum_const g 64) (few_join g (group_names_at edge z sch lengths members) (λ i. entry_at lengths i * 64) (λ i. 64) (λ i. group_few (member_start lengths i) (entry_at lengths i)))

    pub dependent_few : (groups : ℕ) → groups ≤ 16 → member_start lengths groups ≤ 32 → Few (dependent_names edge z sch groups lengths members) 2048 1024
    unfolding dependent_names
    dependent_few groups p q = few_weaker 2048 1024 (omega arith) (omega arith) (groups_few groups)

-- all that is named, whatever stands for an edge's number: the buffers have room for it
pub names_few : (edge : ℕ → ℕ → ℕ) (z : Sizes) (sch : List ℕ) (count : ℕ → ℕ) (list : ℕ → ℕ → ℕ) (assignment : ConstraintList) (groups : ℕ) (lengths members : List ℕ)
    → sum_to z.slots count ≤ 32 → assignment.count ≤ 32 → z.choosers ≤ 64 → groups ≤ 16 → member_start lengths groups ≤ 32
    → Few (names edge z sch count list assignment groups lengths members) 4096 2048
unfolding names
names_few edge z sch count list assignment groups lengths members a b c d e =
    few_then (list_few edge z count list a assignment b) (dependent_few edge z sch lengths members c groups d e)
