-- What is stored of edges that a function gives one by one. Definitions and their laws.
use Rattle.std.specs.Prelude.{ℕ, ◌+◌, ◌<◌, ◌≤◌, ◌≡◌, Bool, true, false, cond, ◌&&◌, List, [], ◌∷◌, ◌++◌, ltb, length, Option, Some, None, IfSome}
use Rattle.std.proofs.Common.{sym, ap, ◌∙◌, arith, length-append}
use Rattle.std.specs.Option.{is_some}
use Rattle.std.proofs.Math.Bool.{and-true}
use mathlib.Core.List.{append-nil}
use Rattle.counting.specs.Calls.{AgreesBelow}
use Rattle.counting.specs.Fold.{all_to, table_to}
use Rattle.counting.specs.FoldLaws.{fold_none, fold_ext}
use Rattle.counting.specs.Lists.{table_more}
use Rattle.counting.specs.Tests.{bool_cases}
use Rattle.model_buffers.specs.Stored.{Filled, holding, group_closed}
use Rattle.model_buffers.specs.StoredLaws.{filled_none, filled_append}
use Rattle.model_buffers.specs.declared.groups.Groups.{Groups}
use Rattle.edge_groups.specs.Groups.{each, all_there, if_there, present, store_groups}
use Rattle.edge_groups.specs.Stored.{each_append, there_each, stored_group, stored_blocked}

-- edge i, whose number is `name i`, if it is there
abbrev pub one_there : ℕ → (ℕ → ℕ) → ℕ → Option ℕ
one_there n name i = cond (ltb (name i) n) (Some (name i)) None

-- an edge if it is there, as a list
abbrev pub edge_list : Option ℕ → List ℕ
edge_list None = []
edge_list (Some e) = e ∷ []

-- the number of each edge has 16 bits
abbrev pub GivesSmall : (ℕ → Option ℕ → Type 0) → ℕ → Type 0
GivesSmall gives n = (i : ℕ) → i < n → (e : Option ℕ) → gives i e → IfSome e (λ x. x < 65536)

-- of the first i of n edges those that are there were stored in a buffer after the first u
pub record PutsThose (gives : ℕ → Option ℕ → Type 0) (n : ℕ) (l : List ℕ) (u i : ℕ) (l' : List ℕ) (u' : ℕ) : Type 0 where
  pub edges : List ℕ
  pub few : length edges ≤ i
  pub stored : Filled l u edges l' u'
  pub those : (count : ℕ) (name : ℕ → ℕ) → AgreesBelow gives n (one_there count name) → edges ≡ present count (table_to i name)

list_there : (n : ℕ) (name : ℕ → ℕ) (i : ℕ) → edge_list (one_there n name i) ≡ if_there n (name i)
list_there n name i = bool_cases (ltb (name i) n) (λ e. rw e) (λ e. rw e)

list_few : (e : Option ℕ) → length (edge_list e) ≤ 1
list_few None = omega arith
list_few (Some e) = omega arith

list_more : (count : ℕ) (name : ℕ → ℕ) (i : ℕ) (l : List ℕ) (e : Option ℕ) → l ≡ present count (table_to i name) → e ≡ one_there count name i → l ++ edge_list e ≡ present count (table_to (i + 1) name)
unfolding each
list_more count name i l e p q = rw (p, q, table_more i name, each_append, list_there, append-nil)

module _ {gives : ℕ → Option ℕ → Type 0} {n : ℕ} {l : List ℕ} {u : ℕ} where
  pub puts_none : PutsThose gives n l u 0 l u
  unfolding each
  puts_none = record {
    edges = [];
    few = omega arith;
    stored = filled_none l u;
    those = λ count name t. sym (ap (present count) (fold_none ◌++◌ [] (λ k. name k ∷ [])));
  }

  pub puts_more : {i : ℕ} {l' l'' : List ℕ} {u' u'' : ℕ} (e : Option ℕ) → i < n → gives i e → Filled l' u' (edge_list e) l'' u'' → PutsThose gives n l u i l' u' → PutsThose gives n l u (i + 1) l'' u''
  puts_more {i = i} e h q s p = record {
    edges = p.edges ++ edge_list e;
    few = omega (arith, length-append p.edges (edge_list e), list_few e, p.few);
    stored = filled_append p.stored s;
    those = λ count name t. list_more count name i p.edges e (p.those count name t) (t i h e q);
  }

-- the answer of such a call is whether the edge is there
pub one_some : (count : ℕ) (name : ℕ → ℕ) (i : ℕ) {e : Option ℕ} → e ≡ one_there count name i → is_some e ≡ ltb (name i) count
one_some count name i q = rw q (bool_cases (ltb (name i) count) (λ e. rw e) (λ e. rw e))

-- those that are there were stored, as a group or as blocked
module _ (count : ℕ) (name : ℕ → ℕ) (n : ℕ) {all : Bool} (a : all ≡ all_to n (λ i. ltb (name i) count)) where
  all_named : all ≡ all_there count (table_to n name)
  unfolding all_there
  all_named = a ∙ fold_ext ◌&&◌ true n (λ i. ltb (name i) count) (λ i. all_there count (name i ∷ [])) (λ k h. sym (and-true (ltb (name k) count))) ∙ there_each count (λ i. name i ∷ []) n

  module _ {gives : ℕ → Option ℕ → Type 0} (t : AgreesBelow gives n (one_there count name)) (g : Groups) (l : List ℕ) (u : ℕ) where
    pub together_group : all ≡ true → PutsThose gives n g.entries.now g.entries_used n l u → group_closed (record g { entries = holding g.entries l; entries_used = u }) ≡ store_groups count g (table_to n name ∷ [])
    together_group e p = stored_group count g (table_to n name) (sym all_named ∙ e) (rw (p.those count name t) at p.stored)

    pub together_blocked : all ≡ false → PutsThose gives n g.blocked.now g.blocked_used n l u → record g { blocked = holding g.blocked l; blocked_used = u } ≡ store_groups count g (table_to n name ∷ [])
    together_blocked e p = stored_blocked count g (table_to n name) (sym all_named ∙ e) (rw (p.those count name t) at p.stored)
