-- The table of edge numbers, as the code fills it. Assumes nothing.
use Rattle.std.specs.Prelude.{ℕ, suc, ◌+◌, ◌<◌, ◌≡◌, refl, false, cond, List, [], ◌∷◌, ◌++◌, eqb, ltb, Option, Some, None, length, get_or, set, replicate}
use Rattle.std.proofs.Common.{sym, ap, ◌∙◌, add-zero, arith, length-set, get_or-set_same, get_or-set_other}
use Rattle.std.proofs.lemmas.List.{length-replicate, get_or-replicate}
use Rattle.std.specs.Option.{is_some}
use Rattle.counting.specs.Tests.{bool_cases, eq_cases}
use Rattle.blocks.specs.Blocks.{cell}
use Rattle.mip_flow.specs.Index.{EdgeNumbers, no_edge, number_from}

-- the same, read from a table of numbers that is laid out by cells
abbrev pub number_at : List ℕ → ℕ → ℕ → ℕ
number_at index c k = get_or index (cell c k) 0

-- the edge of chooser c to choice k, if there is one
abbrev pub edge_in : EdgeNumbers → ℕ → ℕ → Option ℕ
edge_in i c k = cond (ltb (number_at i.numbers c k) i.count) (Some (number_at i.numbers c k)) None

-- a table of numbers in which these cells are numbered from n on
unfoldable pub indexed : List ℕ → ℕ → List ℕ → List ℕ
indexed d n [] = d
indexed d n (p ∷ ps) = indexed (set d p n) (suc n) ps

-- ---- laws

module _ (i : EdgeNumbers) (c k : ℕ) where
  -- an edge is there if its number is below the count
  pub is_there : is_some (edge_in i c k) ≡ ltb (number_at i.numbers c k) i.count
  is_there = bool_cases (ltb (number_at i.numbers c k) i.count) (λ e. rw e) (λ e. rw e)

  pub not_there : edge_in i c k ≡ None → ltb (number_at i.numbers c k) i.count ≡ false
  not_there e = sym is_there ∙ ap is_some e

pub indexed_append : (d : List ℕ) (n : ℕ) (ps qs : List ℕ) → indexed d n (ps ++ qs) ≡ indexed (indexed d n ps) (n + length ps) qs
unfolding indexed
indexed_append d n [] qs = rw add-zero
indexed_append d n (p ∷ ps) qs = indexed_append (set d p n) (suc n) ps qs ∙ ap (λ k. indexed (indexed (set d p n) (suc n) ps) k qs) (omega arith)

set_at : (d : List ℕ) (q p n x : ℕ) → p < length d → get_or (set d q n) p x ≡ cond (eqb q p) n (get_or d p x)
set_at d q p n x h = eq_cases q p
    (λ e t. rw (t, e) (get_or-set_same d p n x h))
    (λ e t. rw t (get_or-set_other d q p n x (λ z. e (sym z))))

-- what the table holds at p
indexed_at : (d : List ℕ) (n : ℕ) (ps : List ℕ) (p x : ℕ) → p < length d → get_or (indexed d n ps) p x ≡ number_from n ps p (get_or d p x)
unfolding indexed number_from
indexed_at d n [] p x h = refl
indexed_at d n (q ∷ qs) p x h = indexed_at (set d q n) (suc n) qs p x (rw length-set h) ∙ ap (λ v. number_from (suc n) qs p v) (set_at d q p n x h)

-- a table that was empty gives each cell in it its number
pub indexed_is : (size : ℕ) (ps : List ℕ) (p : ℕ) → p < size → get_or (indexed (replicate size no_edge) 0 ps) p 0 ≡ number_from 0 ps p no_edge
indexed_is size ps p l =
    indexed_at (replicate size no_edge) 0 ps p 0 (rw (length-replicate {A = ℕ} size no_edge) l)
    ∙ ap (λ v. number_from 0 ps p v) (get_or-replicate {A = ℕ} size p no_edge 0 l)
