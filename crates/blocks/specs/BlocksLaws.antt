-- A table of blocks, as the code fills it. Assumes nothing.
use Rattle.std.specs.Prelude.{ℕ, ◌+◌, ◌<◌, ◌≤◌, ◌/◌, ◌%◌, ◌≡◌, refl, Bool, true, false, not, ◌&&◌, ◌||◌, ◌⊎◌, List, eqb, ltb, length, get_or, set, replicate}
use Rattle.std.proofs.Common.{sym, ap, ap₂, ◌∙◌, div-add-mod', arith, length-set, ext_get_or, get_or-set_same, get_or-set_other, eq-eqb, lt-ltb, le-ltb}
use Rattle.std.proofs.Math.Bool.{or-false}
use Rattle.std.proofs.lemmas.List.{get_or-replicate}
use Rattle.counting.specs.Fold.{any_to, table_to}
use Rattle.counting.specs.FoldLaws.{fold_none}
use Rattle.counting.specs.Lists.{length_table, table_at}
use Rattle.counting.specs.Tests.{bool_cases, eq_cases, lt_cases, any_more, below_any}
use Rattle.constraint.specs.Kind.{kind_number}
use Rattle.constraint.specs.Cases.{target_operand}
use Rattle.constraint.specs.declared.Constraint.{Constraint}
use Rattle.input_data.specs.Day.{constraint_at}
use Rattle.input_data.specs.declared.ConstraintList.{ConstraintList}
use Rattle.scheduling.specs.Schedule.{entry_at}
use Rattle.blocks.specs.Blocks.{blocks_by, blocks_at, blocked_by, cell}

-- what is blocked for one chooser
abbrev pub shares : List ℕ → ℕ → ℕ → Bool
shares sch x k = eqb (entry_at sch k) (entry_at sch x) && not (eqb k x)

abbrev pub beside_for : List ℕ → ℕ → ℕ → ℕ → ℕ → Bool
beside_for sch chooser x c k = eqb c chooser && shares sch x k

-- a table of blocks that was b before and in which g is blocked too now
pub record Blocked (g : ℕ → ℕ → Bool) (b b' : List Bool) : Type 0 where
  pub long : length b' ≡ length b
  pub at : (c k : ℕ) → c < 64 → k < 32 → get_or b' (cell c k) false ≡ (get_or b (cell c k) false || g c k)

-- what blocking by a constraint asks: the kinds that block name a chooser and a choice
pub record Blockable (kind chooser x : ℕ) : Type 0 where
  pub is_in : kind ≡ 65537 → (chooser < 64) × (x < 32)
  pub is_not_in : kind ≡ 65538 → (chooser < 64) × (x < 32)

-- .. of every constraint of a list
pub record Blocking (l : ConstraintList) : Type 0 where
  pub count : l.count ≤ 32
  pub each : (j : ℕ) → j < l.count → (kind_number (constraint_at l j).kind ≡ 65537) ⊎ (kind_number (constraint_at l j).kind ≡ 65538) → ((constraint_at l j).left < 64) × (target_operand (constraint_at l j).right < 32)

-- .. with a table in which nothing is blocked
pub record Unfilled (l : ConstraintList) (b : List Bool) : Type 0 where
  pub blocking : Blocking l
  pub none : (p : ℕ) → p < 2048 → get_or b p false ≡ false

-- a table of blocks that holds f
pub record Blocks (f : ℕ → ℕ → Bool) (b : List Bool) : Type 0 where
  pub long : length b ≡ 2048
  pub at : (c k : ℕ) → c < 64 → k < 32 → get_or b (cell c k) false ≡ f c k

-- ---- laws

-- a place is one chooser's and one choice's
cell_same : (c k a b : ℕ) → k < 32 → b < 32 → cell c k ≡ cell a b → (c ≡ a) × (k ≡ b)
cell_same c k a b h g e = lt_cases c a
    (λ l z. absurd (omega arith))
    (λ l z. lt_cases a c (λ m y. absurd (omega arith)) (λ m y. (omega arith, omega arith)))

pub cell_in : (c k : ℕ) → c < 64 → k < 32 → cell c k < 2048
cell_in c k h g = omega arith

pub blocked_ext : {g h : ℕ → ℕ → Bool} {b b' : List Bool} → ((c k : ℕ) → c < 64 → k < 32 → g c k ≡ h c k) → Blocked g b b' → Blocked h b b'
blocked_ext {b = b} q p = record { long = p.long; at = λ c k x y. p.at c k x y ∙ ap (λ (t : Bool). get_or b (cell c k) false || t) (q c k x y) }

-- one place is blocked where r holds
pub blocked_one : (b : List Bool) (a x : ℕ) (r : Bool) → length b ≡ 2048 → a < 64 → x < 32 → Blocked (λ c k. eqb c a && (eqb k x && r)) b (set b (cell a x) (get_or b (cell a x) false || r))
blocked_one b a x r n ha hx = record {
  long = length-set b (cell a x) (get_or b (cell a x) false || r);
  at = λ c k hc hk. eq_cases (cell c k) (cell a x)
      (λ e t. let s = cell_same c k a x hk hx e in
      rw (e, get_or-set_same b (cell a x) (get_or b (cell a x) false || r) false (omega (arith, cell_in a x ha hx)), eq-eqb c a s.0, eq-eqb k x s.1))
      (λ e t. get_or-set_other b (cell a x) (cell c k) (get_or b (cell a x) false || r) false e
      ∙ eq_cases c a
      (λ p q. rw q (eq_cases k x (λ u v. absurd (e (ap₂ cell p u))) (λ u v. rw v (sym (or-false (get_or b (cell c k) false))))))
      (λ p q. rw q (sym (or-false (get_or b (cell c k) false)))));
}

or_more : (a g h : Bool) → ((a || g) || h) ≡ (a || (g || h))
or_more true g h = refl
or_more false g h = refl

-- one after the other
pub blocked_then : {g h : ℕ → ℕ → Bool} {b b' b'' : List Bool} → Blocked g b b' → Blocked h b' b'' → Blocked (λ c k. g c k || h c k) b b''
blocked_then {g = g} {h = h} {b = b} p q = record {
  long = q.long ∙ p.long;
  at = λ c k x y. q.at c k x y ∙ ap (λ (t : Bool). t || h c k) (p.at c k x y) ∙ or_more (get_or b (cell c k) false) (g c k) (h c k);
}

-- for one chooser, the choices below i of those that pass r
abbrev pub so_far : ℕ → (ℕ → Bool) → ℕ → ℕ → ℕ → Bool
so_far chooser r i c k = eqb c chooser && (ltb k i && r k)

pub row_more : {chooser : ℕ} (r : ℕ → Bool) {i : ℕ} {b b' : List Bool} {t : Bool} → Blocked (so_far chooser r i) b b' → length b ≡ 2048 → chooser < 64 → i < 32 → t ≡ r i → Blocked (so_far chooser r (i + 1)) b (set b' (cell chooser i) (get_or b' (cell chooser i) false || t))
row_more {chooser = chooser} r {i = i} {b' = b'} {t = t} p n hc hi e =
    blocked_ext (λ c k x y. bool_cases (eqb c chooser) (λ q. rw q (step k)) (λ q. rw q))
    (blocked_then p (blocked_one b' chooser i t (p.long ∙ n) hc hi))
  where
    step : (k : ℕ) → ((ltb k i && r k) || (eqb k i && t)) ≡ (ltb k (i + 1) && r k)
    step k = eq_cases k i
        (λ u v. rw (v, le-ltb k i (omega arith), lt-ltb k (i + 1) (omega arith)) (e ∙ ap r (sym u)))
        (λ u v. rw (v, or-false (ltb k i && r k)) (lt_cases k i
        (λ l w. rw (w, lt-ltb k (i + 1) (omega arith)))
        (λ l w. rw (w, le-ltb k (i + 1) (omega arith)))))

-- ---- what a list of constraints blocks

-- the constraints below j
abbrev pub blocked_to : ConstraintList → List ℕ → ℕ → ℕ → ℕ → Bool
blocked_to l sch j c k = any_to j (blocks_at l sch c k)

pub blocks_none : {l : ConstraintList} {b : List Bool} (sch : List ℕ) → length b ≡ 2048 → Unfilled l b → Blocks (blocked_to l sch 0) b
blocks_none {l = l} sch n h = record { long = n; at = λ c k x y. h.none (cell c k) (cell_in c k x y) ∙ sym (fold_none ◌||◌ false (blocks_at l sch c k)) }

pub blocks_more : (l : ConstraintList) (sch : List ℕ) (j : ℕ) {con : Constraint} {b b' : List Bool} → Blocks (blocked_to l sch j) b → con ≡ constraint_at l j → Blocked (blocks_by con sch) b b' → Blocks (blocked_to l sch (j + 1)) b'
blocks_more l sch j p e q = record {
  long = q.long ∙ p.long;
  at = λ c k x y. q.at c k x y ∙ any_more j (blocks_at l sch c k) (p.at c k x y) (ap (λ t. blocks_by t sch c k) e);
}

pub blocks_all : (l : ConstraintList) (sch : List ℕ) {j : ℕ} {b : List Bool} → l.count ≤ 32 → j ≡ l.count → Blocks (blocked_to l sch j) b → Blocks (blocked_by l sch) b
unfolding blocked_by
blocks_all l sch h e p = record { long = p.long; at = λ c k x y. p.at c k x y ∙ ap (λ n. blocked_to l sch n c k) e ∙ sym (below_any 32 l.count (blocks_at l sch c k) h) }

-- the table, place by place
pub blocks_table : (f : ℕ → ℕ → Bool) (b : List Bool) → Blocks f b → b ≡ table_to 2048 (λ p. f (p / 32) (p % 32))
blocks_table f b h = ext_get_or false b (table_to 2048 (λ p. f (p / 32) (p % 32))) (h.long ∙ sym (length_table 2048 (λ p. f (p / 32) (p % 32))))
    (λ p l. let q : p < 2048 = omega (arith, h.long) in
    ap (λ i. get_or b i false) (place p) ∙ h.at (p / 32) (p % 32) (div_lt p q) (mod_lt p) ∙ sym (table_at 2048 (λ p. f (p / 32) (p % 32)) false p q))
  where
    place : (p : ℕ) → p ≡ cell (p / 32) (p % 32)
    place p = omega (arith, div-add-mod' p 32)

    div_lt : (p : ℕ) → p < 2048 → p / 32 < 64
    div_lt p l = omega (arith, div-add-mod' p 32)

    mod_lt : (p : ℕ) → p % 32 < 32
    mod_lt p = omega arith

pub unfilled : {l : ConstraintList} → Blocking l → Unfilled l (replicate 2048 false)
unfilled h = record { blocking = h; none = λ p b. get_or-replicate 2048 p false false b }
