-- A flow by chooser and choice: what values along the edges are that are within their bounds and balanced at every node. Assumes nothing.
-- Row a of the edges is chooser a's, to the choices; the row after the last chooser holds the edges of the choices to their slots.
use Rattle.std.specs.Prelude.{ℕ, zero, suc, ◌+◌, ◌-◌, ◌*◌, ◌≤◌, ◌<◌, ◌≡◌, refl, Bool, true, false, not, ◌&&◌, ◌≢◌, ltb}
use Rattle.std.proofs.Common.{sym, ◌∙◌, mul-le-mul_right, arith}
use Rattle.std.proofs.Math.Path.{ap, ap₂}
use Rattle.std.proofs.Math.Bool.{cond}
use Rattle.std.proofs.Math.Dec.{eqb}
use borrow.Author.Tests.{eqb-true, eqb-false, eq-eqb, ne_eqb, lt-ltb, le-ltb, ltb-true, not-true}
use Rattle.counting.specs.Fold.{gate, sum_to}
use Rattle.counting.specs.Sums.{sum_zeros, sum_only, sum_below, grid_lt}
use Rattle.counting.specs.Tests.{bool_cases, eq_cases, lt_cases, and_split}
use Rattle.plans.specs.Pairs.{gate_alike, and_join, eqb_as, pair_true, sum_ext, sum_ext2, row_sum, col_sum, Pairs, value, pairs_has, value_at_lem, value_off, value_of, value_sum}

-- what a model is made from: an entry is 0 for none and s + 1 for slot s
pub record Frame : Type 0 where
  pub choosers : ℕ
  pub slots : ℕ
  pub choices : ℕ
  pub entry : ℕ → ℕ
  pub least : ℕ → ℕ
  pub most : ℕ → ℕ
  pub allowed : ℕ → ℕ → Bool
  pub fits : (k : ℕ) → k < choices → entry k ≤ slots

-- ---- numbers on a grid

pub grid_same : (m a b c d : ℕ) → b < m → d < m → a * m + b ≡ c * m + d → (a ≡ c) × (b ≡ d)
grid_same m a b c d hb hd e = eq_cases a c
    (λ p t. (p, omega (arith, ap (λ (z : ℕ). z * m) p)))
    (λ p t. lt_cases a c
    (λ l u. absurd (omega (arith, mul-le-mul_right m l)))
    (λ l u. let q : c < a = omega arith in absurd (omega (arith, mul-le-mul_right m q))))

module _ (f : Frame) where
  open f use {choosers, slots, choices, entry, least, most, allowed, fits}

  -- there is an edge of row a to choice k
  unfoldable pub present : ℕ → ℕ → Bool
  present a k = ltb k choices && (not (eqb (entry k) 0) && cond (ltb a choosers) (allowed a k) (eqb a choosers))

  pub record Present (a k : ℕ) : Type 0 where
    pub row : a ≤ choosers
    pub item : k < choices
    pub placed : entry k ≢ 0
    pub may : a < choosers → allowed a k ≡ true

  pub present_true : (a k : ℕ) → present a k ≡ true → Present a k
  unfolding present
  present_true a k e =
      let r : (ltb k choices ≡ true) × ((not (eqb (entry k) 0) && cond (ltb a choosers) (allowed a k) (eqb a choosers)) ≡ true) = and_split e in
      let q : (not (eqb (entry k) 0) ≡ true) × (cond (ltb a choosers) (allowed a k) (eqb a choosers) ≡ true) = and_split r.1 in
      record {
        row = lt_cases a choosers (λ l t. omega arith) (λ l t. omega (arith, eqb-true a choosers (rw t at q.1)));
        item = ltb-true k choices r.0;
        placed = eqb-false (entry k) 0 (not-true _ q.0);
        may = λ l. rw (lt-ltb a choosers l) at q.1;
      }

  pub present_seat : (a k : ℕ) → a < choosers → k < choices → entry k ≢ 0 → allowed a k ≡ true → present a k ≡ true
  unfolding present
  present_seat a k h i j e = rw (lt-ltb k choices i, ne_eqb (entry k) 0 j, lt-ltb a choosers h) e

  pub present_width : (k : ℕ) → k < choices → entry k ≢ 0 → present choosers k ≡ true
  unfolding present
  present_width k i j = rw (lt-ltb k choices i, ne_eqb (entry k) 0 j, le-ltb choosers choosers (omega arith)) (eq-eqb choosers choosers refl)

  -- ---- the nodes at both ends of an edge

  unfoldable pub from_of : ℕ → ℕ → ℕ
  from_of a k = cond (ltb a choosers) (a * slots + (entry k - 1)) (choosers * slots + k)

  unfoldable pub to_of : ℕ → ℕ → ℕ
  to_of a k = cond (ltb a choosers) (choosers * slots + k) (choosers * slots + choices + (entry k - 1))

  unfoldable pub cap_of : ℕ → ℕ → ℕ
  cap_of a k = cond (ltb a choosers) 1 (most k - least k)

  module _ (a b : ℕ) (p : Present a b) where
    inside : entry b - 1 < slots
    inside = let d = p.placed in omega (arith, fits b p.item, pos_of (entry b) d)
      where
        pos_of : (n : ℕ) → n ≢ 0 → 1 ≤ n
        pos_of zero h = absurd (h refl)
        pos_of (suc n) h = omega arith

    slot_test : (s : ℕ) → eqb (entry b - 1) s ≡ eqb (entry b) (suc s)
    slot_test s = eqb_as (entry b - 1) s (eqb (entry b) (suc s))
        (λ e. eq-eqb (entry b) (suc s) (eq_cases (entry b) 0 (λ z t. absurd (p.placed z)) (λ z t. omega arith)))
        (λ e. omega (arith, eqb-true (entry b) (suc s) e))

    from_chooser : (c s : ℕ) → c < choosers → s < slots → eqb (from_of a b) (c * slots + s) ≡ (eqb a c && eqb (entry b) (suc s))
    unfolding from_of
    from_chooser c s hc h = rw (← slot_test s) (lt_cases a choosers
        (λ l t. rw t (eqb_as (a * slots + (entry b - 1)) (c * slots + s) (eqb a c && eqb (entry b - 1) s)
        (λ e. let r = grid_same slots a (entry b - 1) c s inside h e in and_join (eq-eqb a c r.0) (eq-eqb (entry b - 1) s r.1))
        (λ e. let r = pair_true a (entry b - 1) c s e in ap₂ (λ (x y : ℕ). x * slots + y) r.0 r.1)))
        (λ l t. rw (t, ne_eqb a c (λ (e : a ≡ c). omega arith)) (ne_eqb (choosers * slots + b) (c * slots + s) (λ e. omega (arith, grid_lt hc h)))))

    from_choice : (k : ℕ) → eqb (from_of a b) (choosers * slots + k) ≡ (eqb a choosers && eqb b k)
    unfolding from_of
    from_choice k = lt_cases a choosers
        (λ l t. rw (t, ne_eqb a choosers (λ (e : a ≡ choosers). omega arith)) (ne_eqb (a * slots + (entry b - 1)) (choosers * slots + k) (λ e. omega (arith, grid_lt l inside))))
        (λ l t. rw (t, eq-eqb a choosers (omega (arith, p.row))) (eqb_as (choosers * slots + b) (choosers * slots + k) (eqb b k) (λ e. eq-eqb b k (omega arith)) (λ e. ap (λ (z : ℕ). choosers * slots + z) (eqb-true b k e))))

    from_slot : (s : ℕ) → eqb (from_of a b) (choosers * slots + choices + s) ≡ false
    unfolding from_of
    from_slot s = lt_cases a choosers
        (λ l t. rw t (ne_eqb (a * slots + (entry b - 1)) (choosers * slots + choices + s) (λ e. omega (arith, grid_lt l inside))))
        (λ l t. rw t (ne_eqb (choosers * slots + b) (choosers * slots + choices + s) (λ e. omega (arith, p.item))))

    to_chooser : (c s : ℕ) → c < choosers → s < slots → eqb (to_of a b) (c * slots + s) ≡ false
    unfolding to_of
    to_chooser c s hc h = lt_cases a choosers
        (λ l t. rw t (ne_eqb (choosers * slots + b) (c * slots + s) (λ e. omega (arith, grid_lt hc h))))
        (λ l t. rw t (ne_eqb (choosers * slots + choices + (entry b - 1)) (c * slots + s) (λ e. omega (arith, grid_lt hc h))))

    to_choice : (k : ℕ) → k < choices → eqb (to_of a b) (choosers * slots + k) ≡ (ltb a choosers && eqb b k)
    unfolding to_of
    to_choice k hk = lt_cases a choosers
        (λ l t. rw t (eqb_as (choosers * slots + b) (choosers * slots + k) (eqb b k) (λ e. eq-eqb b k (omega arith)) (λ e. ap (λ (z : ℕ). choosers * slots + z) (eqb-true b k e))))
        (λ l t. rw t (ne_eqb (choosers * slots + choices + (entry b - 1)) (choosers * slots + k) (λ e. omega arith)))

    to_slot : (s : ℕ) → eqb (to_of a b) (choosers * slots + choices + s) ≡ (eqb a choosers && eqb (entry b) (suc s))
    unfolding to_of
    to_slot s = rw (← slot_test s) (lt_cases a choosers
        (λ l t. rw (t, ne_eqb a choosers (λ (e : a ≡ choosers). omega arith)) (ne_eqb (choosers * slots + b) (choosers * slots + choices + s) (λ e. omega (arith, p.item))))
        (λ l t. rw (t, eq-eqb a choosers (omega (arith, p.row))) (eqb_as (choosers * slots + choices + (entry b - 1)) (choosers * slots + choices + s) (eqb (entry b - 1) s)
        (λ e. eq-eqb (entry b - 1) s (omega arith)) (λ e. ap (λ (z : ℕ). choosers * slots + choices + z) (eqb-true (entry b - 1) s e)))))

-- the values on the edges that meet node p
abbrev pub meets : ℕ → (ℕ → ℕ) → (ℕ → ℕ) → ℕ → ℕ
meets n ends v p = sum_to n (λ i. gate (eqb (ends i) p) (v i))

module _ (f : Frame) where
  open f use {choosers, slots, choices, entry, least, most, allowed, fits}

  -- the least seats of the choices of a slot
  abbrev pub covered_of : ℕ → ℕ
  covered_of s = sum_to choices (λ k. gate (eqb (entry k) (suc s)) (least k))

  -- n edges, with the nodes at their ends and their bounds, are those that there are
  pub record Edges (n : ℕ) (row item from to cap : ℕ → ℕ) : Type 0 where
    pub pairs : Pairs n row item (present f)
    pub from_is : (i : ℕ) → i < n → from i ≡ from_of f (row i) (item i)
    pub to_is : (i : ℕ) → i < n → to i ≡ to_of f (row i) (item i)
    pub cap_is : (i : ℕ) → i < n → cap i ≡ cap_of f (row i) (item i)

  -- 17 for the three kinds of nodes: what flows out, and what flows in
  pub record ByKind (out inn : ℕ → ℕ) : Type 0 where
    pub chooser : (c s : ℕ) → c < choosers → s < slots → out (c * slots + s) ≡ inn (c * slots + s) + 1
    pub choice : (k : ℕ) → k < choices → entry k ≢ 0 → out (choosers * slots + k) + least k ≡ inn (choosers * slots + k)
    pub spare : (k : ℕ) → k < choices → entry k ≡ 0 → out (choosers * slots + k) ≡ inn (choosers * slots + k)
    pub room : (s : ℕ) → s < slots → out (choosers * slots + choices + s) + choosers ≡ inn (choosers * slots + choices + s) + covered_of s

  -- 14 and 17 of values along the edges
  pub record Accepted (n : ℕ) (from to cap v : ℕ → ℕ) : Type 0 where
    pub within : (i : ℕ) → i < n → v i ≤ cap i
    pub kinds : ByKind (meets n from v) (meets n to v)

  -- the same of a table of values by row and choice
  pub record Flow (X : ℕ → ℕ → ℕ) : Type 0 where
    pub off : (a k : ℕ) → present f a k ≡ false → X a k ≡ 0
    pub within : (a k : ℕ) → X a k ≤ cap_of f a k
    pub chooser : (c s : ℕ) → c < choosers → s < slots → sum_to choices (λ k. gate (eqb (entry k) (suc s)) (X c k)) ≡ 1
    pub choice : (k : ℕ) → k < choices → entry k ≢ 0 → X choosers k + least k ≡ sum_to choosers (λ c. X c k)
    pub room : (s : ℕ) → s < slots → choosers ≡ sum_to choices (λ k. gate (eqb (entry k) (suc s)) (X choosers k)) + covered_of s

  module _ {n : ℕ} {row item from to cap : ℕ → ℕ} (es : Edges n row item from to cap) (v : ℕ → ℕ) where
    abbrev at : ℕ → ℕ → ℕ
    at = value n row item v

    -- what meets a node, by row and choice
    node_sum : (ends : ℕ → ℕ) (g : ℕ → ℕ → ℕ) → ((i : ℕ) → i < n → ends i ≡ g (row i) (item i)) → (p : ℕ) (t : ℕ → ℕ → Bool) → ((a b : ℕ) → Present f a b → eqb (g a b) p ≡ t a b)
        → meets n ends v p ≡ sum_to (suc choosers) (λ a. sum_to choices (λ b. gate (t a b) (at a b)))
    node_sum ends g is p t same =
        sum_ext n (λ i. gate (eqb (ends i) p) (v i)) (λ i. gate (eqb (g (row i) (item i)) p) (v i)) (λ i l. ap (λ (z : ℕ). gate (eqb z p) (v i)) (is i l))
        ∙ value_sum es.pairs (suc choosers) choices (λ a b e. let r = present_true f a b e in (omega (arith, r.row), r.item)) v (λ a b. eqb (g a b) p)
        ∙ sum_ext2 (suc choosers) choices (λ a b. gate (eqb (g a b) p) (at a b)) (λ a b. gate (t a b) (at a b)) (λ a b la lb.
        gate_alike (present f a b) (eqb (g a b) p) (t a b) (at a b)
        (λ e. same a b (present_true f a b e))
        (λ e. value_off es.pairs v a b e))

    nothing : (ends : ℕ → ℕ) (g : ℕ → ℕ → ℕ) → ((i : ℕ) → i < n → ends i ≡ g (row i) (item i)) → (p : ℕ) → ((a b : ℕ) → Present f a b → eqb (g a b) p ≡ false) → meets n ends v p ≡ 0
    nothing ends g is p e = node_sum ends g is p (λ a b. false) e ∙ sum_zeros (suc choosers) (λ a. sum_to choices (λ b. 0)) (λ a l. sum_zeros choices (λ b. 0) (λ b k. refl))

    pub out_chooser : (c s : ℕ) → c < choosers → s < slots → meets n from v (c * slots + s) ≡ sum_to choices (λ k. gate (eqb (entry k) (suc s)) (at c k))
    out_chooser c s hc hs = node_sum from (from_of f) es.from_is (c * slots + s) (λ a b. eqb a c && eqb (entry b) (suc s)) (λ a b h. from_chooser f a b h c s hc hs)
        ∙ row_sum (suc choosers) choices at c (λ b. eqb (entry b) (suc s)) (omega arith)

    pub in_chooser : (c s : ℕ) → c < choosers → s < slots → meets n to v (c * slots + s) ≡ 0
    in_chooser c s hc hs = nothing to (to_of f) es.to_is (c * slots + s) (λ a b h. to_chooser f a b h c s hc hs)

    pub out_choice : (k : ℕ) → k < choices → meets n from v (choosers * slots + k) ≡ at choosers k
    out_choice k hk = node_sum from (from_of f) es.from_is (choosers * slots + k) (λ a b. eqb a choosers && eqb b k) (λ a b h. from_choice f a b h k)
        ∙ row_sum (suc choosers) choices at choosers (λ b. eqb b k) (omega arith) ∙ sum_only choices (λ b. at choosers b) k hk

    pub in_choice_lem : (k : ℕ) → k < choices → meets n to v (choosers * slots + k) ≡ sum_to choosers (λ c. at c k)
    in_choice_lem k hk = node_sum to (to_of f) es.to_is (choosers * slots + k) (λ a b. ltb a choosers && eqb b k) (λ a b h. to_choice f a b h k hk)
        ∙ col_sum (suc choosers) choices at (λ a. ltb a choosers) k hk ∙ sum_below (suc choosers) choosers (λ a. at a k) (omega arith)

    pub out_slot : (s : ℕ) → meets n from v (choosers * slots + choices + s) ≡ 0
    out_slot s = nothing from (from_of f) es.from_is (choosers * slots + choices + s) (λ a b h. from_slot f a b h s)

    pub in_slot_lem : (s : ℕ) → meets n to v (choosers * slots + choices + s) ≡ sum_to choices (λ k. gate (eqb (entry k) (suc s)) (at choosers k))
    in_slot_lem s = node_sum to (to_of f) es.to_is (choosers * slots + choices + s) (λ a b. eqb a choosers && eqb (entry b) (suc s)) (λ a b h. to_slot f a b h s)
        ∙ row_sum (suc choosers) choices at choosers (λ b. eqb (entry b) (suc s)) (omega arith)

    pub accepted_flow : Accepted n from to cap v → Flow at
    accepted_flow ok = record {
      off = λ a k e. value_off es.pairs v a k e;
      within = λ a k. bool_cases (present f a k)
          (λ e. let r : (i : ℕ) × (i < n) × (row i ≡ a) × (item i ≡ k) = pairs_has es.pairs a k e in
          let q : at (row r.0) (item r.0) ≤ cap_of f (row r.0) (item r.0) = omega (arith, value_at_lem es.pairs v r.0 r.1, ok.within r.0 r.1, es.cap_is r.0 r.1) in
          rw (r.2, r.3) at q)
          (λ e. omega (arith, value_off es.pairs v a k e));
      chooser = λ c s hc hs. omega (arith, ok.kinds.chooser c s hc hs, out_chooser c s hc hs, in_chooser c s hc hs);
      choice = λ k hk hs. omega (arith, ok.kinds.choice k hk hs, out_choice k hk, in_choice_lem k hk);
      room = λ s hs. omega (arith, ok.kinds.room s hs, in_slot_lem s, out_slot s);
    }

  module _ {n : ℕ} {row item from to cap : ℕ → ℕ} (es : Edges n row item from to cap) (X : ℕ → ℕ → ℕ) (ok : Flow X) where
    -- a table of values laid along the edges
    abbrev along : ℕ → ℕ
    along i = X (row i) (item i)

    pub along_value : (a b : ℕ) → value n row item along a b ≡ X a b
    along_value a b = value_of es.pairs X a b ∙ bool_cases (present f a b) (λ e. rw e) (λ e. rw e (sym (ok.off a b e)))

    absent : (a k : ℕ) → entry k ≡ 0 → X a k ≡ 0
    absent a k z = ok.off a k (bool_cases (present f a k) (λ e. absurd ((present_true f a k e).placed z)) (λ e. e))

    gated : (a s : ℕ) → sum_to choices (λ k. gate (eqb (entry k) (suc s)) (value n row item along a k)) ≡ sum_to choices (λ k. gate (eqb (entry k) (suc s)) (X a k))
    gated a s = sum_ext choices (λ k. gate (eqb (entry k) (suc s)) (value n row item along a k)) (λ k. gate (eqb (entry k) (suc s)) (X a k)) (λ k l. ap (λ (z : ℕ). gate (eqb (entry k) (suc s)) z) (along_value a k))

    seated : (k : ℕ) → sum_to choosers (λ c. value n row item along c k) ≡ sum_to choosers (λ c. X c k)
    seated k = sum_ext choosers (λ c. value n row item along c k) (λ c. X c k) (λ c l. along_value c k)

    pub flow_accepted : Accepted n from to cap along
    flow_accepted = record {
      within = λ i l. omega (arith, ok.within (row i) (item i), es.cap_is i l);
      kinds = record {
        chooser = λ c s hc hs. omega (arith, out_chooser es along c s hc hs, in_chooser es along c s hc hs, ok.chooser c s hc hs, gated c s);
        choice = λ k hk hs. omega (arith, ok.choice k hk hs, out_choice es along k hk, in_choice_lem es along k hk, along_value choosers k, seated k);
        spare = λ k hk hs. omega (arith, out_choice es along k hk, in_choice_lem es along k hk, along_value choosers k, absent choosers k hs, seated k, sum_zeros choosers (λ c. X c k) (λ c l. absent c k hs));
        room = λ s hs. omega (arith, ok.room s hs, in_slot_lem es along s, out_slot es along s, gated choosers s);
      };
    }
