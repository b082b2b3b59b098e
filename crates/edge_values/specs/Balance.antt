-- Check 17 by one walk over the edges: what flows out of each node, less what flows in. Definitions and their laws.
use Rattle.std.specs.Prelude.{ℕ, ◌+◌, ◌*◌, ◌<◌, ◌≤◌, ◌≡◌, refl, false, not, ◌||◌, List, ◌≢◌, ℤ, pos, neg_ℤ, ◌-ℤ◌, length, get_or, set, replicate}
use Rattle.std.proofs.Common.{sym, ap, subst, ◌∙◌, arith, length-set, get_or-set_same, get_or-set_other, eq-eqb, ne_eqb, w32, to_z, of_z, SFits}
use Rattle.std.proofs.Math.IntN.{◌+ℤ◌}
use Rattle.std.proofs.lemmas.Int.{ints}
use Rattle.std.proofs.lemmas.List.{length-replicate, get_or-replicate}
use Rattle.std.specs.Int.Signed.{◌≤ℤ◌}
use Rattle.counting.specs.Fold.{any_to}
use Rattle.counting.specs.FoldLaws.{fold_none, fold_more, fold_ext}
use Rattle.counting.specs.Ints.{eq_z}
use Rattle.counting.specs.Tests.{eq_cases}
use Rattle.edge_values.specs.Values.{value_at, flow_at, flow, unbalanced_at, some_unbalanced}

-- the walk over the edges asks: the tables hold them, a value is up to 1,000, and a node is one of 552
pub record Walking (edges : ℕ) (from to : List ℕ) (values : List ℤ) : Type 0 where
  pub few : edges ≤ 2080
  pub from_long : edges ≤ length from
  pub to_long : edges ≤ length to
  pub values_long : edges ≤ length values
  pub from_node : (e : ℕ) → e < edges → get_or from e 0 < 552
  pub to_node : (e : ℕ) → e < edges → get_or to e 0 < 552
  pub light : (e : ℕ) → e < edges → (pos 0 ≤ℤ value_at values e) × (value_at values e ≤ℤ pos 1000)

-- x is what flows out of the node by the first m edges, less what flows in by the first n
pub record NetFlow (m n : ℕ) (from to : List ℕ) (vs : List ℤ) (node : ℕ) (x : ℤ) : Type 0 where
  pub is : x ≡ (flow m from vs node -ℤ flow n to vs node)
  pub low : neg_ℤ (pos (1000 * n)) ≤ℤ x
  pub high : x ≤ℤ pos (1000 * m)

-- an array holds this of each node
pub record NetFlows (m n : ℕ) (from to : List ℕ) (vs net : List ℤ) : Type 0 where
  pub long : length net ≡ 552
  pub at : (v : ℕ) → v < 552 → NetFlow m n from to vs v (get_or net v (pos 0))

-- ---- laws

-- no edge yet
pub flows_none : (from to : List ℕ) (vs net : List ℤ) → net ≡ replicate 552 (pos 0) → NetFlows 0 0 from to vs net
unfolding flow
flows_none from to vs net e = record {
  long = ap length e ∙ length-replicate {A = ℤ} 552 (pos 0);
  at = λ v h.
      let z : get_or net v (pos 0) ≡ pos 0 = ap (λ l. get_or l v (pos 0)) e ∙ get_or-replicate {A = ℤ} 552 v (pos 0) (pos 0) h in
      record {
        is = z ∙ rw (fold_none ◌+ℤ◌ (pos 0) (flow_at from vs v), fold_none ◌+ℤ◌ (pos 0) (flow_at to vs v));
        low = rw z (omega (arith, ints));
        high = rw z (omega (arith, ints));
      };
}

-- what an edge adds to its node, and to no other
flow_here : (k : ℕ) (ends : List ℕ) (vs : List ℤ) → flow (k + 1) ends vs (get_or ends k 0) ≡ flow k ends vs (get_or ends k 0) +ℤ value_at vs k
unfolding flow
flow_here k ends vs = rw (fold_more ◌+ℤ◌ (pos 0) k (flow_at ends vs (get_or ends k 0)), eq-eqb (get_or ends k 0) (get_or ends k 0) refl)

flow_elsewhere : (k : ℕ) (ends : List ℕ) (vs : List ℤ) (v : ℕ) → get_or ends k 0 ≢ v → flow (k + 1) ends vs v ≡ flow k ends vs v
unfolding flow
flow_elsewhere k ends vs v d = rw (fold_more ◌+ℤ◌ (pos 0) k (flow_at ends vs v), ne_eqb (get_or ends k 0) v d) (omega (arith, ints))

module _ {m n : ℕ} {from to : List ℕ} {vs net : List ℤ} (p : NetFlows m n from to vs net) (x : ℤ) where
  -- one edge's value flows out of its node
  flows_out : get_or from m 0 < 552 → (pos 0 ≤ℤ value_at vs m) × (value_at vs m ≤ℤ pos 1000) → x ≡ get_or net (get_or from m 0) (pos 0) +ℤ value_at vs m
      → NetFlows (m + 1) n from to vs (set net (get_or from m 0) x)
  flows_out h l e =
      let i = get_or from m 0 in
      record {
        long = length-set net i x ∙ p.long;
        at = λ v g. eq_cases i v
            (λ q t. subst (λ w. NetFlow (m + 1) n from to vs w (get_or (set net i x) w (pos 0))) q
            (rw (get_or-set_same net i x (pos 0) (omega (arith, p.long))) (let f = p.at i h in record { is = rw (flow_here m from vs) (omega (arith, ints, f.is)); low = omega (arith, ints, f.low); high = omega (arith, ints, f.high) })))
            (λ q t. rw (get_or-set_other net i v x (pos 0) (λ r. q (sym r))) (let f = p.at v g in record { is = rw (flow_elsewhere m from vs v q) f.is; low = f.low; high = omega (arith, ints, f.high) }));
      }

  -- .. and into another
  flows_in : get_or to n 0 < 552 → (pos 0 ≤ℤ value_at vs n) × (value_at vs n ≤ℤ pos 1000) → x ≡ get_or net (get_or to n 0) (pos 0) -ℤ value_at vs n
      → NetFlows m (n + 1) from to vs (set net (get_or to n 0) x)
  flows_in h l e =
      let i = get_or to n 0 in
      record {
        long = length-set net i x ∙ p.long;
        at = λ v g. eq_cases i v
            (λ q t. subst (λ w. NetFlow m (n + 1) from to vs w (get_or (set net i x) w (pos 0))) q
            (rw (get_or-set_same net i x (pos 0) (omega (arith, p.long))) (let f = p.at i h in record { is = rw (flow_here n to vs) (omega (arith, ints, f.is)); low = omega (arith, ints, f.low); high = omega (arith, ints, f.high) })))
            (λ q t. rw (get_or-set_other net i v x (pos 0) (λ r. q (sym r))) (let f = p.at v g in record { is = rw (flow_elsewhere n to vs v q) f.is; low = omega (arith, ints, f.low); high = f.high }));
      }

-- one step of the walk, as the code takes it
module _ {edges e : ℕ} {from to : List ℕ} {vs net : List ℤ} (w : Walking edges from to vs) (p : NetFlows e e from to vs net) (l : e < edges) where
  abbrev v : ℤ
  v = value_at vs e

  abbrev out : ℤ
  out = to_z w32 (of_z w32 (to_z w32 (of_z w32 (get_or net (get_or from e 0) (pos 0))) +ℤ to_z w32 (of_z w32 v)))

  half : NetFlows (e + 1) e from to vs (set net (get_or from e 0) out)
  half = let f = p.at _ (w.from_node e l) in flows_out p out (w.from_node e l) (w.light e l) (omega (arith, ints, w.few, f.low, f.high, (w.light e l).0, (w.light e l).1))

  abbrev there : ℤ
  there = get_or (set net (get_or from e 0) out) (get_or to e 0) (pos 0)

  pub in_fits : SFits w32 (to_z w32 (of_z w32 there) -ℤ to_z w32 (of_z w32 v))
  in_fits = let f = half.at _ (w.to_node e l) in omega (arith, ints, w.few, f.low, f.high, (w.light e l).0, (w.light e l).1)

  pub flows_more : NetFlows (e + 1) (e + 1) from to vs (set (set net (get_or from e 0) out) (get_or to e 0) (to_z w32 (of_z w32 (to_z w32 (of_z w32 there) -ℤ to_z w32 (of_z w32 v)))))
  flows_more = let f = half.at _ (w.to_node e l) in flows_in half _ (w.to_node e l) (w.light e l) (omega (arith, ints, w.few, f.low, f.high, (w.light e l).0, (w.light e l).1))

-- the sums balance where the flows do
pub balance_is : (nodes edges : ℕ) (from to : List ℕ) (supplies vs net : List ℤ) → nodes ≤ 552 → NetFlows edges edges from to vs net
    → any_to nodes (λ v. not (eq_z (get_or net v (pos 0)) (get_or supplies v (pos 0)))) ≡ some_unbalanced nodes edges from to supplies vs
unfolding some_unbalanced
balance_is nodes edges from to supplies vs net h p =
    fold_ext ◌||◌ false nodes (λ v. not (eq_z (get_or net v (pos 0)) (get_or supplies v (pos 0)))) (unbalanced_at edges from to supplies vs) (λ v l. rw (p.at v (omega arith)).is)
