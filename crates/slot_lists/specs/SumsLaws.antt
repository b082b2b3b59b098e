-- Sums per slot, as the code makes them. Assumes nothing.
use Rattle.std.specs.Prelude.{ℕ, zero, suc, ◌+◌, ◌-◌, ◌*◌, ◌<◌, ◌≤◌, ◌≡◌, refl, Bool, cond, List, ◌≢◌, eqb, length, get_or, set, replicate}
use Rattle.std.proofs.Common.{sym, ap, ◌∙◌, arith, length-set, ext_get_or, get_or-set_same, get_or-set_other, eq-eqb, ne_eqb}
use Rattle.std.proofs.lemmas.List.{get_or-replicate}
use Rattle.counting.specs.Calls.{TakesBelow, AgreesBelow}
use Rattle.counting.specs.Fold.{gate, table_to}
use Rattle.counting.specs.FoldLaws.{fold_ext, fold_none, fold_more}
use Rattle.counting.specs.Lists.{length_table, table_at}
use Rattle.counting.specs.Sums.{sum_at_le, sum_change, sum_most, sum_zeros}
use Rattle.counting.specs.Tests.{eq_cases, bool_cases}
use Rattle.scheduling.specs.Schedule.{of_entry, entry_at}
use Rattle.slot_lists.specs.Sums.{in_slot, weight_at, weighed, one, nowhere, no_sums}
use Rattle.slot_lists.specs.declared.SlotSums.{SlotSums}

-- a weight joins the sum of the slot that an entry names, or leaves it
abbrev pub added : ℕ → ℕ → List ℕ → List ℕ
added e w a = of_entry e a (λ s. set a s (get_or a s 0 + w))

abbrev pub subtracted : ℕ → ℕ → List ℕ → List ℕ
subtracted e w a = of_entry e a (λ s. set a s (get_or a s 0 - w))

-- what an addition asks
pub record Adds (e w : ℕ) (a : List ℕ) : Type 0 where
  pub small : e ≤ 8
  pub fits : e ≢ 0 → get_or a (e - 1) 0 + w < 4294967296

-- what summing asks: entries of 8 slots at most, weights of 1,000 at most
pub record Weighs (entries weights : List ℕ) (n : ℕ) : Type 0 where
  pub count : n ≤ 32
  pub small : (k : ℕ) → k < n → entry_at entries k ≤ 8
  pub light : (k : ℕ) → k < n → entry_at weights k ≤ 1000

-- .. of the schedule, and of a weight that calls give
pub record Slotted (entries : List ℕ) (n : ℕ) : Type 0 where
  pub count : n ≤ 32
  pub small : (k : ℕ) → k < n → entry_at entries k ≤ 8

pub record Light (takes : ℕ → Type 0) (gives : ℕ → ℕ → Type 0) (n : ℕ) : Type 0 where
  pub may : TakesBelow takes n
  pub light : (k : ℕ) → k < n → (w : ℕ) → gives k w → w ≤ 1000

-- an array of 8 holds the sums
pub record Sums (w f : ℕ → ℕ) (n : ℕ) (a : List ℕ) : Type 0 where
  pub long : length a ≡ 8
  pub at : (s : ℕ) → s < 8 → get_or a s 0 ≡ weighed w f n s

-- the lengths of a schedule's lists, and its covered counts
pub record AreSums (w f : ℕ → ℕ) (n : ℕ) (s : SlotSums) : Type 0 where
  pub lens : Sums one f n s.lens
  pub covered : Sums w f n s.covered

-- a choice of weight w leaves the slot that an entry names, or joins it
abbrev pub less : ℕ → ℕ → SlotSums → SlotSums
less e w s = record { lens = subtracted e 1 s.lens; covered = subtracted e w s.covered }

abbrev pub more : ℕ → ℕ → SlotSums → SlotSums
more e w s = record { lens = added e 1 s.lens; covered = added e w s.covered }

-- ---- laws

weight_le : (w f : ℕ → ℕ) (s k b : ℕ) → w k ≤ b → weight_at w f s k ≤ b
weight_le w f s k b h = bool_cases (in_slot f s k) (λ e. rw e h) (λ e. rw e (omega arith))

-- n weights of at most b each
pub weighed_most : (w f : ℕ → ℕ) (n s b : ℕ) → ((k : ℕ) → k < n → w k ≤ b) → weighed w f n s ≤ n * b
weighed_most w f n s b h = sum_most n b (weight_at w f s) (λ k l. weight_le w f s k b (h k l))

-- a choice's weight is within its slot's sum
pub weighed_holds : (w f : ℕ → ℕ) (n s k : ℕ) → k < n → f k ≡ suc s → w k ≤ weighed w f n s
weighed_holds w f n s k l e = omega (arith, sum_at_le n (weight_at w f s) k l, ap (λ (b : Bool). gate b (w k)) (eq-eqb (f k) (suc s) e))

pub weighed_ext : (w f g : ℕ → ℕ) (n s : ℕ) → ((k : ℕ) → k < n → f k ≡ g k) → weighed w f n s ≡ weighed w g n s
weighed_ext w f g n s h = fold_ext ◌+◌ 0 n (weight_at w f s) (weight_at w g s) (λ k l. ap (λ (e : ℕ). gate (eqb e (suc s)) (w k)) (h k l))

pub weighed_nowhere : (w : ℕ → ℕ) (n s : ℕ) → weighed w nowhere n s ≡ 0
weighed_nowhere w n s = sum_zeros n (weight_at w nowhere s) (λ k l. ap (λ (b : Bool). gate b (w k)) (ne_eqb 0 (suc s) (λ e. omega arith)))

-- entry k of a schedule replaced
abbrev pub put : (ℕ → ℕ) → ℕ → ℕ → ℕ → ℕ
put f k e j = cond (eqb j k) e (f j)

pub put_here : (f : ℕ → ℕ) (k e : ℕ) → put f k e k ≡ e
put_here f k e = rw (eq-eqb k k refl)

pub put_there : (f : ℕ → ℕ) (k e j : ℕ) → j ≢ k → put f k e j ≡ f j
put_there f k e j d = rw (ne_eqb j k d)

pub weighed_put : (w f : ℕ → ℕ) (n s k e : ℕ) → k < n → weighed w (put f k e) n s + weight_at w f s k ≡ weighed w f n s + gate (eqb e (suc s)) (w k)
weighed_put w f n s k e l =
    sum_change n (weight_at w (put f k e) s) (weight_at w f s) k l (λ j b d. ap (λ (x : ℕ). gate (eqb x (suc s)) (w j)) (put_there f k e j d))
    ∙ ap (λ (x : ℕ). weighed w f n s + gate (eqb x (suc s)) (w k)) (put_here f k e)

pub sums_ext : {w f g : ℕ → ℕ} {n : ℕ} {a : List ℕ} → ((k : ℕ) → k < n → f k ≡ g k) → Sums w f n a → Sums w g n a
sums_ext {w = w} {f = f} {g = g} {n = n} h p = record { long = p.long; at = λ s l. p.at s l ∙ weighed_ext w f g n s h }

pub both_ext : {w f g : ℕ → ℕ} {n : ℕ} {s : SlotSums} → ((k : ℕ) → k < n → f k ≡ g k) → AreSums w f n s → AreSums w g n s
both_ext h p = record { lens = sums_ext h p.lens; covered = sums_ext h p.covered }

-- the array is the table of the sums
pub sums_table : (w f : ℕ → ℕ) (n : ℕ) (a : List ℕ) → Sums w f n a → a ≡ table_to 8 (weighed w f n)
sums_table w f n a p = ext_get_or 0 a (table_to 8 (weighed w f n)) (p.long ∙ sym (length_table 8 (weighed w f n)))
    (λ s l. let h : s < 8 = omega (arith, p.long) in p.at s h ∙ sym (table_at 8 (weighed w f n) 0 s h))

module _ {w f : ℕ → ℕ} {n : ℕ} {a : List ℕ} (p : Sums w f n a) (k : ℕ) (l : k < n) where
  -- choice k, which entry e puts into a slot, leaves it
  pub sums_left : (e : ℕ) → f k ≡ e → e ≤ 8 → Sums w (put f k 0) n (subtracted e (w k) a)
  sums_left zero q b = record { long = p.long; at = λ s h. p.at s h ∙ sym (weighed_ext w (put f k 0) f n s (λ j i. eq_cases j k (λ x t. rw (t, x) (sym q)) (λ x t. rw t))) }
  sums_left (suc t) q b = record {
    long = length-set a t (get_or a t 0 - w k) ∙ p.long;
    at = λ s h. eq_cases s t
        (λ x y. rw x (get_or-set_same a t (get_or a t 0 - w k) 0 (omega (arith, p.long)) ∙ here))
        (λ x y. get_or-set_other a t s (get_or a t 0 - w k) 0 x ∙ p.at s h ∙ there s x);
  }
    where
      none : (s : ℕ) → gate (eqb 0 (suc s)) (w k) ≡ 0
      none s = ap (λ (z : Bool). gate z (w k)) (ne_eqb 0 (suc s) (λ z. omega arith))

      here : get_or a t 0 - w k ≡ weighed w (put f k 0) n t
      here = omega (arith, p.at t (omega arith), weighed_put w f n t k 0 l, none t, ap (λ (z : Bool). gate z (w k)) (eq-eqb (f k) (suc t) q))

      there : (s : ℕ) → s ≢ t → weighed w f n s ≡ weighed w (put f k 0) n s
      there s x = omega (arith, weighed_put w f n s k 0 l, none s, ap (λ (z : Bool). gate z (w k)) (ne_eqb (f k) (suc s) (λ z. x (omega arith))))

  -- choice k, which has no slot, joins the one that entry e names
  pub sums_joined : (e : ℕ) → f k ≡ 0 → e ≤ 8 → Sums w (put f k e) n (added e (w k) a)
  sums_joined zero q b = record { long = p.long; at = λ s h. p.at s h ∙ sym (weighed_ext w (put f k 0) f n s (λ j i. eq_cases j k (λ x t. rw (t, x) (sym q)) (λ x t. rw t))) }
  sums_joined (suc t) q b = record {
    long = length-set a t (get_or a t 0 + w k) ∙ p.long;
    at = λ s h. eq_cases s t
        (λ x y. rw x (get_or-set_same a t (get_or a t 0 + w k) 0 (omega (arith, p.long)) ∙ here))
        (λ x y. get_or-set_other a t s (get_or a t 0 + w k) 0 x ∙ p.at s h ∙ there s x);
  }
    where
      none : (s : ℕ) → weight_at w f s k ≡ 0
      none s = ap (λ (z : Bool). gate z (w k)) (ne_eqb (f k) (suc s) (λ z. omega arith))

      here : get_or a t 0 + w k ≡ weighed w (put f k (suc t)) n t
      here = omega (arith, p.at t (omega arith), weighed_put w f n t k (suc t) l, none t, ap (λ (z : Bool). gate z (w k)) (eq-eqb (suc t) (suc t) refl))

      there : (s : ℕ) → s ≢ t → weighed w f n s ≡ weighed w (put f k (suc t)) n s
      there s x = omega (arith, weighed_put w f n s k (suc t) l, none s, ap (λ (z : Bool). gate z (w k)) (ne_eqb (suc t) (suc s) (λ z. x (omega arith))))

-- a choice more is summed
pub sums_next : {w f : ℕ → ℕ} {i : ℕ} {a : List ℕ} → Sums w f i a → f i ≤ 8 → Sums w f (i + 1) (added (f i) (w i) a)
sums_next {w = w} {f = f} {i = i} {a = a} p h = go (f i) refl h
  where
    skip : (s : ℕ) → f i ≢ suc s → weighed w f i s ≡ weighed w f (i + 1) s
    skip s d = omega (arith, fold_more ◌+◌ 0 i (weight_at w f s), ap (λ (z : Bool). gate z (w i)) (ne_eqb (f i) (suc s) d))

    go : (e : ℕ) → f i ≡ e → e ≤ 8 → Sums w f (i + 1) (added e (w i) a)
    go zero q b = record { long = p.long; at = λ s l. p.at s l ∙ skip s (λ z. omega arith) }
    go (suc t) q b = record {
      long = length-set a t (get_or a t 0 + w i) ∙ p.long;
      at = λ s l. eq_cases s t
          (λ x y. rw x (get_or-set_same a t (get_or a t 0 + w i) 0 (omega (arith, p.long))
          ∙ omega (arith, p.at t (omega arith), fold_more ◌+◌ 0 i (weight_at w f t), ap (λ (z : Bool). gate z (w i)) (eq-eqb (f i) (suc t) q))))
          (λ x y. get_or-set_other a t s (get_or a t 0 + w i) 0 x ∙ p.at s l ∙ skip s (λ z. x (omega arith)));
    }

-- a slot's sum is within bounds
pub sums_most : {w f : ℕ → ℕ} {n : ℕ} {a : List ℕ} → Sums w f n a → (b : ℕ) → ((k : ℕ) → k < n → w k ≤ b) → (s : ℕ) → s < 8 → get_or a s 0 ≤ n * b
sums_most {w = w} {f = f} {n = n} p b h s l = omega (arith, p.at s l, weighed_most w f n s b h)

-- zeros are the sums of no choice, and of the schedule in which no choice has a slot
zeros_at : {a : List ℕ} → a ≡ replicate 8 0 → (s : ℕ) → s < 8 → get_or a s 0 ≡ 0
zeros_at e s l = rw e (get_or-replicate {A = ℕ} 8 s 0 0 l)

pub sums_zeros : (w f : ℕ → ℕ) {a : List ℕ} → a ≡ replicate 8 0 → Sums w f 0 a
sums_zeros w f e = record { long = ap length e; at = λ s l. zeros_at e s l ∙ sym (fold_none ◌+◌ 0 (weight_at w f s)) }

sums_nowhere : (w : ℕ → ℕ) (n : ℕ) → Sums w nowhere n (replicate 8 0)
sums_nowhere w n = record { long = refl; at = λ s l. zeros_at refl s l ∙ sym (weighed_nowhere w n s) }

pub nowhere_summed : (w : ℕ → ℕ) (n : ℕ) → AreSums w nowhere n no_sums
nowhere_summed w n = record { lens = sums_nowhere one n; covered = sums_nowhere w n }

-- the sums of a weight that calls give, once the choices below i are summed
pub record Summed (gives : ℕ → ℕ → Type 0) (n : ℕ) (entries : List ℕ) (i : ℕ) (a : List ℕ) : Type 0 where
  pub long : length a ≡ 8
  pub most : (s : ℕ) → s < 8 → get_or a s 0 ≤ i * 1000
  pub sums : (w : ℕ → ℕ) → AgreesBelow gives n w → Sums w (entry_at entries) i a

pub summed_none : (gives : ℕ → ℕ → Type 0) (n : ℕ) (entries : List ℕ) → Summed gives n entries 0 (replicate 8 0)
summed_none gives n entries = record { long = refl; most = λ s l. omega (arith, zeros_at refl s l); sums = λ w t. sums_zeros w (entry_at entries) refl }

added_length : (e w : ℕ) (a : List ℕ) → length (added e w a) ≡ length a
added_length zero w a = refl
added_length (suc t) w a = length-set a t (get_or a t 0 + w)

-- a sum grows by the weight at most
added_most : (e w b : ℕ) (a : List ℕ) → e ≤ length a → ((s : ℕ) → s < length a → get_or a s 0 ≤ b) → (s : ℕ) → s < length a → get_or (added e w a) s 0 ≤ b + w
added_most zero w b a q h s l = omega (arith, h s l)
added_most (suc t) w b a q h s l = eq_cases s t
    (λ x y. rw x (rw (get_or-set_same a t (get_or a t 0 + w) 0 (omega arith)) (omega (arith, h t (omega arith)))))
    (λ x y. rw (get_or-set_other a t s (get_or a t 0 + w) 0 x) (omega (arith, h s l)))

-- a choice more
module _ {takes : ℕ → Type 0} {gives : ℕ → ℕ → Type 0} {entries : List ℕ} {n i w : ℕ} {a : List ℕ}
    (h : Slotted entries n) (g : Light takes gives n) (l : i < n) (p : Summed gives n entries i a) (q : gives i w) where
  pub summed_more : {a' : List ℕ} → a' ≡ added (entry_at entries i) w a → Summed gives n entries (i + 1) a'
  summed_more e = rw e (record {
    long = added_length (entry_at entries i) w a ∙ p.long;
    most = λ s b. omega (arith, g.light i l w q, added_most (entry_at entries i) w (i * 1000) a (omega (arith, h.small i l, p.long)) (λ t c. p.most t (omega (arith, p.long))) s (omega (arith, p.long)));
    sums = λ v t. let f = sums_next (p.sums v t) (h.small i l) in rw (t i l w q) f;
  })
