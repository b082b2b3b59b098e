-- That the slot lists hold exactly the choices of a schedule, once each, and that the walk keeps it. Assumes nothing.
use Rattle.std.specs.Prelude.{ℕ, zero, suc, ◌+◌, ◌-◌, ◌*◌, ◌<◌, ◌≤◌, ◌≡◌, refl, Bool, false, ◌&&◌, ◌||◌, List, ◌≢◌, eqb, ltb, length, set}
use Rattle.std.proofs.Common.{sym, ◌∙◌, mul-suc, mul-le-mul_left, le_refl, add-one, arith, get_or-set_same, get_or-set_other}
use Rattle.std.proofs.Math.Path.{ap}
use Rattle.std.proofs.Math.Bool.{true, not, and-true, and-false, or-true, or-false}
use borrow.Author.Tests.{eq-eqb, ne_eqb, eqb-true, lt-ltb, le-ltb, not-false}
use Rattle.counting.specs.Fold.{gate, any_to, count_to}
use Rattle.counting.specs.FoldLaws.{fold_ext}
use Rattle.counting.specs.Holds.{times, is_of}
use Rattle.counting.specs.HoldsLaws.{Holds, holds_ext, holds_push, holds_remove, holds_in, holds_has, holds_all, holds_none}
use Rattle.counting.specs.Search.{first_to}
use Rattle.counting.specs.SearchLaws.{first_passes, first_found}
use Rattle.counting.specs.Sums.{sum_at_le, count_le, count_lt}
use Rattle.counting.specs.Tests.{bool_cases, eq_cases, lt_cases, never, none_each, each_none, one_passes}
use Rattle.slot_lists.specs.Lists.{listed, is_listed, place_of, left_by}
use Rattle.slot_lists.specs.Sums.{in_slot, weighed, one, nowhere}
use Rattle.slot_lists.specs.SumsLaws.{put, put_here, weighed_put, weighed_ext, weighed_nowhere}
use Rattle.slot_lists.specs.Walk.{midway, length_at, leaves, joins, visit, carried}
use Rattle.slot_lists.specs.WalkLaws.{midway_here, midway_more, midway_same, midway_first, midway_last, carried_none, carried_more, carried_length, leaves_length, joins_ext, joined_same}
use Rattle.slot_lists.specs.Held.{occurs, wrong_at, wrong_in, misheld}

-- choice k is one of n choices, and the schedule puts it into slot s
abbrev pub member : (ℕ → ℕ) → ℕ → ℕ → ℕ → Bool
member f n s k = ltb k n && in_slot f s k

-- each slot's list holds exactly the choices that the schedule puts there, once each
pub record Held (stride : ℕ) (f : ℕ → ℕ) (n slots : ℕ) (l : List ℕ) : Type 0 where
  pub at : (s : ℕ) → s < slots → Holds (weighed one f n s) (listed stride l s) (member f n s)

-- ---- laws

pub member_is : (f : ℕ → ℕ) (n s k : ℕ) → k < n → member f n s k ≡ in_slot f s k
member_is f n s k l = rw (lt-ltb k n l)

pub member_out : (f : ℕ → ℕ) (n s k : ℕ) → n ≤ k → member f n s k ≡ false
member_out f n s k l = rw (le-ltb k n l)

pub member_count_lem : (f : ℕ → ℕ) (n s : ℕ) → count_to n (member f n s) ≡ weighed one f n s
member_count_lem f n s = fold_ext ◌+◌ 0 n (λ k. gate (member f n s k) 1) (λ k. gate (in_slot f s k) 1) (λ k l. ap (λ (b : Bool). gate b 1) (member_is f n s k l))

module _ (stride : ℕ) (f : ℕ → ℕ) (n slots : ℕ) (l : List ℕ) where
  -- where no list is wrong, each holds what it should
  pub held : misheld stride f n slots l ≡ false → Held stride f n slots l
  unfolding misheld
  held e = record {
    at = λ s b. holds_all (weighed one f n s) n (listed stride l s) (member f n s) (member_count_lem f n s)
        (λ k c q. once s b k c q) (λ k c. member_out f n s k c);
  }
    where
      once : (s : ℕ) → s < slots → (k : ℕ) → k < n → member f n s k ≡ true → 1 ≤ occurs stride f n l s k
      once s b k c q =
          let r : occurs stride f n l s k ≡ gate (in_slot f s k) 1 = eqb-true (occurs stride f n l s k) (gate (in_slot f s k) 1) (not-false _ (none_each n (wrong_at stride f n l s) (none_each slots (wrong_in stride f n l) e s b) k c)) in
          omega (arith, ap (λ (t : Bool). gate t 1) (sym (member_is f n s k c) ∙ q))

  -- .. and the other way round
  pub not_misheld : Held stride f n slots l → misheld stride f n slots l ≡ false
  unfolding misheld
  not_misheld h = each_none slots (wrong_in stride f n l) (λ s b. each_none n (wrong_at stride f n l s) (λ k c.
      ap not (eq-eqb (occurs stride f n l s k) (gate (in_slot f s k) 1) ((h.at s b).once k ∙ ap (λ (t : Bool). gate t 1) (member_is f n s k c)))))

pub times_found : (m : ℕ) (x : ℕ → ℕ) (k : ℕ) → first_to m (is_of x k) < m → 1 ≤ times m x k
times_found m x k h = omega (arith, sum_at_le m (λ j. gate (is_of x k j) 1) (first_to m (is_of x k)) h, ap (λ (t : Bool). gate t 1) (first_passes m (is_of x k) h))

-- a set of choices is the members that its list holds
pub holds_any : {n : ℕ} {x : ℕ → ℕ} {mem : ℕ → Bool} → Holds n x mem → (k : ℕ) → any_to n (is_of x k) ≡ mem k
holds_any {n = n} {x = x} {mem = mem} h k = bool_cases (mem k)
    (λ e. let r = holds_has h k e in one_passes n (is_of x k) r.0 r.1 (eq-eqb (x r.0) k r.2) ∙ sym e)
    (λ e. each_none n (is_of x k) (λ j l. bool_cases (is_of x k j) (λ t. never (sym (holds_in h j l) ∙ ap mem (eqb-true (x j) k t) ∙ e)) (λ t. t)) ∙ sym e)

-- ---- the walk keeps it

-- two slots' parts have no byte in common
apart : (stride s t i j : ℕ) → s ≢ t → i < stride → j < stride → stride * s + i ≢ stride * t + j
apart stride s t i j d a b e = lt_cases s t
    (λ l z. omega (arith, mul-le-mul_left stride l, mul-suc stride s))
    (λ l z. let h : t < s = omega arith in omega (arith, mul-le-mul_left stride h, mul-suc stride t))

module _ {stride : ℕ} {f : ℕ → ℕ} {n slots : ℕ} {l : List ℕ} (room : n ≤ stride) (size : (s : ℕ) → s < slots → stride * s + stride ≤ length l)
    (h : Held stride f n slots l) (k : ℕ) (c : k < n) where
  few : (s : ℕ) → weighed one f n s ≤ n
  few s = count_le n (in_slot f s)

  -- a slot other than t, whose list alone is written, and of whose choices k alone leaves or joins
  other : (t i v e s : ℕ) → s < slots → s ≢ t → i < stride → f k ≢ suc s → e ≢ suc s → Holds (weighed one (put f k e) n s) (listed stride (set l (stride * t + i) v) s) (member (put f k e) n s)
  other t i v e s b d a p q =
      let m : weighed one (put f k e) n s ≡ weighed one f n s = omega (arith, weighed_put one f n s k e c, ap (λ (z : Bool). gate z 1) (ne_eqb (f k) (suc s) p), ap (λ (z : Bool). gate z 1) (ne_eqb e (suc s) q)) in
      rw m (holds_ext (h.at s b)
      (λ j x. sym (get_or-set_other l (stride * t + i) (stride * s + j) v 0 (apart stride s t j i d (omega (arith, few s)) a)))
      (λ j. ap (λ (z : Bool). ltb j n && z) (eq_cases j k
      (λ x y. rw y (rw x (ne_eqb (f k) (suc s) p ∙ sym (ne_eqb e (suc s) q)))) (λ x y. rw y))))

  -- choice k leaves the list of slot t
  module _ (t : ℕ) (b : t < slots) (e : f k ≡ suc t) where
    abbrev len : ℕ
    len = weighed one f n t

    abbrev place : ℕ
    place = place_of stride t len k l

    in_list : (j : ℕ) × (j < len) × (listed stride l t j ≡ k)
    in_list = holds_has (h.at t b) k (member_is f n t k c ∙ eq-eqb (f k) (suc t) e)

    place_in : place < len
    place_in = first_found len (is_listed stride l t k) in_list.0 in_list.1 (eq-eqb (listed stride l t in_list.0) k in_list.2)

    place_is : listed stride l t place ≡ k
    place_is = eqb-true (listed stride l t place) k (first_passes len (is_listed stride l t k) place_in)

    abbrev after : List ℕ
    after = set l (stride * t + place) (listed stride l t (len - 1))

    here : Holds (len - 1) (listed stride after t) (λ j. member f n t j && not (eqb j (listed stride l t place)))
    here = holds_remove (rw (← whole) at (h.at t b)) (listed stride after t) place (omega (arith, place_in))
        (get_or-set_same l (stride * t + place) (listed stride l t (len - 1)) 0 (omega (arith, size t b, place_in, few t)))
        (λ j x d. get_or-set_other l (stride * t + place) (stride * t + j) (listed stride l t (len - 1)) 0 (λ z. d (omega arith)))
      where
        whole : suc (len - 1) ≡ len
        whole = omega (arith, place_in)

    gone : (j : ℕ) → (member f n t j && not (eqb j (listed stride l t place))) ≡ member (put f k 0) n t j
    gone j = rw place_is (eq_cases j k
        (λ x y. rw (y, ne_eqb 0 (suc t) (λ z. omega arith)) (both (ltb j n) (in_slot f t j)))
        (λ x y. rw y (and-true (ltb j n && in_slot f t j))))
      where
        both : (p q : Bool) → (p && q && false) ≡ (p && false)
        both true true = refl
        both true false = refl
        both false q = refl

    left_is : left_by stride t len k l ≡ after
    unfolding left_by
    left_is = rw (lt-ltb place len place_in)

    held_left : Held stride (put f k 0) n slots (left_by stride t len k l)
    held_left = rw left_is (record {
      at = λ s q. eq_cases s t
          (λ x y. rw x (rw fewer (holds_ext here (λ j z. refl) gone)))
          (λ x y. other t place (listed stride l t (len - 1)) 0 s q x (omega (arith, place_in, few t)) (λ z. x (omega arith)) (λ z. omega arith));
    })
      where
        fewer : weighed one (put f k 0) n t ≡ len - 1
        fewer = omega (arith, weighed_put one f n t k 0 c, ap (λ (z : Bool). gate z 1) (eq-eqb (f k) (suc t) e), ap (λ (z : Bool). gate z 1) (ne_eqb 0 (suc t) (λ z. omega arith)))

  -- choice k, which has no slot, joins the list of slot t
  module _ (t : ℕ) (b : t < slots) (e : f k ≡ 0) where
    abbrev end : ℕ
    end = weighed one f n t

    out : in_slot f t k ≡ false
    out = ne_eqb (f k) (suc t) (λ z. omega arith)

    short : end < n
    short = count_lt n (in_slot f t) k c out

    abbrev then : List ℕ
    then = set l (stride * t + end) k

    last : listed stride then t end ≡ k
    last = get_or-set_same l (stride * t + end) k 0 (omega (arith, size t b, short))

    pushed : Holds (suc end) (listed stride then t) (λ j. member f n t j || eqb j (listed stride then t end))
    pushed = holds_push
        (holds_ext (h.at t b) (λ j x. sym (get_or-set_other l (stride * t + end) (stride * t + j) k 0 (λ z. omega arith))) (λ j. refl))
        (ap (member f n t) last ∙ member_is f n t k c ∙ out)

    come : (j : ℕ) → (member f n t j || eqb j (listed stride then t end)) ≡ member (put f k (suc t)) n t j
    come j = rw last (eq_cases j k
        (λ x y. rw (y, eq-eqb (suc t) (suc t) refl, lt-ltb j n (omega arith)) (or-true (in_slot f t j)))
        (λ x y. rw y (or-false (ltb j n && in_slot f t j))))

    held_joined : Held stride (put f k (suc t)) n slots then
    held_joined = record {
      at = λ s q. eq_cases s t
          (λ x y. rw x (rw more (holds_ext pushed (λ j z. refl) come)))
          (λ x y. other t end k (suc t) s q x (omega (arith, short)) (λ z. omega arith) (λ z. x (omega arith)));
    }
      where
        more : weighed one (put f k (suc t)) n t ≡ suc end
        more = omega (arith, weighed_put one f n t k (suc t) c, ap (λ (z : Bool). gate z 1) out, ap (λ (z : Bool). gate z 1) (eq-eqb (suc t) (suc t) refl))

held_ext : {stride : ℕ} {f g : ℕ → ℕ} {n slots : ℕ} {l : List ℕ} → ((k : ℕ) → k < n → f k ≡ g k) → Held stride f n slots l → Held stride g n slots l
held_ext {f = f} {g = g} {n = n} p h = record {
  at = λ s b. rw (sym (weighed_ext one f g n s p)) (holds_ext (h.at s b) (λ j x. refl)
      (λ j. lt_cases j n (λ x e. rw e (ap (λ (z : ℕ). eqb z (suc s)) (p j x))) (λ x e. rw e)));
}

-- an empty schedule is held by any buffer
pub held_nowhere : (stride n slots : ℕ) (l : List ℕ) → Held stride nowhere n slots l
held_nowhere stride n slots l = record {
  at = λ s b. rw (weighed_nowhere one n s) (holds_none (listed stride l s) (member nowhere n s)
      (λ k. rw (ne_eqb 0 (suc s) (λ z. omega arith)) (and-false (ltb k n))));
}

module _ {stride n slots : ℕ} (room : n ≤ stride) (old new : ℕ → ℕ) (fo : (k : ℕ) → k < n → old k ≤ slots) (fn : (k : ℕ) → k < n → new k ≤ slots) where
  module _ {l : List ℕ} (size : (s : ℕ) → s < slots → stride * s + stride ≤ length l) (k : ℕ) (c : k < n) where
    left_held : {f : ℕ → ℕ} → Held stride f n slots l → (e : ℕ) → f k ≡ e → e ≤ slots → Held stride (put f k 0) n slots (leaves stride e (weighed one f n) k l)
    left_held h zero q b = held_ext (λ j x. eq_cases j k (λ y z. rw (z, y) q) (λ y z. rw z)) h
    left_held h (suc t) q b = held_left room size h k c t (omega arith) q

    joined_held : {f : ℕ → ℕ} → Held stride f n slots l → (e : ℕ) → f k ≡ 0 → e ≤ slots → Held stride (put f k e) n slots (joins stride e (weighed one f n) k l)
    joined_held h zero q b = held_ext (λ j x. eq_cases j k (λ y z. rw (z, y) q) (λ y z. rw z)) h
    joined_held h (suc t) q b = held_joined room size h k c t (omega arith) q

  moved : {l : List ℕ} → ((s : ℕ) → s < slots → stride * s + stride ≤ length l) → (k : ℕ) → k < n → old k ≢ new k → Held stride (midway old new k) n slots l
      → Held stride (midway old new (k + 1)) n slots (joins stride (new k) (length_at old new n k) k (leaves stride (old k) (length_at old new n k) k l))
  moved {l = l} size k c d h =
      let a : Held stride (put (midway old new k) k 0) n slots (leaves stride (old k) (length_at old new n k) k l) = left_held size k c h (old k) (midway_here old new k) (fo k c) in
      let size' : (s : ℕ) → s < slots → stride * s + stride ≤ length (leaves stride (old k) (length_at old new n k) k l) = λ s b. rw (leaves_length stride (old k) (length_at old new n k) k l) (size s b) in
      held_ext (λ j x. midway_more old new k j)
      (rw (joins_ext stride (new k) (length_at old new n k) (weighed one (put (midway old new k) k 0) n) k (leaves stride (old k) (length_at old new n k) k l) (λ s e. sym (joined_same old new n k s c d e)))
      (joined_held size' k c a (new k) (put_here (midway old new k) k 0) (fn k c)))

  held_visit : {l : List ℕ} → ((s : ℕ) → s < slots → stride * s + stride ≤ length l) → (k : ℕ) → k < n → Held stride (midway old new k) n slots l → Held stride (midway old new (k + 1)) n slots (visit stride old new n l k)
  unfolding visit
  held_visit size k c h = eq_cases (old k) (new k)
      (λ e t. rw t (held_ext (λ j x. midway_same old new k j e) h))
      (λ e t. rw t (moved size k c e h))

  held_carried : (l : List ℕ) → ((s : ℕ) → s < slots → stride * s + stride ≤ length l) → Held stride old n slots l → (i : ℕ) → i ≤ n → Held stride (midway old new i) n slots (carried stride old new n l i)
  held_carried l size h zero b = rw (carried_none stride old new n l) (held_ext (λ j x. sym (midway_first old new j)) h)
  held_carried l size h (suc i) b =
      let g = held_carried l size h i (omega arith) in
      rw (← add-one i, carried_more stride old new n l i)
      (held_visit (λ s x. rw (carried_length stride old new n l i) (size s x)) i (omega arith) g)

  -- the walk of all choices carries the lists of the old schedule to those of the new one
  pub held_after : (l : List ℕ) → ((s : ℕ) → s < slots → stride * s + stride ≤ length l) → Held stride old n slots l → Held stride new n slots (carried stride old new n l n)
  held_after l size h = held_ext (midway_last old new n) (held_carried l size h n (le_refl n))
