-- The walk from one schedule to the next, as the code makes it. Assumes nothing.
use Rattle.std.specs.Prelude.{ℕ, ◌+◌, ◌*◌, ◌<◌, ◌≤◌, ◌≡◌, zero, suc, refl, Some, None, List, ◌≢◌, cond, eqb, length, get_or}
use Rattle.std.proofs.Common.{sym, ap, ◌∙◌, arith, eq-eqb, ne_eqb}
use Rattle.counting.specs.Sums.{count_lt}
use Rattle.counting.specs.Tests.{eq_cases}
use Rattle.scheduling.specs.Schedule.{entry_at, slot_in}
use Rattle.slot_lists.specs.SumsLaws.{Weighs, put, AreSums, less, more, weighed_holds, both_ext, sums_most}
use Rattle.slot_lists.specs.Sums.{in_slot, weighed, one}
use Rattle.slot_lists.specs.Walk.{midway, carried}
use Rattle.slot_lists.specs.WalkLaws.{carried_none, carried_more, carried_length, leaves_length, midway_here, midway_first, midway_last, both_between, both_visited, visit_is}
use Rattle.carried_lists.specs.Carried.{holding, departed, visited, ListsCarried}
use Rattle.carried_lists.specs.declared.CarriedLists.{CarriedLists}

-- what it asks that a choice of weight w leaves slot s, or joins it
pub record Leaves (c : CarriedLists) (s w : ℕ) : Type 0 where
  pub slot : s < 8
  pub part : c.stride * s + c.stride ≤ length c.bytes.now
  pub some : 1 ≤ get_or c.sums.now.lens s 0
  pub len : get_or c.sums.now.lens s 0 ≤ c.stride
  pub sum : w ≤ get_or c.sums.now.covered s 0

pub record Enters (c : CarriedLists) (s w : ℕ) : Type 0 where
  pub slot : s < 8
  pub part : c.stride * s + c.stride ≤ length c.bytes.now
  pub few : get_or c.sums.now.lens s 0 < 256
  pub len : get_or c.sums.now.lens s 0 < c.stride
  pub sum : get_or c.sums.now.covered s 0 + w < 4294967296

-- .. and that choice k is visited
pub record Visits (c : CarriedLists) (old new k w : ℕ) : Type 0 where
  pub leaves : (s : ℕ) → old ≢ new → old ≡ suc s → Leaves c s w
  pub enters : (s : ℕ) → old ≢ new → new ≡ suc s → Enters (departed c old k w) s w

-- what the walk asks: schedules of 8 slots at most, whose parts are in the buffer, light choices, and the sums of the old schedule
pub record Carries (n : ℕ) (old new mins : List ℕ) (c : CarriedLists) : Type 0 where
  pub count : n ≤ 32
  pub room : n ≤ c.stride
  pub from : Weighs old mins n
  pub to : Weighs new mins n
  pub from_part : (k s : ℕ) → k < n → entry_at old k ≡ suc s → c.stride * s + c.stride ≤ length c.bytes.now
  pub to_part : (k s : ℕ) → k < n → entry_at new k ≡ suc s → c.stride * s + c.stride ≤ length c.bytes.now
  pub sums : AreSums (entry_at mins) (entry_at old) n c.sums.now

-- the walk once the choices below i have been visited
pub record Walking (n : ℕ) (old new mins : List ℕ) (c : CarriedLists) (i : ℕ) (c' : CarriedLists) : Type 0 where
  pub inside : i ≤ n
  pub lists : c' ≡ holding c (carried c.stride (entry_at old) (entry_at new) n c.bytes.now i) c'.sums.now
  pub sums : AreSums (entry_at mins) (midway (entry_at old) (entry_at new) i) n c'.sums.now

-- ---- laws

-- an entry that names slot s, or none
pub slot_named : {e s : ℕ} → Some s ≡ slot_in e → e ≡ suc s
slot_named {e = zero} h = absurd cc
slot_named {e = suc t} h = cc

pub slot_unnamed : {e : ℕ} → None ≡ slot_in e → e ≡ 0
slot_unnamed {e = zero} h = refl
slot_unnamed {e = suc t} h = absurd cc

pub walking_start : {n : ℕ} {old new mins : List ℕ} {c : CarriedLists} → Carries n old new mins c → Walking n old new mins c 0 c
walking_start {n = n} {old = old} {new = new} {c = c} h = record {
  inside = omega arith;
  lists = rw (carried_none c.stride (entry_at old) (entry_at new) n c.bytes.now);
  sums = both_ext (λ j b. sym (midway_first (entry_at old) (entry_at new) j)) h.sums;
}

module _ {n : ℕ} {old new mins : List ℕ} {c₀ : CarriedLists} (h : Carries n old new mins c₀) {k : ℕ} {c : CarriedLists} (p : Walking n old new mins c₀ k c) (l : k < n) where
  abbrev f : ℕ → ℕ
  f = midway (entry_at old) (entry_at new) k

  abbrev w : ℕ
  w = entry_at mins k

  same_stride : c.stride ≡ c₀.stride
  same_stride = ap (λ x. x.stride) p.lists

  same_length : length c.bytes.now ≡ length c₀.bytes.now
  same_length = ap (λ x. length x.bytes.now) p.lists ∙ carried_length c₀.stride (entry_at old) (entry_at new) n c₀.bytes.now k

  light : (j : ℕ) → j < n → one j ≤ 1
  light j b = omega arith

  leaves_slot : (s : ℕ) → entry_at old k ≢ entry_at new k → entry_at old k ≡ suc s → Leaves c s w
  leaves_slot s d e =
      let small : s < 8 = omega (arith, h.from.small k l) in
      let here : f k ≡ suc s = midway_here (entry_at old) (entry_at new) k ∙ e in
      record {
        slot = small;
        part = rw (same_stride, same_length) (h.from_part k s l e);
        some = omega (arith, p.sums.lens.at s small, weighed_holds one f n s k l here);
        len = omega (arith, h.room, same_stride, sums_most p.sums.lens 1 light s small);
        sum = omega (arith, p.sums.covered.at s small, weighed_holds (entry_at mins) f n s k l here);
      }

  between : AreSums (entry_at mins) (put f k 0) n (less (entry_at old k) w c.sums.now)
  between = both_between (entry_at old) (entry_at new) k l (h.from.small k l) (h.to.small k l) p.sums

  enters_slot : (s : ℕ) → entry_at old k ≢ entry_at new k → entry_at new k ≡ suc s → Enters (departed c (entry_at old k) k w) s w
  enters_slot s d e =
      let small : s < 8 = omega (arith, h.to.small k l) in
      let fewer : weighed one (put f k 0) n s < n = count_lt n (in_slot (put f k 0) s) k l (rw (eq-eqb k k refl) (ne_eqb 0 (suc s) (λ z. omega arith))) in
      record {
        slot = small;
        part = rw (leaves_length c.stride (entry_at old k) (entry_at c.sums.now.lens) k c.bytes.now, same_stride, same_length) (h.to_part k s l e);
        few = omega (arith, h.count, between.lens.at s small, fewer);
        len = omega (arith, h.room, same_stride, between.lens.at s small, fewer);
        sum = omega (arith, h.count, h.to.light k l, sums_most between.covered 1000 h.to.light s small);
      }

  pub walking_visits : Visits c (entry_at old k) (entry_at new k) k w
  walking_visits = record { leaves = leaves_slot; enters = enters_slot }

  visited_sums : {c' : CarriedLists} → c' ≡ visited c (entry_at old k) (entry_at new k) k w → c'.sums.now ≡ cond (eqb (entry_at old k) (entry_at new k)) c.sums.now (more (entry_at new k) w (less (entry_at old k) w c.sums.now))
  visited_sums v = rw v (eq_cases (entry_at old k) (entry_at new k) (λ e t. rw t) (λ e t. rw t))

  visited_bytes : {c' : CarriedLists} → c' ≡ visited c (entry_at old k) (entry_at new k) k w → c'.bytes.now ≡ carried c₀.stride (entry_at old) (entry_at new) n c₀.bytes.now (k + 1)
  visited_bytes {c' = c'} v =
      visit_is (entry_at old) (entry_at new) k l (h.from.small k l) (h.to.small k l) p.sums.lens c.stride c.bytes.now c'.bytes.now (rw v (eq_cases (entry_at old k) (entry_at new k) (λ e t. rw t) (λ e t. rw t)))
      ∙ rw p.lists (sym (carried_more c₀.stride (entry_at old) (entry_at new) n c₀.bytes.now k))

  visited_is : {c' : CarriedLists} → c' ≡ visited c (entry_at old k) (entry_at new k) k w → c' ≡ holding c₀ (carried c₀.stride (entry_at old) (entry_at new) n c₀.bytes.now (k + 1)) c'.sums.now
  visited_is {c' = c'} v =
      let q : c' ≡ holding c₀ c'.bytes.now c'.sums.now = rw v (eq_cases (entry_at old k) (entry_at new k) (λ e t. rw t (rw p.lists)) (λ e t. rw t (rw p.lists))) in
      q ∙ ap (λ b. holding c₀ b c'.sums.now) (visited_bytes v)

  pub walking_more : {c' : CarriedLists} → c' ≡ visited c (entry_at old k) (entry_at new k) k w → Walking n old new mins c₀ (k + 1) c'
  walking_more {c' = c'} v = record {
    inside = omega arith;
    lists = visited_is v;
    sums = both_visited (entry_at old) (entry_at new) k l (h.from.small k l) (h.to.small k l) p.sums (visited_sums v);
  }

pub walking_all : {n : ℕ} {old new mins : List ℕ} {c : CarriedLists} {i : ℕ} {c' : CarriedLists} → Walking n old new mins c i c' → n ≤ i → ListsCarried n old new mins c c'
walking_all {n = n} {old = old} {new = new} {c = c} {i = i} p b =
    let e : i ≡ n = omega (arith, p.inside) in
    record {
      lists = rw e at p.lists;
      sums = both_ext (λ j q. rw e (midway_last (entry_at old) (entry_at new) n j q)) p.sums;
    }
