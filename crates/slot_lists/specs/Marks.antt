-- Check 12's first part, as the code looks at it: each list marks its choices with its slot's entry, and the marks are held against the schedule. Definitions and their laws.
use Rattle.std.specs.Prelude.{ℕ, zero, suc, ◌+◌, ◌*◌, ◌<◌, ◌≤◌, ◌≡◌, refl, Bool, true, false, cond, not, ◌||◌, List, eqb, length, get_or, set, replicate}
use Rattle.std.proofs.Common.{sym, ap, ◌∙◌, arith, length-set, get_or-set_same, get_or-set_other, eq-eqb, ne_eqb, eqb-true}
use Rattle.std.proofs.Math.Bool.{or-true, or-false}
use Rattle.std.proofs.lemmas.List.{get_or-replicate}
use Rattle.std.proofs.lemmas.Bool.{not-false}
use Rattle.counting.specs.Fold.{fold_to, any_to}
use Rattle.counting.specs.FoldLaws.{fold_none, fold_suc, fold_more, fold_ext}
use Rattle.counting.specs.HoldsLaws.{holds_all}
use Rattle.counting.specs.SearchLaws.{first_found}
use Rattle.counting.specs.Sums.{count_le}
use Rattle.counting.specs.Tests.{bool_cases, eq_cases, never, none_each, each_none, some_passes}
use Rattle.scheduling.specs.Schedule.{entry_at}
use Rattle.slot_lists.specs.HeldLaws.{Held, held, not_misheld, holds_any, times_found, member, member_is, member_out, member_count_lem}
use Rattle.slot_lists.specs.Held.{misheld}
use Rattle.slot_lists.specs.Lists.{listed, is_listed}
use Rattle.slot_lists.specs.ListsLaws.{is_entry, part_length, part_at}
use Rattle.slot_lists.specs.Parts.{list_bytes}
use Rattle.slot_lists.specs.SumsLaws.{Sums}
use Rattle.slot_lists.specs.Sums.{one, in_slot, weighed}
use Rattle.slot_lists.specs.declared.lists.SlotLists.{SlotLists}

-- choice k stands in the list of slot s
abbrev pub stands_in : ℕ → (ℕ → ℕ) → List ℕ → ℕ → ℕ → Bool
stands_in stride len l k s = any_to (len s) (is_listed stride l s k)

abbrev pub mark : ℕ → (ℕ → ℕ) → List ℕ → ℕ → ℕ → ℕ → ℕ
mark stride len l k e s = cond (stands_in stride len l k s) (suc s) e

-- the entry of the last slot below s in whose list choice k stands, or 0
unfoldable pub marked_by : ℕ → (ℕ → ℕ) → List ℕ → ℕ → ℕ → ℕ
marked_by stride len l k s = fold_to (mark stride len l k) 0 s (λ t. t)

-- some choice's mark is not its entry
abbrev pub stray_at : ℕ → (ℕ → ℕ) → (ℕ → ℕ) → ℕ → List ℕ → ℕ → Bool
stray_at stride len f slots l k = not (eqb (marked_by stride len l k slots) (f k))

-- .. of marks that an array holds
abbrev pub unmarked_at : List ℕ → (ℕ → ℕ) → ℕ → Bool
unmarked_at m f k = not (eqb (get_or m k 0) (f k))

-- what looking asks: a schedule of 8 slots at most, and lists whose parts are in the buffer, as long as the schedule has them
pub record Looks (n slots : ℕ) (entries : List ℕ) (l : SlotLists) : Type 0 where
  pub count : n ≤ 32
  pub few : slots ≤ 8
  pub room : n ≤ l.stride
  pub fits : (k : ℕ) → k < n → entry_at entries k ≤ slots
  pub part : (s : ℕ) → s < slots → l.stride * s + l.stride ≤ length l.bytes.now
  pub lens : Sums one (entry_at entries) n l.lens

-- ---- laws

module _ (stride : ℕ) (len : ℕ → ℕ) (l : List ℕ) (k : ℕ) where
  pub marked_none : marked_by stride len l k 0 ≡ 0
  unfolding marked_by
  marked_none = fold_none (mark stride len l k) 0 (λ t. t)

  pub marked_more : (s : ℕ) → marked_by stride len l k (s + 1) ≡ mark stride len l k (marked_by stride len l k s) s
  unfolding marked_by
  marked_more s = fold_more (mark stride len l k) 0 s (λ t. t)

  marked_suc : (s : ℕ) → marked_by stride len l k (suc s) ≡ mark stride len l k (marked_by stride len l k s) s
  unfolding marked_by
  marked_suc s = fold_suc (mark stride len l k) 0 s (λ t. t)

  -- a choice that is marked stands in the list
  marked_found : (s t : ℕ) → marked_by stride len l k s ≡ suc t → stands_in stride len l k t ≡ true
  marked_found zero t e = absurd (omega (arith, marked_none))
  marked_found (suc s) t e = bool_cases (stands_in stride len l k s)
      (λ b. let q : suc s ≡ suc t = (rw b at (sym (marked_suc s))) ∙ e in let r : s ≡ t = omega arith in rw (← r) b)
      (λ b. marked_found s t ((rw b at (sym (marked_suc s))) ∙ e))

  -- where choice k stands in the list of entry e and in no other, that is its mark
  marked_only : (e slots : ℕ) → ((s : ℕ) → s < slots → stands_in stride len l k s ≡ eqb e (suc s)) → (s : ℕ) → s ≤ slots → (e ≤ s → marked_by stride len l k s ≡ e) × (s < e → marked_by stride len l k s ≡ 0)
  marked_only e slots h zero b = (λ c. marked_none ∙ omega arith, λ c. marked_none)
  marked_only e slots h (suc s) b =
      let p = marked_only e slots h s (omega arith) in
      let q : marked_by stride len l k (suc s) ≡ cond (eqb e (suc s)) (suc s) (marked_by stride len l k s) = marked_suc s ∙ rw (h s (omega arith)) in
      eq_cases e (suc s)
      (λ u v. (λ c. q ∙ rw v (sym u), λ c. absurd (omega arith)))
      (λ u v. (λ c. q ∙ rw v (p.0 (omega arith)), λ c. q ∙ rw v (p.1 (omega arith))))

module _ (stride : ℕ) (f : ℕ → ℕ) (n slots : ℕ) (l : List ℕ) (fit : (k : ℕ) → k < n → f k ≤ slots) where
  abbrev len : ℕ → ℕ
  len = weighed one f n

  -- marks that are the entries: each choice stands in its slot's list
  stray_held : any_to n (stray_at stride len f slots l) ≡ false → Held stride f n slots l
  stray_held e = record {
    at = λ s b. holds_all (len s) n (listed stride l s) (member f n s) (member_count_lem f n s)
        (λ k c q. let m : marked_by stride len l k slots ≡ suc s = eqb-true _ _ (not-false _ (none_each n (stray_at stride len f slots l) e k c)) ∙ eqb-true (f k) (suc s) (sym (member_is f n s k c) ∙ q) in
        let j = some_passes (len s) (is_listed stride l s k) (marked_found stride len l k slots s m) in
        times_found (len s) (listed stride l s) k (first_found (len s) (is_listed stride l s k) j.at j.below j.holds))
        (λ k c. member_out f n s k c);
  }

  -- .. and the other way round
  held_stray : Held stride f n slots l → (k : ℕ) → k < n → stray_at stride len f slots l k ≡ false
  held_stray h k c = ap not (eq-eqb _ _ ((marked_only stride len l k (f k) slots (λ s b. holds_any (h.at s b) k ∙ member_is f n s k c) slots (omega arith)).0 (fit k c)))

  stray_is : any_to n (stray_at stride len f slots l) ≡ misheld stride f n slots l
  stray_is = bool_cases (misheld stride f n slots l)
      (λ e. bool_cases (any_to n (stray_at stride len f slots l)) (λ t. t ∙ sym e) (λ t. never (sym e ∙ not_misheld stride f n slots l (stray_held t))))
      (λ e. each_none n (stray_at stride len f slots l) (held_stray (held stride f n slots l e)) ∙ sym e)

-- ---- the code's marks

-- marks m once a list's first n entries have marked theirs with e
pub record Noted (p : List ℕ) (n e : ℕ) (m m' : List ℕ) : Type 0 where
  pub long : length m' ≡ length m
  pub at : (k : ℕ) → k < 256 → get_or m' k 0 ≡ cond (any_to n (is_entry p k)) e (get_or m k 0)

pub noted_none : (p : List ℕ) (e : ℕ) (m : List ℕ) → Noted p 0 e m m
noted_none p e m = record { long = refl; at = λ k h. sym (ap (λ (t : Bool). cond t e (get_or m k 0)) (fold_none ◌||◌ false (is_entry p k))) }

module _ (p : List ℕ) where
  any_here : (n k : ℕ) → eqb (get_or p n 0) k ≡ true → any_to (n + 1) (is_entry p k) ≡ true
  any_here n k e = fold_more ◌||◌ false n (is_entry p k) ∙ rw e (or-true (any_to n (is_entry p k)))

  any_there : (n k : ℕ) → eqb (get_or p n 0) k ≡ false → any_to (n + 1) (is_entry p k) ≡ any_to n (is_entry p k)
  any_there n k e = fold_more ◌||◌ false n (is_entry p k) ∙ rw e (or-false (any_to n (is_entry p k)))

  pub noted_more : {n e x : ℕ} {m m' m'' : List ℕ} → Noted p n e m m' → length m ≡ 256 → x ≡ get_or p n 0 → x < 256 → m'' ≡ set m' x e → Noted p (n + 1) e m m''
  noted_more {n = n} {e = e} {x = x} {m = m} {m' = m'} {m'' = m''} t long q h w = record {
    long = ap length w ∙ length-set m' x e ∙ t.long;
    at = λ k b. rw w (eq_cases x k
        (λ u v. let z : any_to (n + 1) (is_entry p k) ≡ true = any_here n k (eq-eqb (get_or p n 0) k (sym q ∙ u)) in rw z (rw (← u) (get_or-set_same m' x e 0 (omega (arith, t.long)))))
        (λ u v. let z : any_to (n + 1) (is_entry p k) ≡ any_to n (is_entry p k) = any_there n k (ne_eqb (get_or p n 0) k (λ y. u (q ∙ y))) in rw z (get_or-set_other m' x k e 0 (λ y. u (sym y)) ∙ t.at k b)));
  }

-- the marks of the slots below s
pub record Marks (stride : ℕ) (len : ℕ → ℕ) (l : List ℕ) (s : ℕ) (m : List ℕ) : Type 0 where
  pub long : length m ≡ 256
  pub at : (k : ℕ) → k < 256 → get_or m k 0 ≡ marked_by stride len l k s

pub marks_none : (stride : ℕ) (len : ℕ → ℕ) (l : List ℕ) → Marks stride len l 0 (replicate 256 0)
marks_none stride len l = record { long = refl; at = λ k h. get_or-replicate {A = ℕ} 256 k 0 0 h ∙ sym (marked_none stride len l k) }

-- what looking asks gives, of a slot
module _ {n slots : ℕ} {entries : List ℕ} {l : SlotLists} (h : Looks n slots entries l) (s : ℕ) (b : s < slots) where
  pub looks_few : s < 8
  looks_few = omega (arith, h.few)

  pub looks_fits : get_or l.lens s 0 ≤ l.stride
  looks_fits = omega (arith, h.room, h.lens.at s looks_few, count_le n (in_slot (entry_at entries) s))

  pub marks_more : {e : ℕ} {p m m' : List ℕ} → Marks l.stride (weighed one (entry_at entries) n) l.bytes.now s m → p ≡ list_bytes l s → e ≡ suc s → Noted p (length p) e m m'
      → Marks l.stride (weighed one (entry_at entries) n) l.bytes.now (s + 1) m'
  marks_more {p = p} q r u v =
      let len : length p ≡ get_or l.lens s 0 = ap length r ∙ part_length (l.stride * s) (get_or l.lens s 0) l.bytes.now (omega (arith, h.part s b, looks_fits)) in
      record {
        long = v.long ∙ q.long;
        at = λ k c. v.at k c ∙ rw (len, u, q.at k c)
            (ap (λ (t : Bool). cond t (suc s) (marked_by l.stride (weighed one (entry_at entries) n) l.bytes.now k s))
            (fold_ext ◌||◌ false (get_or l.lens s 0) (is_entry p k) (is_listed l.stride l.bytes.now s k)
            (λ j d. rw r (ap (λ z. eqb z k) (part_at (l.stride * s) (get_or l.lens s 0) l.bytes.now j d)))
            ∙ ap (λ z. any_to z (is_listed l.stride l.bytes.now s k)) (h.lens.at s looks_few))
            ∙ sym (marked_more l.stride (weighed one (entry_at entries) n) l.bytes.now k s));
      }

-- all marks, held against the schedule
pub marks_all : {n slots : ℕ} {entries m : List ℕ} {l : SlotLists} → Looks n slots entries l → Marks l.stride (weighed one (entry_at entries) n) l.bytes.now slots m
    → any_to n (unmarked_at m (entry_at entries)) ≡ misheld l.stride (entry_at entries) n slots l.bytes.now
marks_all {n = n} {slots = slots} {entries = entries} {m = m} {l = l} h p =
    fold_ext ◌||◌ false n (unmarked_at m (entry_at entries)) (stray_at l.stride (weighed one (entry_at entries) n) (entry_at entries) slots l.bytes.now) (λ k b. ap (λ (v : ℕ). not (eqb v (entry_at entries k))) (p.at k (omega (arith, h.count))))
    ∙ stray_is l.stride (entry_at entries) n slots l.bytes.now h.fits
