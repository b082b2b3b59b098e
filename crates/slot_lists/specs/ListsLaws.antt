-- A slot's list in its part of the buffer, as the code changes it. Assumes nothing.
use Rattle.std.specs.Prelude.{ℕ, ◌+◌, ◌-◌, ◌*◌, ◌<◌, ◌≤◌, ◌≡◌, ◌≢◌, Bool, cond, List, eqb, ltb, length, get_or, set, take, drop}
use Rattle.std.proofs.Common.{ap, ◌∙◌, arith, le_refl, length-take, length-drop, get_or-take, get_or-drop, eq-eqb, ne_eqb, lt-ltb, le-ltb}
use borrow.Rule.Slice.PartMut.{put_mid, mid_of, set_mid_at, put_same}
use Rattle.counting.specs.Search.{first_to}
use Rattle.counting.specs.SearchLaws.{first_ext, first_at, first_none}
use Rattle.counting.specs.Tests.{lt_cases}
use Rattle.slot_lists.specs.Lists.{listed, place_of, left_by}

-- choice k stands at place j of a list
abbrev pub is_entry : List ℕ → ℕ → ℕ → Bool
is_entry p k j = eqb (get_or p j 0) k

-- choice k leaves a list: the last entry moves into its place
unfoldable pub removed : ℕ → List ℕ → List ℕ
removed k p = cond (ltb (first_to (length p) (is_entry p k)) (length p)) (set p (first_to (length p) (is_entry p k)) (get_or p (length p - 1) 0)) p

-- ---- laws

-- a search finds choice k, or does not
module _ (k : ℕ) (p : List ℕ) where
  pub removed_at : (i : ℕ) → i < length p → ((j : ℕ) → j < i → get_or p j 0 ≢ k) → get_or p i 0 ≡ k → set p i (get_or p (length p - 1) 0) ≡ removed k p
  unfolding removed
  removed_at i l h e =
      let f = first_at (length p) (is_entry p k) i l (λ j b. ne_eqb (get_or p j 0) k (h j b)) (eq-eqb (get_or p i 0) k e) in
      rw (← f, lt-ltb i (length p) l)

  pub removed_none : ((j : ℕ) → j < length p → get_or p j 0 ≢ k) → p ≡ removed k p
  unfolding removed
  removed_none h = rw (← first_none (length p) (is_entry p k) (λ j b. ne_eqb (get_or p j 0) k (h j b)), le-ltb (length p) (length p) (le_refl (length p)))

-- ---- what a part that was lent and came back means for the whole

-- a part of a buffer: n elements from a on
module _ (a n : ℕ) (l : List ℕ) where
  pub part_length : a + n ≤ length l → length (take n (drop a l)) ≡ n
  part_length h = simp (length-take, length-drop) (omega arith)

  pub part_at : (j : ℕ) → j < n → get_or (take n (drop a l)) j 0 ≡ get_or l (a + j) 0
  part_at j h = get_or-take n (drop a l) j 0 h ∙ get_or-drop a l j 0

  part_place : (k : ℕ) → a + n ≤ length l → first_to (length (mid_of a n l)) (is_entry (mid_of a n l) k) ≡ first_to n (λ j. eqb (get_or l (a + j) 0) k)
  part_place k h =
      ap (λ m. first_to m (is_entry (mid_of a n l) k)) (part_length h)
      ∙ first_ext n (is_entry (mid_of a n l) k) (λ j. eqb (get_or l (a + j) 0) k) (λ j b. ap (λ v. eqb v k) (part_at j b))

-- a choice leaves the list of slot s, of `len` entries
pub leave_in_part : (stride s len k : ℕ) (l : List ℕ) → len ≤ stride → stride * s + stride ≤ length l → put_mid (stride * s) len l (removed k (mid_of (stride * s) len l)) ≡ left_by stride s len k l
unfolding removed left_by
leave_in_part stride s len k l h b =
    rw (part_place (stride * s) len l k (omega arith), part_length (stride * s) len l (omega arith))
    (lt_cases (place_of stride s len k l) len
    (λ p e. rw (e, part_at (stride * s) len l (len - 1) (omega arith))
    (set_mid_at (stride * s) len (place_of stride s len k l) l (listed stride l s (len - 1)) (simp (length-take, length-drop) (omega arith))))
    (λ p e. rw e (put_same (stride * s) len l)))
