-- Lent bytes that stand for the same give the same answer. Assumes nothing.
use Rattle.std.specs.Prelude.{ℕ, ◌+◌, ◌<◌, ◌≤◌, ◌≡◌, refl, Bool, true, not, ◌||◌, ◌&&◌, List, eqb, ltb, leb, length, get_or, take, drop}
use Rattle.std.proofs.Common.{sym, ap, ap₂, ◌∙◌, arith, add-zero, ext_get_or, get_or-take, get_or-drop, lt-ltb, le-ltb, le-leb}
use Rattle.std.proofs.Math.Bool.{false}
use Rattle.std.proofs.lemmas.Bool.{lt-leb}
use Rattle.counting.specs.Tests.{lt_cases}
use Rattle.input_data.specs.Bytes.{IsDay, day_of, word_at, flag_of, flag_at, lent_number}
use Rattle.input_data.specs.BytesLaws.{lent_is}
use Rattle.input_data.specs.Checks.{first_of}
use Rattle.input_data.specs.declared.Limits.{Limits}
use Rattle.scheduling.specs.Handed.{schedule_of, not_schedule, outside}
use Rattle.preference_search.specs.Search.{Told, known}
use Rattle.preference_search.specs.Steps.{cached, search_with, begun_answer, told_answer}
use Rattle.preference_search.specs.Laws.{part_long}
use Rattle.preference_search.specs.Bytes.{IsCached, IsSearch, not_cached, not_search, cached_in, search_in}
use Rattle.preference_search_checks.specs.Checks.{beside_levels, wrong_length, outside_cached, bad_cached, begin_number, held_number, tell_number}
use Rattle.assignment_solver.specs.Calls.{search_answer_of, begin_answer, tell_answer, begin_lent, tell_lent}
use Rattle.preference_search.specs.declared.CachedAssignment.{CachedAssignment}
use Rattle.preference_search.specs.declared.Search.{Search}

-- ---- where all bytes have their lengths, the calls are those on what the bytes stand for

pub begin_lent_is : (l : Limits) (day sch levels : List ℕ) (bound : ℕ) (greedy : Bool) (c : List ℕ) → IsDay day → length sch ≡ 32 → IsCached c → begin_lent l day sch levels bound greedy c ≡ begin_answer l (day_of day) (schedule_of sch) levels bound greedy (cached_in c)
unfolding begin_lent begin_answer begin_number
begin_lent_is l day sch levels bound greedy c h s m =
    let d = day_of day in
    ap (λ n. search_answer_of n (begun_answer d (schedule_of sch) levels bound greedy (cached_in c)))
    (lent_is l day (not_schedule sch || not_cached c) (beside_levels d levels false) (first_of (outside d (schedule_of sch) || outside_cached d (cached_in c)) 11 (first_of (bad_cached d (cached_in c)) 13 0)) h (rw (s, m)))

pub tell_lent_is : (l : Limits) (day s levels : List ℕ) (t : Told) → IsDay day → IsSearch s → tell_lent l day s levels t ≡ tell_answer l (day_of day) (search_in s) levels t
unfolding tell_lent tell_answer tell_number
tell_lent_is l day s levels t h m =
    let d = day_of day in
    ap (λ n. search_answer_of n (told_answer d (search_in s) levels t))
    (lent_is l day (not_search s) (beside_levels d levels (wrong_length l t)) (held_number d (search_in s) (length levels) t) h (rw m))

-- ---- a flag byte may have any value that is not 0

-- n bytes that agree in what their flags say and in every other byte; `flag` says where the flags are
pub record Alike (flag : ℕ → Bool) (n : ℕ) (a b : List ℕ) : Type 0 where
  pub long : length a ≡ n
  pub long_too : length b ≡ n
  pub flags : (i : ℕ) → i < n → flag i ≡ true → flag_at a i ≡ flag_at b i
  pub others : (i : ℕ) → i < n → flag i ≡ false → get_or a i 0 ≡ get_or b i 0

-- the flags of a memory, and those of a search, which holds a memory from 568 on
abbrev pub cached_flag : ℕ → Bool
cached_flag i = ltb i 2

abbrev pub search_flag : ℕ → Bool
search_flag i = ltb i 4 || (leb 568 i && ltb i 570)

part_at : (at m : ℕ) (b : List ℕ) (i : ℕ) → i < m → get_or (take m (drop at b)) i 0 ≡ get_or b (at + i) 0
part_at at m b i h = get_or-take m (drop at b) i 0 h ∙ get_or-drop at b i 0

module _ {flag : ℕ → Bool} {n : ℕ} {a b : List ℕ} (e : Alike flag n a b) where
  part_alike : (at m : ℕ) → at + m ≤ n → ((i : ℕ) → i < m → flag (at + i) ≡ false) → take m (drop at a) ≡ take m (drop at b)
  part_alike at m h f =
      let p : length (take m (drop at a)) ≡ m = part_long at m a (omega (arith, e.long)) in
      let q : length (take m (drop at b)) ≡ m = part_long at m b (omega (arith, e.long_too)) in
      ext_get_or 0 (take m (drop at a)) (take m (drop at b)) (p ∙ sym q) (λ k g.
      let g' : k < m = omega (arith, p) in
      part_at at m a k g' ∙ e.others (at + k) (omega arith) (f k g') ∙ sym (part_at at m b k g'))

  word_alike : (at : ℕ) → at + 4 ≤ n → ((i : ℕ) → i < 4 → flag (at + i) ≡ false) → word_at a at ≡ word_at b at
  unfolding word_at
  word_alike at h f =
      let z : flag at ≡ false = rw (add-zero at) at (f 0 (omega arith)) in
      rw (e.others at (omega arith) z, e.others (at + 1) (omega arith) (f 1 (omega arith)), e.others (at + 2) (omega arith) (f 2 (omega arith)), e.others (at + 3) (omega arith) (f 3 (omega arith)))

same_cached : {t t' g g' : Bool} {s s' p p' : List ℕ} → t ≡ t' → g ≡ g' → s ≡ s' → p ≡ p' → cached t g s p ≡ cached t' g' s' p'
same_cached x y z w = rw (x, y, z, w)

pub cached_alike : (a b : List ℕ) → Alike cached_flag 546 a b → cached_in a ≡ cached_in b
cached_alike a b e = same_cached
    (e.flags 0 (omega arith) refl) (e.flags 1 (omega arith) refl)
    (part_alike e 2 32 (omega arith) (λ i h. le-ltb (2 + i) 2 (omega arith)))
    (part_alike e 34 512 (omega arith) (λ i h. le-ltb (34 + i) 2 (omega arith)))

no_flag : (i : ℕ) → 4 ≤ i → i < 568 → search_flag i ≡ false
no_flag i h g = let p : leb 568 i ≡ false = lt-leb _ _ g in rw (le-ltb i 4 h, p)

late_flag : (i : ℕ) → search_flag (568 + i) ≡ cached_flag i
late_flag i =
    let p : leb 568 (568 + i) ≡ true = le-leb 568 (568 + i) (omega arith) in
    let q : ltb (568 + i) 570 ≡ ltb i 2 = lt_cases i 2 (λ h t. lt-ltb (568 + i) 570 (omega arith) ∙ sym t) (λ h t. le-ltb (568 + i) 570 (omega arith) ∙ sym t) in
    rw (le-ltb (568 + i) 4 (omega arith), p) q

memory_alike : (a b : List ℕ) → Alike search_flag 1114 a b → Alike cached_flag 546 (take 546 (drop 568 a)) (take 546 (drop 568 b))
memory_alike a b e = record {
  long = part_long 568 546 a (omega (arith, e.long));
  long_too = part_long 568 546 b (omega (arith, e.long_too));
  flags = λ i h f. ap flag_of (part_at 568 546 a i h) ∙ e.flags (568 + i) (omega arith) (late_flag i ∙ f) ∙ sym (ap flag_of (part_at 568 546 b i h));
  others = λ i h f. part_at 568 546 a i h ∙ e.others (568 + i) (omega arith) (late_flag i ∙ f) ∙ sym (part_at 568 546 b i h);
}

same_search : {x x' g g' f f' o o' : Bool} {n n' v v' s s' l l' h h' : ℕ} {c c' p p' : List ℕ} {m m' : CachedAssignment} → x ≡ x' → g ≡ g' → f ≡ f' → o ≡ o' → n ≡ n' → v ≡ v' → s ≡ s' → l ≡ l' → h ≡ h' → c ≡ c' → p ≡ p' → m ≡ m'
    → search_with x g n s l h c (known f v p o) m ≡ search_with x' g' n' s' l' h' c' (known f' v' p' o') m'
same_search x g f o n v s l h c p m = rw (x, g, f, o, n, v, s, l, h, c, p, m)

pub search_alike : (a b : List ℕ) → Alike search_flag 1114 a b → search_in a ≡ search_in b
search_alike a b e = same_search
    (e.flags 0 (omega arith) refl) (e.flags 1 (omega arith) refl) (e.flags 2 (omega arith) refl) (e.flags 3 (omega arith) refl)
    (word 4 (omega arith) (omega arith)) (word 8 (omega arith) (omega arith)) (word 12 (omega arith) (omega arith)) (word 16 (omega arith) (omega arith)) (word 20 (omega arith) (omega arith))
    (part_alike e 24 32 (omega arith) (λ i h. no_flag (24 + i) (omega arith) (omega arith)))
    (part_alike e 56 512 (omega arith) (λ i h. no_flag (56 + i) (omega arith) (omega arith)))
    (cached_alike (take 546 (drop 568 a)) (take 546 (drop 568 b)) (memory_alike a b e))
  where
    word : (at : ℕ) → 4 ≤ at → at + 4 ≤ 568 → word_at a at ≡ word_at b at
    word at h g = word_alike e at (omega arith) (λ i k. no_flag (at + i) (omega arith) (omega arith))

-- so the calls give the same
pub begin_flags_alike : (l : Limits) (day sch levels : List ℕ) (bound : ℕ) (greedy : Bool) (c c' : List ℕ) → Alike cached_flag 546 c c' → begin_lent l day sch levels bound greedy c ≡ begin_lent l day sch levels bound greedy c'
unfolding begin_lent
begin_flags_alike l day sch levels bound greedy c c' e =
    ap₂ (λ (w : Bool) (x : CachedAssignment). search_answer_of (lent_number l day (not_schedule sch || w) (begin_number l (day_of day) (schedule_of sch) levels x)) (begun_answer (day_of day) (schedule_of sch) levels bound greedy x))
    (ap (λ (n : ℕ). not (eqb n 546)) (e.long ∙ sym e.long_too)) (cached_alike c c' e)

pub tell_flags_alike : (l : Limits) (day s s' levels : List ℕ) (t : Told) → Alike search_flag 1114 s s' → tell_lent l day s levels t ≡ tell_lent l day s' levels t
unfolding tell_lent
tell_flags_alike l day s s' levels t e =
    ap₂ (λ (w : Bool) (x : Search). search_answer_of (lent_number l day w (tell_number l (day_of day) x levels t)) (told_answer (day_of day) x levels t))
    (ap (λ (n : ℕ). not (eqb n 1114)) (e.long ∙ sym e.long_too)) (search_alike s s' e)
