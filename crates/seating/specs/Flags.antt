-- Lent bytes whose flags mean the same stand for the same: a byte 2 is a byte 1. Assumes nothing.
-- Every promise of a call speaks of its day, state, search and memory through day_of, state_in, search_in and cached_in and through their lengths.
-- For states this is `alike_state`, for searches and memories `search_alike` and `cached_alike`; here it is said of days.
use Rattle.std.specs.Prelude.{ℕ, ◌+◌, ◌*◌, ◌<◌, ◌≤◌, ◌≡◌, List, [], ◌∷◌, ◌++◌, length, get_or}
use Rattle.std.proofs.Common.{ap, arith}
use Rattle.counting.specs.Fold.{table_to}
use Rattle.counting.specs.FoldLaws.{fold_ext}
use Rattle.input_data.specs.Bytes.{word_at, optional_in, min_in, max_in, group_length_in, member_in, numbers_in, list_in, day_of}

-- days that agree in every byte but for what a set flag byte is
pub record DayAlike (a b : List ℕ) : Type 0 where
  pub long : length a ≡ length b
  pub front : (i : ℕ) → i < 284 → get_or a i 0 ≡ get_or b i 0
  pub flags : (k : ℕ) → k < 32 → optional_in a k ≡ optional_in b k
  pub back : (i : ℕ) → 316 ≤ i → get_or a i 0 ≡ get_or b i 0

module _ {a b : List ℕ} (e : DayAlike a b) where
  word_front : (at : ℕ) → at + 4 ≤ 284 → word_at a at ≡ word_at b at
  unfolding word_at
  word_front at h = rw (e.front at (omega arith), e.front (at + 1) (omega arith), e.front (at + 2) (omega arith), e.front (at + 3) (omega arith))

  word_back : (at : ℕ) → 316 ≤ at → word_at a at ≡ word_at b at
  unfolding word_at
  word_back at h = rw (e.back at h, e.back (at + 1) (omega arith), e.back (at + 2) (omega arith), e.back (at + 3) (omega arith))

  numbers_back : (at j : ℕ) → 316 ≤ at → numbers_in a at j ≡ numbers_in b at j
  unfolding numbers_in
  numbers_back at j h = rw (
    word_back (at + 24 * j) (omega arith),
    word_back (at + 24 * j + 4) (omega arith),
    word_back (at + 24 * j + 8) (omega arith),
    word_back (at + 24 * j + 12) (omega arith),
    word_back (at + 24 * j + 16) (omega arith),
    word_back (at + 24 * j + 20) (omega arith),
  )

  table {ℓ} : {A : Type ℓ} (n : ℕ) (f g : ℕ → A) → ((k : ℕ) → k < n → f k ≡ g k) → table_to n f ≡ table_to n g
  table n f g h = fold_ext ◌++◌ [] n (λ k. f k ∷ []) (λ k. g k ∷ []) (λ k l. ap (λ v. v ∷ []) (h k l))

  pub day_alike : day_of a ≡ day_of b
  unfolding day_of list_in
  day_alike = rw (
    word_front 0 (omega arith),
    word_front 4 (omega arith),
    word_front 8 (omega arith),
    word_front 12 (omega arith),
    word_front 16 (omega arith),
    word_front 20 (omega arith),
    word_front 24 (omega arith),
    table 32 (min_in a) (min_in b) (λ k l. word_front (28 + 4 * k) (omega arith)),
    table 32 (max_in a) (max_in b) (λ k l. word_front (156 + 4 * k) (omega arith)),
    table 32 (optional_in a) (optional_in b) e.flags,
    table 16 (group_length_in a) (group_length_in b) (λ k l. word_back (316 + 4 * k) (omega arith)),
    table 32 (member_in a) (member_in b) (λ k l. word_back (380 + 4 * k) (omega arith)),
    table 32 (numbers_in a 508) (numbers_in b 508) (λ k l. numbers_back 508 k (omega arith)),
    table 32 (numbers_in a 1276) (numbers_in b 1276) (λ k l. numbers_back 1276 k (omega arith)),
  )
