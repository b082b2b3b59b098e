-- Laws of a state lent as bytes. Assumes nothing.
use Rattle.std.specs.Prelude.{ℕ, ◌+◌, ◌*◌, ◌<◌, ◌≡◌, Bool, List, [], ◌∷◌, ◌++◌, length, get_or, take}
use Rattle.std.proofs.Common.{ap, arith, length-take}
use Rattle.std.proofs.Math.Bool.{false}
use Rattle.counting.specs.FoldLaws.{fold_ext}
use Rattle.counting.specs.Lists.{table_at}
use Rattle.input_data.specs.Bytes.{word_at}
use Rattle.schedule_state.specs.Bytes.{IsState, covered_in, block_in, state_in}

-- ---- laws

module _ (b : List ℕ) where
  pub covered_in_lem : (s : ℕ) → s < 8 → get_or (state_in b).covered s 0 ≡ covered_in b s
  unfolding state_in
  covered_in_lem s h = table_at 8 (covered_in b) 0 s h

  pub block_in_lem : (p : ℕ) → p < 2048 → get_or (state_in b).blocks p false ≡ block_in b p
  unfolding state_in
  block_in_lem p h = table_at 2048 (block_in b) false p h

-- the bytes of its schedule
pub schedule_long : (b : List ℕ) → IsState b → length (take 32 b) ≡ 32
schedule_long b e = simp length-take (omega arith)

-- States that agree but for what a set flag byte is stand for the same state: every answer, which is given of the state that the bytes stand for, is the same.
pub record StateAlike (a b : List ℕ) : Type 0 where
  pub front : (i : ℕ) → i < 64 → get_or a i 0 ≡ get_or b i 0
  pub schedule : take 32 a ≡ take 32 b
  pub blocks : (p : ℕ) → p < 2048 → block_in a p ≡ block_in b p

pub alike_state : (a b : List ℕ) → StateAlike a b → state_in a ≡ state_in b
unfolding state_in word_at
alike_state a b h =
    rw (
      h.schedule,
      fold_ext ◌++◌ [] 8 (λ s. covered_in a s ∷ []) (λ s. covered_in b s ∷ []) (λ s l. rw (h.front (32 + 4 * s) (omega arith), h.front (32 + 4 * s + 1) (omega arith), h.front (32 + 4 * s + 2) (omega arith), h.front (32 + 4 * s + 3) (omega arith))),
      fold_ext ◌++◌ [] 2048 (λ p. block_in a p ∷ []) (λ p. block_in b p ∷ []) (λ p l. ap (λ (t : Bool). t ∷ []) (h.blocks p l)),
    )
