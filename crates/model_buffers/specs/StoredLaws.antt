-- Laws of a buffer that is filled from its front. Assumes nothing.
use Rattle.std.specs.Prelude.{ℕ, ◌≡◌, refl, List, [], ◌++◌, length}
use Rattle.std.proofs.Common.{sym, ◌∙◌, arith, add-zero, length-append}
use Rattle.counting.specs.Written.{written}
use Rattle.counting.specs.WrittenLaws.{written_append, length_written}
use Rattle.model_buffers.specs.Stored.{Filled}

pub filled_none : (l : List ℕ) (n : ℕ) → Filled l n [] l n
unfolding written
filled_none l n = record { buffer = refl; used = sym (add-zero n) }

pub filled_append : {l l' l'' : List ℕ} {n n' n'' : ℕ} {xs ys : List ℕ} → Filled l n xs l' n' → Filled l' n' ys l'' n'' → Filled l n (xs ++ ys) l'' n''
filled_append {l = l} {n = n} {xs = xs} {ys = ys} p q = record {
  buffer = q.buffer ∙ rw (p.buffer, p.used) (sym (written_append l n xs ys));
  used = omega (arith, p.used, q.used, length-append xs ys);
}

pub filled_long : {l l' : List ℕ} {n n' : ℕ} {xs : List ℕ} → Filled l n xs l' n' → length l' ≡ length l
filled_long {l = l} {n = n} {xs = xs} p = rw p.buffer (length_written l n xs)
