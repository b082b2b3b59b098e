-- The number of a call, test after test, as the code comes to it. Assumes nothing.
use Rattle.std.specs.Prelude.{ℕ, ◌≡◌, refl, Bool, true, false, ◌≢◌}
use Rattle.std.proofs.Common.{sym, ◌∙◌, arith}
use Rattle.input_data.specs.Accepted.{number_past}
use Rattle.input_data.specs.Checks.{first_of, day_number, late_number}
use Rattle.input_data.specs.Lengths.{Within, full_day}
use Rattle.input_data.specs.declared.Limits.{Limits}
use Rattle.input_data.specs.declared.InputData.{InputData}
use Rattle.input_data.specs.declared.checks.Beside.{Beside}

stop : (b : Bool) (n r r' : ℕ) → (r ≢ 0 → r' ≡ r) → first_of b n r ≢ 0 → first_of b n r' ≡ first_of b n r
unfolding first_of
stop true n r r' h d = refl
stop false n r r' h d = h d

-- a day that is refused is refused by the same number, whatever is tested after it
day_stop : (l : Limits) (d : InputData) (b : Beside) (rest : ℕ) → day_number l d b 0 ≢ 0 → day_number l d b rest ≡ day_number l d b 0
unfolding day_number late_number
day_stop l d b rest =
    stop _ 1 _ _ (stop _ 2 _ _ (stop _ 3 _ _ (stop _ 4 _ _ (stop _ 5 _ _ (stop _ 6 _ _ (stop _ 7 _ _ (stop _ 8 _ _ (stop _ 9 _ _ (stop _ 10 0 rest (λ e. absurd (e refl)))))))))))

pub number_refused : (l : Limits) (d : InputData) (b : Beside) (rest : ℕ) {n : ℕ} → n ≡ day_number l d b 0 → n ≢ 0 → n ≡ day_number l d b rest
number_refused l d b rest p e = p ∙ sym (day_stop l d b rest (λ z. e (p ∙ z)))

pub number_else : (l : Limits) (d : InputData) (b : Beside) (rest : ℕ) {n m : ℕ} → n ≡ day_number l d b 0 → n ≡ 0 → m ≡ rest → m ≡ day_number l d b rest
number_else l d b rest p e q = q ∙ sym (number_past l d b 0 rest (sym p ∙ e))

-- one test after another
pub first_applies : (b : Bool) (n rest : ℕ) → b ≡ true → n ≡ first_of b n rest
unfolding first_of
first_applies b n rest e = rw e

pub first_not : (b : Bool) (n rest : ℕ) {m : ℕ} → b ≡ false → m ≡ rest → m ≡ first_of b n rest
unfolding first_of
first_not b n rest e q = rw e q

-- the full day's limits are within what the types hold
pub full_within : Within full_day
full_within = record { choosers = omega arith; choices = omega arith; slots = omega arith }
