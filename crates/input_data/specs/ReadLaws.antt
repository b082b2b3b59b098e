-- Laws of the day that is read, and of a day's checks with what is tested after them. Assumes nothing.
use Rattle.std.specs.Prelude.{ℕ, ◌≡◌, ◌≢◌, refl, List, Result, Ok, Err, length}
use Rattle.std.proofs.Common.{ap, arith, eqb-true}
use Rattle.std.proofs.lemmas.Bool.{not-false, not-true, eqb-false}
use Rattle.counting.specs.Tests.{bool_cases}
use Rattle.refusal.specs.Number.{number, outcome}
use Rattle.refusal.specs.Laws.{some_number}
use Rattle.refusal.specs.declared.Refusal.{Refusal}
use Rattle.input_data.specs.Bytes.{not_long, IsDay, day_of}
use Rattle.input_data.specs.Checks.{day_number}
use Rattle.input_data.specs.Numbers.{number_refused, number_else}
use Rattle.input_data.specs.Read.{day_read}
use Rattle.input_data.specs.declared.Limits.{Limits}
use Rattle.input_data.specs.declared.InputData.{InputData}
use Rattle.input_data.specs.declared.checks.Beside.{Beside}

-- the value of a result, or another where it is refused
abbrev value_or : {A : Type 0} → A → Result A Refusal → A
value_or x (Ok a) = a
value_or x (Err r) = x

module _ (b : List ℕ) where
  -- a day that is read has its length
  pub read_ok : {d : InputData} → Ok d ≡ day_read b → IsDay b × (d ≡ day_of b)
  read_ok {d = d} e = bool_cases (not_long 2044 b)
      (λ t. absurd (let z : 0 ≡ 2 = ap outcome (rw t at e) in omega (arith, z)))
      (λ t. (eqb-true (length b) 2044 (not-false _ t), ap (value_or d) (rw t at e)))

  -- one that is not read has another, and its number is 2
  pub read_err : {r : Refusal} → Err r ≡ day_read b → (length b ≢ 2044) × (number r ≡ 2)
  read_err {r = r} e = bool_cases (not_long 2044 b)
      (λ t. (eqb-false (length b) 2044 (not-true _ t), ap outcome (rw t at e)))
      (λ t. absurd (some_number r (ap outcome (rw t at e))))

-- a day that is refused is refused by the same number, whatever is tested after it; else what is tested after it decides
module _ (l : Limits) (d : InputData) (b : Beside) (rest : ℕ) where
  pub day_refused : (r : Refusal) → number r ≡ day_number l d b 0 → number r ≡ day_number l d b rest
  day_refused r p = number_refused l d b rest p (some_number r)

  pub day_passed : {n : ℕ} → 0 ≡ day_number l d b 0 → n ≡ rest → n ≡ day_number l d b rest
  day_passed p q = number_else l d b rest p refl q
