-- Sums per slot: of 1 they are the lengths of the lists, of the mins they are the covered counts. SPEC 5.2, 5.4. Definitions only.
use Rattle.std.specs.Prelude.{ℕ, suc, Bool, eqb, replicate}
use Rattle.counting.specs.Fold.{gate, sum_to}
use Rattle.slot_lists.specs.declared.SlotSums.{SlotSums}

-- an entry names slot s
abbrev pub in_slot : (ℕ → ℕ) → ℕ → ℕ → Bool
in_slot f s k = eqb (f k) (suc s)

-- the weight of choice k where it is in slot s
abbrev pub weight_at : (ℕ → ℕ) → (ℕ → ℕ) → ℕ → ℕ → ℕ
weight_at w f s k = gate (in_slot f s k) (w k)

-- the weights of the choices below n that the schedule f puts into slot s
abbrev pub weighed : (ℕ → ℕ) → (ℕ → ℕ) → ℕ → ℕ → ℕ
weighed w f n s = sum_to n (weight_at w f s)

abbrev pub one : ℕ → ℕ
one k = 1

-- the schedule in which no choice has a slot
abbrev pub nowhere : ℕ → ℕ
nowhere k = 0

abbrev pub no_sums : SlotSums
no_sums = record { lens = replicate 8 0; covered = replicate 8 0 }
