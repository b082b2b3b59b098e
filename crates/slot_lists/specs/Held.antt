-- Check 12's first part: the slot lists hold exactly the choices of a schedule, once each. SPEC 5.12. Definitions only.
use Rattle.std.specs.Prelude.{ℕ, Bool, not, List, eqb}
use Rattle.counting.specs.Fold.{gate, any_to}
use Rattle.counting.specs.Holds.{times}
use Rattle.slot_lists.specs.Lists.{listed}
use Rattle.slot_lists.specs.Sums.{in_slot, weighed, one}

-- how often choice k stands in the list of slot s, which is as long as the schedule has choices there
abbrev pub occurs : ℕ → (ℕ → ℕ) → ℕ → List ℕ → ℕ → ℕ → ℕ
occurs stride f n l s k = times (weighed one f n s) (listed stride l s) k

-- 12. some list does not hold exactly the choices of the schedule once each
abbrev pub wrong_at : ℕ → (ℕ → ℕ) → ℕ → List ℕ → ℕ → ℕ → Bool
wrong_at stride f n l s k = not (eqb (occurs stride f n l s k) (gate (in_slot f s k) 1))

abbrev pub wrong_in : ℕ → (ℕ → ℕ) → ℕ → List ℕ → ℕ → Bool
wrong_in stride f n l s = any_to n (wrong_at stride f n l s)

unfoldable pub misheld : ℕ → (ℕ → ℕ) → ℕ → ℕ → List ℕ → Bool
misheld stride f n slots l = any_to slots (wrong_in stride f n l)
