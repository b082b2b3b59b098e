-- The slots' lists as a call carries them, once choices have moved: SPEC 5.5 to 5.9. Definitions only.
use Rattle.std.specs.Prelude.{ℕ, ◌≡◌, cond, List, eqb}
use Rattle.scheduling.specs.Schedule.{entry_at}
use Rattle.slot_lists.specs.SumsLaws.{AreSums, less, more}
use Rattle.slot_lists.specs.Walk.{leaves, joins, carried}
use Rattle.slot_lists.specs.declared.SlotSums.{SlotSums}
use Rattle.carried_lists.specs.declared.CarriedLists.{CarriedLists}

-- the same lent lists, with these bytes and sums in them
abbrev pub holding : CarriedLists → List ℕ → SlotSums → CarriedLists
holding c l s = record c { bytes = record c.bytes { now = l }; sums = record c.sums { now = s } }

-- choice k of weight w has left the list of the slot that an entry names, or has joined it at its end
abbrev pub departed : CarriedLists → ℕ → ℕ → ℕ → CarriedLists
departed c e k w = holding c (leaves c.stride e (entry_at c.sums.now.lens) k c.bytes.now) (less e w c.sums.now)

abbrev pub arrived : CarriedLists → ℕ → ℕ → ℕ → CarriedLists
arrived c e k w = holding c (joins c.stride e (entry_at c.sums.now.lens) k c.bytes.now) (more e w c.sums.now)

-- a visit of choice k: nothing where old and new slot agree
abbrev pub visited : CarriedLists → ℕ → ℕ → ℕ → ℕ → CarriedLists
visited c old new k w = cond (eqb old new) c (arrived (departed c old k w) new k w)

-- the walk leaves the buffer by the definition, and the sums of the new schedule
pub record ListsCarried (n : ℕ) (old new mins : List ℕ) (c c' : CarriedLists) : Type 0 where
  pub lists : c' ≡ holding c (carried c.stride (entry_at old) (entry_at new) n c.bytes.now n) c'.sums.now
  pub sums : AreSums (entry_at mins) (entry_at new) n c'.sums.now
