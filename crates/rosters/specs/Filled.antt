-- A lent roster whose front is filled. Definitions only.
use Rattle.std.specs.Prelude.{ℕ, ◌+◌, ◌≡◌, List, set}
use Rattle.counting.specs.WrittenLaws.{Put, one_buffer}
use Rattle.rosters.specs.declared.roster.Filled.{Filled}

-- the same roster with l in it, of which so much is used
abbrev pub filled_with : Filled → List ℕ → ℕ → Filled
filled_with f l n = record { roster = record f.roster { now = l }; used = n }

-- a value was listed after those that were there
abbrev pub pushed : Filled → ℕ → Filled
pushed f v = filled_with f (set f.roster.now f.used v) (f.used + 1)

-- these values were
pub record Lists (f : Filled) (vs : List ℕ) (g : Filled) : Type 0 where
  pub put : Put (one_buffer ℕ) f.roster.now f.used vs g.roster.now g.used
  pub same : g ≡ filled_with f g.roster.now g.used
