-- A slot's list in its part of the buffer, which begins at stride × slot: SPEC 5.4, 5.7. Definitions only.
use Rattle.std.specs.Prelude.{ℕ, ◌+◌, ◌-◌, ◌*◌, Bool, cond, List, eqb, ltb, get_or, set}
use Rattle.counting.specs.Search.{first_to}

-- entry j of slot s
abbrev pub listed : ℕ → List ℕ → ℕ → ℕ → ℕ
listed stride l s j = get_or l (stride * s + j) 0

abbrev pub is_listed : ℕ → List ℕ → ℕ → ℕ → ℕ → Bool
is_listed stride l s k j = eqb (listed stride l s j) k

-- the place of choice k among the first `len` entries of slot s, or `len`
abbrev pub place_of : ℕ → ℕ → ℕ → ℕ → List ℕ → ℕ
place_of stride s len k l = first_to len (is_listed stride l s k)

-- the buffer once choice k has left the list of slot s, of `len` entries: the last one moves into its place
unfoldable pub left_by : ℕ → ℕ → ℕ → ℕ → List ℕ → List ℕ
left_by stride s len k l = cond (ltb (place_of stride s len k l) len) (set l (stride * s + place_of stride s len k l) (listed stride l s (len - 1))) l
