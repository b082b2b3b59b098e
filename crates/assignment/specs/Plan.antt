-- A plan read by chooser and slot (the Rust's Assignment), check 13, and rosters: SPEC 1.5, 3.13, 8.1 to 8.6. Definitions only.
use Rattle.std.specs.Prelude.{ℕ, ◌+◌, ◌*◌, Bool, not, ◌||◌, List, [], ◌∷◌, eqb, ltb, leb}
use Rattle.counting.specs.Fold.{any_to, only_if, join_to, gate, table_to}
use Rattle.scheduling.specs.Schedule.{entry_at}

-- chooser c's seat in slot s; `slots` is the count of the day's slots
abbrev pub choice_of : ℕ → List ℕ → ℕ → ℕ → ℕ
choice_of slots plan c s = entry_at plan (c * slots + s)

-- choice k has a slot
abbrev pub is_scheduled : List ℕ → ℕ → Bool
is_scheduled sch k = not (eqb (entry_at sch k) 0)

-- 13. an entry that is no choice
abbrev pub no_choice : ℕ → List ℕ → ℕ → Bool
no_choice choices plan i = leb choices (entry_at plan i)

-- .. or a choice that the schedule gives no slot
abbrev pub unseated : ℕ → List ℕ → List ℕ → ℕ → Bool
unseated choices sch plan i = no_choice choices plan i || eqb (entry_at sch (entry_at plan i)) 0

-- 13 of a plan of so many seats, by a call that has no schedule
unfoldable pub bad_plan : ℕ → ℕ → List ℕ → Bool
bad_plan choices seats plan = any_to seats (no_choice choices plan)

-- 13 of a plan beside its schedule
unfoldable pub bad_plan_for : ℕ → ℕ → List ℕ → List ℕ → Bool
bad_plan_for choices seats sch plan = any_to seats (unseated choices sch plan)

-- a plan as it is handed back: 0 past the last seat
abbrev pub kept_seat : ℕ → List ℕ → ℕ → ℕ
kept_seat seats plan i = gate (ltb i seats) (entry_at plan i)

abbrev pub kept_plan : ℕ → List ℕ → List ℕ
kept_plan seats plan = table_to 512 (kept_seat seats plan)

-- ---- rosters

-- v once for each slot in which a row's seat is choice k; the row begins at `base`
abbrev pub is_seat : List ℕ → ℕ → ℕ → ℕ → Bool
is_seat plan base k s = eqb (entry_at plan (base + s)) k

abbrev pub seat_once : List ℕ → ℕ → ℕ → ℕ → ℕ → List ℕ
seat_once plan base k v s = only_if (is_seat plan base k s) (v ∷ [])

unfoldable pub row : ℕ → List ℕ → ℕ → ℕ → ℕ → List ℕ
row slots plan base k v = join_to slots (seat_once plan base k v)

-- choosers_ordered: the choosers upward, each once for each slot in which it is in the choice
abbrev pub roster_row : ℕ → List ℕ → ℕ → ℕ → List ℕ
roster_row slots plan k c = row slots plan (c * slots) k c

unfoldable pub choosers_ordered : ℕ → ℕ → List ℕ → ℕ → List ℕ
choosers_ordered choosers slots plan k = join_to choosers (roster_row slots plan k)

-- choices_ordered: the choices upward, each once for each slot in which the chooser has it
abbrev pub choice_row : ℕ → List ℕ → ℕ → ℕ → List ℕ
choice_row slots plan c k = row slots plan (c * slots) k k

unfoldable pub choices_ordered : ℕ → ℕ → List ℕ → ℕ → List ℕ
choices_ordered choices slots plan c = join_to choices (choice_row slots plan c)

-- is_in_choice: the chooser has the choice in some slot
unfoldable pub is_in_choice : ℕ → List ℕ → ℕ → ℕ → Bool
is_in_choice slots plan c k = any_to slots (is_seat plan (c * slots) k)
