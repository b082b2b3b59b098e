-- The walk from one schedule to the next: SPEC 5.5 to 5.9. A schedule is a function from choices to entries: 0 is none, s + 1 is slot s. Definitions only.
use Rattle.std.specs.Prelude.{ℕ, ◌+◌, ◌*◌, cond, List, eqb, ltb, set}
use Rattle.counting.specs.Fold.{fold_to}
use Rattle.scheduling.specs.Schedule.{of_entry}
use Rattle.slot_lists.specs.Lists.{left_by}
use Rattle.slot_lists.specs.Sums.{weighed, one, nowhere}

-- where choice j is while choice k is visited: the choices below k have moved
abbrev pub midway : (ℕ → ℕ) → (ℕ → ℕ) → ℕ → ℕ → ℕ
midway old new k j = cond (ltb j k) (new j) (old j)

-- how long the list of slot s is then
abbrev pub length_at : (ℕ → ℕ) → (ℕ → ℕ) → ℕ → ℕ → ℕ → ℕ
length_at old new n k s = weighed one (midway old new k) n s

-- choice k leaves the list of the slot that an entry names, or joins it at its end
abbrev pub leaves : ℕ → ℕ → (ℕ → ℕ) → ℕ → List ℕ → List ℕ
leaves stride e len k l = of_entry e l (λ s. left_by stride s (len s) k l)

abbrev pub joins : ℕ → ℕ → (ℕ → ℕ) → ℕ → List ℕ → List ℕ
joins stride e len k l = of_entry e l (λ s. set l (stride * s + len s) k)

-- a visit of choice k: nothing where old and new slot agree
unfoldable pub visit : ℕ → (ℕ → ℕ) → (ℕ → ℕ) → ℕ → List ℕ → ℕ → List ℕ
visit stride old new n l k =
    cond (eqb (old k) (new k)) l
    (joins stride (new k) (length_at old new n k) k (leaves stride (old k) (length_at old new n k) k l))

-- the buffer l once the choices below i of n have been visited, upward
unfoldable pub carried : ℕ → (ℕ → ℕ) → (ℕ → ℕ) → ℕ → List ℕ → ℕ → List ℕ
unfolding visit
carried stride old new n l i = fold_to (visit stride old new n) l i (λ k. k)

-- a fresh build is the walk from the schedule in which no choice has a slot: it appends each choice to its slot's list
abbrev pub built : ℕ → (ℕ → ℕ) → ℕ → List ℕ → List ℕ
built stride new n l = carried stride nowhere new n l n
