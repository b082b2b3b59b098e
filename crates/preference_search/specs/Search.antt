-- The preference search, whole, as a function of the answers that it is given in order, and the most asks that it makes: SPEC 9.2 to 9.9, 9.11, 9.20. Definitions only.
use Rattle.std.specs.Prelude.{ℕ, ◌+◌, ◌-◌, ◌/◌, ◌^◌, min, Bool, true, false, cond, List, [], ◌∷◌, eqb, ltb, leb, length, get_or, replicate}
use Rattle.assignment.specs.Plan.{kept_plan}
use Rattle.counting.specs.Search.{first_to}
use Rattle.preference_search.specs.declared.Known.{Known}

-- what a solver answers to an ask
pub data LimitSolveResult : Type 0 where
  Feasible : LimitSolveResult
  Infeasible : LimitSolveResult
  Incomplete : LimitSolveResult

-- such an answer with the plan beside it, which is read where it is feasible
pub record Told : Type 0 where
  pub result : LimitSolveResult
  pub plan : List ℕ

-- an ask for a plan at a level, which has this index; a greedy ask has index 0
pub record Ask : Type 0 where
  pub index : ℕ
  pub level : ℕ

-- what a search has done with the answers: its asks in order, what it knows, and whether it is over; one that is not waits for the answer to its last ask
pub record Outcome : Type 0 where
  pub asks : List Ask
  pub known : Known
  pub over : Bool

module _ {ℓ} {A : Type ℓ} where
  abbrev pub of_result : LimitSolveResult → A → A → A → A
  of_result Feasible feasible infeasible incomplete = feasible
  of_result Infeasible feasible infeasible incomplete = infeasible
  of_result Incomplete feasible infeasible incomplete = incomplete

abbrev pub told : LimitSolveResult → List ℕ → Told
told r p = record { result = r; plan = p }

abbrev pub is_feasible : LimitSolveResult → Bool
is_feasible r = of_result r true false false

-- what is known: the best plan so far, the level at which it was found, and the optimal mark
abbrev pub known : Bool → ℕ → List ℕ → Bool → Known
known f v p o = record { found = f; level = v; plan = p; optimal = o }

-- nothing is known; the mark of a search over levels starts set
abbrev pub nothing : Known
nothing = known false 0 (replicate 512 0) true

-- what a plan says that was found at a level
abbrev pub found_at : ℕ → ℕ → List ℕ → Bool → Known
found_at seats level plan mark = known true level (kept_plan seats plan) mark

-- the same with this mark
abbrev pub marked : Known → Bool → Known
marked k o = known k.found k.level k.plan o

-- Feasible: its plan is the best so far. Incomplete clears the mark
abbrev pub learnt : ℕ → ℕ → Known → Told → Known
learnt seats level k t = of_result t.result (found_at seats level t.plan k.optimal) k (marked k false)

-- greedy: optimal only where Feasible
abbrev pub learnt_greedy : ℕ → ℕ → Told → Known
learnt_greedy seats level t = of_result t.result (found_at seats level t.plan true) (marked nothing false) (marked nothing false)

abbrev pub ask_at : ℕ → ℕ → Ask
ask_at m level = record { index = m; level = level }

abbrev pub ended : Known → Outcome
ended k = record { asks = []; known = k; over = true }

abbrev pub waiting : Ask → Known → Outcome
waiting a k = record { asks = a ∷ []; known = k; over = false }

abbrev pub asked : Ask → Outcome → Outcome
asked a o = record { asks = a ∷ o.asks; known = o.known; over = o.over }

-- ---- the search over levels

abbrev pub level_at : List ℕ → ℕ → ℕ
level_at levels m = get_or levels m 0

-- the first level at or above the bound, else the last index
abbrev pub reaches : List ℕ → ℕ → ℕ → Bool
reaches levels bound m = leb bound (level_at levels m)

unfoldable pub start_of : List ℕ → ℕ → ℕ
start_of levels bound = min (first_to (length levels) (reaches levels bound)) (length levels - 1)

-- rounded down
unfoldable pub middle : ℕ → ℕ → ℕ
middle low high = low + (high - low) / 2

-- Feasible at the start ends the search
abbrev pub ends_at : ℕ → ℕ → LimitSolveResult → Bool
ends_at start m r = of_result r (eqb m start) false false

-- Feasible: high is one below. Infeasible or Incomplete: low is one above
abbrev pub low_after : ℕ → ℕ → LimitSolveResult → ℕ
low_after low m r = of_result r low (m + 1) (m + 1)

abbrev pub high_after : ℕ → ℕ → LimitSolveResult → ℕ
high_after high m r = of_result r (m - 1) high high

-- while low ≤ high, ask at the middle
unfoldable pub search_from : List ℕ → ℕ → ℕ → ℕ → ℕ → Known → List Told → Outcome
search_from levels seats start low high k [] =
    cond (ltb high low) (ended k) (waiting (ask_at (middle low high) (level_at levels (middle low high))) k)
search_from levels seats start low high k (t ∷ ts) =
    cond (ltb high low) (ended k)
    (asked (ask_at (middle low high) (level_at levels (middle low high)))
    (cond (ends_at start (middle low high) t.result)
    (ended (learnt seats (level_at levels (middle low high)) k t))
    (search_from levels seats start (low_after low (middle low high) t.result) (high_after high (middle low high) t.result) (learnt seats (level_at levels (middle low high)) k t) ts)))

-- no levels: it ends with nothing and no ask
unfoldable pub search_levels : List ℕ → ℕ → ℕ → List Told → Outcome
search_levels levels bound seats ts =
    cond (eqb (length levels) 0) (ended nothing)
    (search_from levels seats (start_of levels bound) (start_of levels bound) (length levels - 1) nothing ts)

-- ---- a greedy search asks once, at max_preference; while it waits it has no mark

unfoldable pub search_greedy : ℕ → ℕ → List Told → Outcome
search_greedy most seats [] = waiting (ask_at 0 most) (marked nothing false)
search_greedy most seats (t ∷ ts) = asked (ask_at 0 most) (ended (learnt_greedy seats most t))

-- ---- either

abbrev pub searched : Bool → List ℕ → ℕ → ℕ → ℕ → List Told → Outcome
searched greedy levels bound most seats ts = cond greedy (search_greedy most seats ts) (search_levels levels bound seats ts)

-- ---- the most asks that a search makes

-- the number of binary digits: the least k with n below 2 ^ k
unfoldable pub binary_digits : ℕ → ℕ
binary_digits n = first_to (n + 1) (λ k. ltb n (2 ^ k))

-- over levels, the binary digits of the count of levels from the start to the last, both included; `count` is of all levels
abbrev pub most_asks : Bool → ℕ → ℕ → ℕ
most_asks greedy count start = cond greedy 1 (binary_digits (count - start))
