-- What the walks that fill a roster ask, and their laws. Definitions and their laws.
use Rattle.std.specs.Prelude.{Result, Ok, Err, IsErrAnd, ℕ, suc, ◌+◌, ◌*◌, ◌<◌, ◌≤◌, ◌≡◌, refl, Bool, true, false, List, [], ◌∷◌, ◌≢◌, eqb, ltb, leb, length, set}
use Rattle.std.proofs.Common.{sym, ap, ◌∙◌, zero-add, arith, eq-eqb, ne_eqb, leb-false, ltb-false}
use Rattle.counting.specs.FoldLaws.{fold_suc, fold_ext}
use Rattle.counting.specs.Fold.{gate, sum_to, only_if, join_to}
use Rattle.counting.specs.Lists.{length_join, length_join_most, only_length}
use Rattle.counting.specs.Sums.{sum_mono, sum_swap, sum_pick, sum_most}
use Rattle.counting.specs.Tests.{bool_cases, eqb_sym}
use Rattle.counting.specs.WrittenLaws.{Put, one_buffer, put_none, put_step, put_all, put_eq, put_length, written_one}
use Rattle.input_data.specs.Bytes.{lent_number}
use Rattle.input_data.specs.Lengths.{Within, roster_length}
use Rattle.input_data.specs.declared.Limits.{Limits}
use Rattle.input_data.specs.declared.InputData.{InputData}
use Rattle.scheduling.specs.Schedule.{entry_at}
use Rattle.assignment.specs.Plan.{is_seat, seat_once, row, roster_row, choosers_ordered, choice_row, choices_ordered}
use Rattle.refusal.specs.Number.{number, outcome}
use Rattle.refusal.specs.Laws.{some_number}
use Rattle.refusal.specs.declared.Refusal.{Refusal}
use Rattle.input_data.specs.Bytes.{day_of}
use Rattle.input_data.specs.Read.{day_read}
use Rattle.input_data.specs.ReadLaws.{read_ok}
use Rattle.assignment.specs.Inside.{row_end}
use Rattle.assignment.specs.Rows.{SeatsOf}
use Rattle.assignment.specs.declared.rows.Seats.{Seats}
use Rattle.assignment.specs.Laws.{plan_number_lem, exit_refused, unread, plan_read}
use Rattle.rosters.specs.Calls.{short_roster, roster_answer}
use Rattle.rosters.specs.Answered.{roster_answered}
use Rattle.rosters.specs.Rows.{row_of, run_of, roster_of, roster_number, is_outside, Rostered}
use Rattle.rosters.specs.Filled.{filled_with, pushed, Lists}
use Rattle.rosters.specs.declared.roster.Filled.{Filled}
use Rattle.rosters.specs.declared.roster.Roster.{Roster}
use Rattle.rosters.specs.declared.roster.Roster.TheVariants.{ChoosersOf, ChoicesOf}
use Rattle.rosters.specs.declared.roster.Row.{Row}

-- how many may be listed, by the seats
abbrev pub rows_in : Roster → Seats → ℕ
rows_in (ChoosersOf k) s = s.choosers
rows_in (ChoicesOf c) s = s.choices

-- whose row the i-th of them is
abbrev pub chooser_in : Roster → ℕ → ℕ
chooser_in (ChoosersOf k) i = i
chooser_in (ChoicesOf c) i = c

-- what the rows list
abbrev pub listed : Roster → Seats → List ℕ
listed (ChoosersOf k) s = choosers_ordered s.choosers s.slots s.plan.now k
listed (ChoicesOf c) s = choices_ordered s.choices s.slots s.plan.now c

-- a row of the plan, and room for what it adds
pub record RowIn (s : Seats) (r : Row) (at size : ℕ) : Type 0 where
  pub inside : r.base + s.slots ≤ length s.plan.now
  pub room : at + length (run_of s.slots s.plan.now r) ≤ size

-- the rows of a roster are choosers', and there is room for all that they add
pub record RosterIn (of : Roster) (s : Seats) (size : ℕ) : Type 0 where
  pub few : rows_in of s ≤ 64
  pub chooser : (i : ℕ) → i < rows_in of s → chooser_in of i < s.choosers
  pub room : length (listed of s) ≤ size

-- ---- one value

-- a value is stored where the test holds, and nothing elsewhere
pub put_one : {b : Bool} (v : ℕ) (d : List ℕ) (at : ℕ) → b ≡ true → Put (one_buffer ℕ) d at (only_if b (v ∷ [])) (set d at v) (at + 1)
put_one v d at e = rw e (record { count = refl; holds = sym (written_one d at v) })

pub put_no : {b : Bool} (v : ℕ) (d : List ℕ) (at : ℕ) → b ≡ false → Put (one_buffer ℕ) d at (only_if b (v ∷ [])) d at
put_no v d at e = rw e (put_none (one_buffer ℕ) d at)

-- ---- room

-- what one run of a join adds still fits where all do
pub join_room : {A : Type 0} (n : ℕ) (f : ℕ → List A) (i : ℕ) → i < n → length (join_to i f) + length (f i) ≤ length (join_to n f)
join_room n f i h = omega (arith, length_join i f, length_join n f, fold_suc ◌+◌ 0 i (λ k. length (f k)), sum_mono (suc i) n (λ k. length (f k)) h)

-- the next run of a join that a walk stores has room
pub run_room : {A : Type 0} {n i at₀ at : ℕ} (f : ℕ → List A) {d₀ d : List A} → i < n → Put (one_buffer A) d₀ at₀ (join_to i f) d at → at₀ + length (join_to n f) ≤ length d₀ → at + length (f i) ≤ length d
run_room {n = n} {i = i} f h p room = omega (arith, p.count, put_length p, join_room n f i h)

-- a row has at most one entry a slot
row_most : (slots : ℕ) (plan : List ℕ) (base k v : ℕ) → length (row slots plan base k v) ≤ slots
unfolding row
row_most slots plan base k v = omega (arith, length_join_most slots 1 (seat_once plan base k v) (λ s. only_length (is_seat plan base k s) v))

-- a roster has at most one entry a seat
pub choosers_most : (choosers slots : ℕ) (plan : List ℕ) (k : ℕ) → length (choosers_ordered choosers slots plan k) ≤ choosers * slots
unfolding choosers_ordered
choosers_most choosers slots plan k = length_join_most choosers slots (roster_row slots plan k) (λ c. row_most slots plan (c * slots) k c)

-- a row counts the seats that are choice k
row_count : (slots : ℕ) (plan : List ℕ) (base k v : ℕ) → length (row slots plan base k v) ≡ sum_to slots (λ s. gate (eqb k (entry_at plan (base + s))) 1)
unfolding row
row_count slots plan base k v = length_join slots (seat_once plan base k v) ∙ fold_ext ◌+◌ 0 slots (λ s. length (seat_once plan base k v s)) (λ s. gate (eqb k (entry_at plan (base + s))) 1)
    (λ s h. rw (eqb_sym k (entry_at plan (base + s))) (counted (is_seat plan base k s)))
  where
    counted : (b : Bool) → length (only_if b (v ∷ [])) ≡ gate b 1
    counted true = refl
    counted false = refl

-- a chooser has at most one choice a slot
pub choices_most : (choices slots : ℕ) (plan : List ℕ) (c : ℕ) → length (choices_ordered choices slots plan c) ≤ slots
unfolding choices_ordered
choices_most choices slots plan c =
    let f : ℕ → ℕ → ℕ = λ k s. gate (eqb k (entry_at plan (c * slots + s))) 1 in
    let e : length (choices_ordered choices slots plan c) ≡ sum_to slots (λ s. sum_to choices (λ k. f k s)) =
    length_join choices (choice_row slots plan c) ∙ fold_ext ◌+◌ 0 choices (λ k. length (choice_row slots plan c k)) (λ k. sum_to slots (λ s. f k s)) (λ k h. row_count slots plan (c * slots) k k) ∙ sum_swap choices slots f in
    omega (arith, e, sum_most slots 1 (λ s. sum_to choices (λ k. f k s)) (λ s h. at_most (entry_at plan (c * slots + s))))
  where
    at_most : (m : ℕ) → sum_to choices (λ k. gate (eqb k m) 1) ≤ 1
    at_most m = rw (sum_pick choices (λ k. 1) m) (bool_cases (ltb m choices) (λ e. rw e (omega arith)) (λ e. rw e (omega arith)))

-- ---- a row

-- v once where the row's seat in slot s is its choice
abbrev pub seat_of : List ℕ → Row → ℕ → List ℕ
seat_of plan r s = seat_once plan r.base r.choice r.value s

-- a seat that is the choice: its value has room, and is stored
pub seat_room : (seats : Seats) (r : Row) {at s to : ℕ} {d₀ d : List ℕ} → RowIn seats r at (length d₀) → s < seats.slots → Put (one_buffer ℕ) d₀ at (join_to s (seat_of seats.plan.now r)) d to → entry_at seats.plan.now (r.base + s) ≡ r.choice → to < length d
unfolding row
seat_room seats r {s = s} q h p e = omega (arith, rw (eq-eqb (entry_at seats.plan.now (r.base + s)) r.choice e) at (run_room (seat_of seats.plan.now r) h p q.room))

pub seat_more : (plan : List ℕ) (r : Row) (s : ℕ) {at to : ℕ} {d₀ d : List ℕ} → Put (one_buffer ℕ) d₀ at (join_to s (seat_of plan r)) d to → entry_at plan (r.base + s) ≡ r.choice → Put (one_buffer ℕ) d₀ at (join_to (s + 1) (seat_of plan r)) (set d to r.value) (to + 1)
seat_more plan r s {to = to} {d = d} p e = put_step (seat_of plan r) p (put_one r.value d to (eq-eqb (entry_at plan (r.base + s)) r.choice e))

-- any other seat adds nothing
pub seat_skip : (plan : List ℕ) (r : Row) (s : ℕ) {at to : ℕ} {d₀ d : List ℕ} → Put (one_buffer ℕ) d₀ at (join_to s (seat_of plan r)) d to → entry_at plan (r.base + s) ≢ r.choice → Put (one_buffer ℕ) d₀ at (join_to (s + 1) (seat_of plan r)) d to
seat_skip plan r s {to = to} {d = d} p e = put_step (seat_of plan r) p (put_no r.value d to (ne_eqb (entry_at plan (r.base + s)) r.choice e))

pub seat_listed : (plan : List ℕ) (r : Row) (s : ℕ) {f g : Filled} → Lists f (join_to s (seat_of plan r)) g → entry_at plan (r.base + s) ≡ r.choice → Lists f (join_to (s + 1) (seat_of plan r)) (pushed g r.value)
seat_listed plan r s {g = g} p e = record { put = seat_more plan r s p.put e; same = ap (λ h. filled_with h (set g.roster.now g.used r.value) (g.used + 1)) p.same }

pub seat_passed : (plan : List ℕ) (r : Row) (s : ℕ) {f g : Filled} → Lists f (join_to s (seat_of plan r)) g → entry_at plan (r.base + s) ≢ r.choice → Lists f (join_to (s + 1) (seat_of plan r)) g
seat_passed plan r s p e = record { put = seat_skip plan r s p.put e; same = p.same }

-- ---- a roster

-- what the i-th row adds
abbrev pub run_at : Roster → Seats → ℕ → List ℕ
run_at of s i = run_of s.slots s.plan.now (row_of of s.slots i)

pub runs : (of : Roster) (s : Seats) → join_to (rows_in of s) (run_at of s) ≡ listed of s
unfolding choosers_ordered choices_ordered
runs (ChoosersOf k) s = refl
runs (ChoicesOf c) s = refl

-- each is the row of a chooser
row_base : (of : Roster) (slots i : ℕ) → (row_of of slots i).base ≡ chooser_in of i * slots
row_base (ChoosersOf k) slots i = refl
row_base (ChoicesOf c) slots i = refl

-- the next row has room
pub row_in : (of : Roster) (s : Seats) {i at : ℕ} {r : Row} {b₀ b : List ℕ} → RosterIn of s (length b₀) → i < rows_in of s → Put (one_buffer ℕ) b₀ 0 (join_to i (run_at of s)) b at → r ≡ row_of of s.slots i → RowIn s r at (length b)
row_in of s {i = i} p h q e = rw e (record {
  inside = omega (arith, row_base of s.slots i, row_end s.slots (p.chooser i h), s.inside.inside);
  room = run_room (run_at of s) h q (omega (arith, ap length (runs of s), p.room));
})

pub rows_more : (of : Roster) (s : Seats) (i : ℕ) {at to : ℕ} {r : Row} {b₀ b b' : List ℕ} → Put (one_buffer ℕ) b₀ 0 (join_to i (run_at of s)) b at → r ≡ row_of of s.slots i → Put (one_buffer ℕ) b at (run_of s.slots s.plan.now r) b' to → Put (one_buffer ℕ) b₀ 0 (join_to (i + 1) (run_at of s)) b' to
rows_more of s i p e q = put_step (run_at of s) p (rw e at q)

pub rows_all : (of : Roster) (s : Seats) (n i : ℕ) {at : ℕ} {b₀ b : List ℕ} → n ≡ rows_in of s → n ≤ i → i ≤ n → Put (one_buffer ℕ) b₀ 0 (join_to i (run_at of s)) b at → Put (one_buffer ℕ) b₀ 0 (listed of s) b at
rows_all of s n i e h g p = put_eq (runs of s) (put_all (run_at of s) (omega arith) p)

-- the rows of a day's seats list its roster
pub listed_is : (of : Roster) {d : InputData} {plan : List ℕ} {s : Seats} → SeatsOf d plan s → listed of s ≡ roster_of of d plan
listed_is (ChoosersOf k) q = rw (q.choosers, q.slots, q.bytes) refl
listed_is (ChoicesOf c) q = rw (q.choices, q.slots, q.bytes) refl

-- accepted input has room for it
pub roster_in : (l : Limits) (d : InputData) (plan : List ℕ) (of : Roster) (size : ℕ) (s : Seats) → Within l → roster_number l d plan of size ≡ 0 → SeatsOf d plan s → RosterIn of s size
roster_in l d plan (ChoosersOf k) size s w e q =
    let p = plan_number_lem l d plan (short_roster l size) (leb d.choices k) w e in
    record {
      few = s.inside.few;
      chooser = λ i h. h;
      room = omega (arith, ap length (listed_is (ChoosersOf k) q), choosers_most d.choosers d.slots plan k, p.seats_in, ltb-false size (roster_length l) p.long);
    }
roster_in l d plan (ChoicesOf c) size s w e q =
    let p = plan_number_lem l d plan (short_roster l size) (leb d.choosers c) w e in
    let h : c < d.choosers = leb-false d.choosers c p.inside in
    record {
      few = omega (arith, q.choices, p.day.choices, w.choices);
      chooser = λ i b. omega (arith, q.choosers, h);
      room = omega (arith, ap length (listed_is (ChoicesOf c) q), choices_most d.choices d.slots plan c, row_end d.slots h, p.seats_in, ltb-false size (roster_length l) p.long);
    }

-- ---- what a call leaves

module _ (l : Limits) (day plan : List ℕ) (of : Roster) (before : List ℕ) where
  refuses : (res : Result ℕ Refusal) (r : Refusal) → IsErrAnd res (λ y. y ≡ r) → number r ≡ lent_number l day false (roster_number l (day_of day) plan of (length before)) → Rostered l day plan of before before (roster_answered res)
  refuses res r h e =
      let q : lent_number l day false (roster_number l (day_of day) plan of (length before)) ≢ 0 = λ z. some_number r (e ∙ z) in
      record { leaves = record { gives = exit_refused roster_answered (λ n. roster_answer n 0) (λ y. refl) res r _ _ h e; leaves = rw (ne_eqb _ 0 q) } }

  pub roster_unread : (res : Result ℕ Refusal) (r : Refusal) → Err r ≡ day_read day → IsErrAnd res (λ y. y ≡ r) → Rostered l day plan of before before (roster_answered res)
  roster_unread res r e h = refuses res r h (unread l day false _ e)

  pub roster_refused : (d : InputData) {T : Type 0} (q : Result T Refusal) (res : Result ℕ Refusal) (r : Refusal) → q ≡ Err r → IsErrAnd res (λ y. y ≡ r) → Ok d ≡ day_read day → outcome q ≡ roster_number l d plan of (length before) → Rostered l day plan of before before (roster_answered res)
  roster_refused d q res r f h e p = refuses res r h (plan_read l day plan (short_roster l (length before)) (is_outside of) e (rw f at p))

  pub roster_done : (d : InputData) {s : Seats} {at : ℕ} {after : List ℕ} → Ok d ≡ day_read day → 0 ≡ roster_number l d plan of (length before) → SeatsOf d plan s → Put (one_buffer ℕ) before 0 (listed of s) after at → Rostered l day plan of before after (roster_answer 0 at)
  roster_done d e p t v =
      let q = put_eq (listed_is of t) v in
      let z : lent_number l day false (roster_number l (day_of day) plan of (length before)) ≡ 0 = sym (plan_read l day plan (short_roster l (length before)) (is_outside of) e p) in
      record { leaves = rw (z, ← (read_ok day e).1) (record { gives = ap (roster_answer 0) (q.count ∙ zero-add _); leaves = q.holds }) }
