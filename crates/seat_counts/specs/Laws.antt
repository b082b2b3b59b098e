-- What the walks over a plan's seats ask, and their laws. Definitions and their laws.
use Prim.Native.Nat.{ℕ, zero, suc, ◌+◌, ◌*◌, ◌<◌, ◌≤◌, max}
use Rattle.std.specs.Prelude.{◌≡◌, refl, Bool, true, false, ◌&&◌, ◌||◌, ◌≢◌, List, eqb, pos, Float, length, get_or, set, take, replicate}
use Rattle.std.proofs.Math.Path.{sym, ap}
use Rattle.std.proofs.Common.{ap₂, ◌∙◌, suc-mul, mul-le-mul, mul-le-mul_right, le_refl, arith, length-take-le, get_or-take, get_or-set_same, get_or-set_other, eq-eqb, ne_eqb}
use Rattle.std.proofs.Math.Bool.{not, or-true, or-false}
use Rattle.std.specs.Float.{nan, fin, binary32}
use Rattle.std.specs.Float.Ieee.{add, mul, div, of_int}
use Rattle.std.proofs.Math.ListN.{length-set, get_or-replicate, get_or-eq_default}
use Rattle.assignment.specs.Plan.{choice_of}
use Rattle.counting.specs.Fold.{gate, sum_to, count_to, all_to, any_to, fold_to}
use Rattle.counting.specs.FoldLaws.{fold_none, fold_more, fold_ext}
use Rattle.counting.specs.Sums.{sum_most, count_le, grid_lt}
use Rattle.counting.specs.Tests.{eq_cases, lt_cases}
use Rattle.scheduling.specs.Schedule.{entry_at}
use Rattle.seat_counts.specs.Seats.{seat_entry, is_new, is_choice, part_count}
use Rattle.seat_counts.specs.Preferences.{preference_at, greatest_row, greatest, has_preference, uses_row, uses_in, uses, scaling_of, term_of, minor_to, minor_of}

-- a plan whose seats are scheduled choices: 11 and 13 have passed
pub record Seated (choosers slots : ℕ) (sch plan : List ℕ) : Type 0 where
  pub few : choosers ≤ 64
  pub short : slots ≤ 8
  pub inside : choosers * slots ≤ length plan
  pub choice : (c s : ℕ) → c < choosers → s < slots → choice_of slots plan c s < 32
  pub slot : (c s : ℕ) → c < choosers → s < slots → seat_entry slots sch plan c s ≢ 0
  pub small : (c s : ℕ) → c < choosers → s < slots → seat_entry slots sch plan c s ≤ 8

-- the same of one chooser's seats
pub record RowSeated (slots : ℕ) (sch plan : List ℕ) (c : ℕ) : Type 0 where
  pub chooser : c < 64
  pub short : slots ≤ 8
  pub inside : c * slots + slots ≤ length plan
  pub choice : (s : ℕ) → s < slots → choice_of slots plan c s < 32
  pub slot : (s : ℕ) → s < slots → seat_entry slots sch plan c s ≢ 0
  pub small : (s : ℕ) → s < slots → seat_entry slots sch plan c s ≤ 8

-- the seats of a plan are choices
pub record Choices (n : ℕ) (plan : List ℕ) : Type 0 where
  pub few : n ≤ 512
  pub inside : n ≤ length plan
  pub choice : (i : ℕ) → i < n → entry_at plan i < 32

-- an array holds how many seats each choice has
pub record Parts (n : ℕ) (plan counts : List ℕ) : Type 0 where
  pub long : length counts ≡ 32
  pub at : (k : ℕ) → k < 32 → entry_at counts k ≡ part_count n plan k

-- preferences of at most 255 for every chooser and choice, and seats that are choices
pub record Reading (choosers choices slots : ℕ) (preferences plan : List ℕ) : Type 0 where
  pub few : choosers ≤ 64
  pub kinds : choices ≤ 32
  pub short : slots ≤ 8
  pub inside : choosers * slots ≤ length plan
  pub table : choosers * choices ≤ length preferences
  pub choice : (c s : ℕ) → c < choosers → s < slots → choice_of slots plan c s < choices
  pub small : (i : ℕ) → i < length preferences → entry_at preferences i ≤ 255

-- an array holds what f says of each preference
pub record UsesHeld (f : ℕ → ℕ) (counts : List ℕ) : Type 0 where
  pub long : length counts ≡ 256
  pub at : (p : ℕ) → p < 256 → entry_at counts p ≡ f p

-- what counting a chooser's preferences asks: no count is above the seats of the choosers before
pub record Counting (choosers c : ℕ) (counts : List ℕ) : Type 0 where
  pub chooser : c < choosers
  pub long : length counts ≡ 256
  pub small : (p : ℕ) → p < 256 → entry_at counts p ≤ c * 8

-- an array in which f was added
pub record Added (f : ℕ → ℕ) (a b : List ℕ) : Type 0 where
  pub long : length b ≡ length a
  pub at : (p : ℕ) → p < 256 → entry_at b p ≡ entry_at a p + f p

-- what the minor asks: counts of at most 512, and a power for each preference
pub record Weighing (counts : List ℕ) (powers most : ℕ) : Type 0 where
  pub most_is : most ≤ 255
  pub table : most < powers
  pub small : (p : ℕ) → entry_at counts p ≤ 512

-- one element more is taken in
pub fold_next : {A : Type 0} (op : A → A → A) (start : A) (i : ℕ) (f : ℕ → A) {a b : A} → a ≡ fold_to op start i f → b ≡ f i → op a b ≡ fold_to op start (i + 1) f
fold_next op start i f p q = ap₂ op p q ∙ sym (fold_more op start i f)

-- one is added at place p
one_more : (a : List ℕ) (p k : ℕ) → p < length a → entry_at (set a p (entry_at a p + 1)) k ≡ entry_at a k + gate (eqb p k) 1
one_more a p k h = eq_cases p k
    (λ e t. rw (t, ← e) (get_or-set_same a p (entry_at a p + 1) 0 h))
    (λ e t. rw t (get_or-set_other a p k (entry_at a p + 1) 0 (λ z. e (sym z)) ∙ omega arith))

-- ---- the seats of each choice

pub parts_none : (plan : List ℕ) → Parts 0 plan (replicate 32 0)
unfolding part_count
parts_none plan = record { long = refl; at = λ k l. get_or-replicate 32 k 0 0 l ∙ sym (fold_none ◌+◌ 0 (λ i. gate (is_choice plan k i) 1)) }

pub parts_more : {i : ℕ} {plan counts : List ℕ} → Parts i plan counts → entry_at plan i < 32 → Parts (i + 1) plan (set counts (entry_at plan i) (entry_at counts (entry_at plan i) + 1))
unfolding part_count
parts_more {i = i} {plan = plan} {counts = a} p h = record {
  long = length-set a (entry_at plan i) (entry_at a (entry_at plan i) + 1) ∙ p.long;
  at = λ k l. one_more a (entry_at plan i) k (omega (arith, p.long)) ∙ rw (p.at k l, fold_more);
}

-- a walk over the first m seats, read as the front of the plan: seat i is a choice
pub seat_front : {n m i : ℕ} {plan : List ℕ} → Choices n plan → m ≡ n → i < length (take m plan) → (i < n) × (entry_at plan i < 32) × (entry_at (take m plan) i ≡ entry_at plan i)
seat_front {n = n} {m = m} {i = i} {plan = plan} c e h =
    let l : i < n = omega (arith, length-take-le m plan (omega (arith, c.inside))) in
    (l, c.choice i l, get_or-take m plan i 0 (omega arith))

pub front_all : {n m i : ℕ} {plan : List ℕ} → Choices n plan → m ≡ n → length (take m plan) ≤ i → i ≤ length (take m plan) → i ≡ n
front_all {m = m} {plan = plan} c e h g = omega (arith, length-take-le m plan (omega (arith, c.inside)))

-- no choice has more seats than there are
pub part_most : (n : ℕ) (plan : List ℕ) (k : ℕ) → part_count n plan k ≤ n
unfolding part_count
part_most n plan k = count_le n (is_choice plan k)

-- ---- the uses of each preference

-- of one chooser's first s seats
unfoldable pub uses_to : ℕ → ℕ → List ℕ → List ℕ → ℕ → ℕ → ℕ → ℕ
uses_to choices slots preferences plan c s p = count_to s (has_preference choices slots preferences plan p c)

-- of the choosers before c
unfoldable pub uses_before : ℕ → ℕ → List ℕ → List ℕ → ℕ → ℕ → ℕ
uses_before choices slots preferences plan c p = sum_to c (uses_row choices slots preferences plan p)

pub preference_small : {choosers choices slots : ℕ} {preferences plan : List ℕ} → Reading choosers choices slots preferences plan → (c s : ℕ) → c < choosers → s < slots → preference_at choices slots preferences plan c s ≤ 255
preference_small {choices = choices} {slots = slots} {plan = plan} r c s l m = r.small (c * choices + choice_of slots plan c s) (omega (arith, r.table, grid_lt l (r.choice c s l m)))

module _ (choices slots : ℕ) (preferences plan : List ℕ) where
  pub added_none : (c : ℕ) (a : List ℕ) → Added (uses_to choices slots preferences plan c 0) a a
  unfolding uses_to
  added_none c a = record { long = refl; at = λ p l. omega (arith, fold_none ◌+◌ 0 (λ s. gate (has_preference choices slots preferences plan p c s) 1)) }

  pub added_more : (c s : ℕ) {a b : List ℕ} {q : ℕ} → Added (uses_to choices slots preferences plan c s) a b → q ≡ preference_at choices slots preferences plan c s → q < length b → Added (uses_to choices slots preferences plan c (s + 1)) a (set b q (entry_at b q + 1))
  unfolding uses_to
  added_more c s {b = b} {q = q} h e l = record {
    long = length-set b q (entry_at b q + 1) ∙ h.long;
    at = λ p m. one_more b q p l ∙ omega (arith, h.at p m, fold_more ◌+◌ 0 s (λ r. gate (has_preference choices slots preferences plan p c r) 1), ap (λ (x : ℕ). gate (eqb x p) 1) e);
  }

  pub added_all : (c s : ℕ) {a b : List ℕ} → s ≡ slots → Added (uses_to choices slots preferences plan c s) a b → Added (uses_in choices slots preferences plan c) a b
  unfolding uses_row uses_to
  added_all c s e h = rw e at h

  -- s seats add s at most
  pub added_most : (c s : ℕ) {a b : List ℕ} → Added (uses_to choices slots preferences plan c s) a b → (p : ℕ) → p < 256 → entry_at b p ≤ entry_at a p + s
  unfolding uses_to
  added_most c s h p l = omega (arith, h.at p l, count_le s (has_preference choices slots preferences plan p c))

  pub holds_none : UsesHeld (uses_before choices slots preferences plan 0) (replicate 256 0)
  unfolding uses_before
  holds_none = record { long = refl; at = λ p l. get_or-replicate 256 p 0 0 l ∙ sym (fold_none ◌+◌ 0 (uses_row choices slots preferences plan p)) }

  pub holds_more : (c : ℕ) {a b : List ℕ} → UsesHeld (uses_before choices slots preferences plan c) a → Added (uses_in choices slots preferences plan c) a b → UsesHeld (uses_before choices slots preferences plan (c + 1)) b
  unfolding uses_before
  holds_more c h g = record { long = g.long ∙ h.long; at = λ p l. omega (arith, h.at p l, g.at p l, fold_more ◌+◌ 0 c (uses_row choices slots preferences plan p)) }

  pub holds_all : (choosers c : ℕ) {a : List ℕ} → c ≡ choosers → UsesHeld (uses_before choices slots preferences plan c) a → UsesHeld (uses choosers choices slots preferences plan) a
  unfolding uses uses_before
  holds_all choosers c e h = rw e at h

  -- a chooser uses a preference once a slot at most
  pub uses_most : (c p : ℕ) → uses_before choices slots preferences plan c p ≤ c * slots
  unfolding uses_row uses_before
  uses_most c p = sum_most c slots (uses_row choices slots preferences plan p) (λ i l. count_le slots (has_preference choices slots preferences plan p i))

  -- the counts of the choosers before c leave room for those of chooser c
  pub counting : {choosers : ℕ} (c : ℕ) {counts : List ℕ} → slots ≤ 8 → c < choosers → UsesHeld (uses_before choices slots preferences plan c) counts → Counting choosers c counts
  counting c b l h = record {
    chooser = l;
    long = h.long;
    small = λ p m. omega (arith, h.at p m, uses_most c p, mul-le-mul (le_refl c) b);
  }

-- ---- marks

-- chooser c's seat in column r is in slot t
abbrev pub seat_in : ℕ → List ℕ → List ℕ → ℕ → ℕ → ℕ → Bool
seat_in slots sch plan c t r = eqb (seat_entry slots sch plan c r) (suc t)

-- slot t is marked where one of chooser c's first s seats is in it
pub record Marked (slots : ℕ) (sch plan : List ℕ) (c s : ℕ) (marks : List Bool) : Type 0 where
  pub long : length marks ≡ 8
  pub at : (t : ℕ) → t < 8 → get_or marks t false ≡ any_to s (seat_in slots sch plan c t)

-- all fail where none passes
all_not : (n : ℕ) (f : ℕ → Bool) → all_to n (λ k. not (f k)) ≡ not (any_to n f)
unfolding fold_to
all_not zero f = refl
all_not (suc n) f = rw (all_not n f) (neither (any_to n f) (f n))
  where
    neither : (a b : Bool) → (not a && not b) ≡ not (a || b)
    neither true b = refl
    neither false b = refl

module _ (slots : ℕ) (sch plan : List ℕ) (c : ℕ) where
  pub marked_none : Marked slots sch plan c 0 (replicate 8 false)
  marked_none = record { long = refl; at = λ t l. get_or-replicate 8 t false false l ∙ sym (fold_none ◌||◌ false (seat_in slots sch plan c t)) }

  pub marked_more : (s t : ℕ) {marks : List Bool} → seat_entry slots sch plan c s ≡ suc t → t < 8 → Marked slots sch plan c s marks → Marked slots sch plan c (s + 1) (set marks t true)
  marked_more s t {marks = marks} e h p = record {
    long = length-set marks t true ∙ p.long;
    at = λ u l. eq_cases u t
        (λ q z. rw q (get_or-set_same marks t true false (omega (arith, p.long)) ∙ sym (fold_more ◌||◌ false s (seat_in slots sch plan c t) ∙ rw (eq-eqb (seat_entry slots sch plan c s) (suc t) e) (or-true (any_to s (seat_in slots sch plan c t))))))
        (λ q z. get_or-set_other marks t u true false q ∙ p.at u l ∙ sym (fold_more ◌||◌ false s (seat_in slots sch plan c u) ∙ rw (ne_eqb (seat_entry slots sch plan c s) (suc u) (λ y. q (omega arith))) (or-false (any_to s (seat_in slots sch plan c u)))));
  }

  -- a seat whose slot is not marked is in another slot than those before it
  pub marked_new : (s t : ℕ) {marks : List Bool} → seat_entry slots sch plan c s ≡ suc t → t < 8 → Marked slots sch plan c s marks → not (get_or marks t false) ≡ is_new slots sch plan c s
  unfolding is_new
  marked_new s t e h p = ap not (p.at t h) ∙ sym (all_not s (seat_in slots sch plan c t)) ∙ ap (λ (x : ℕ). all_to s (λ r. not (eqb (seat_entry slots sch plan c r) x))) (sym e)

pub row_seated : {choosers slots : ℕ} {sch plan : List ℕ} → Seated choosers slots sch plan → (c : ℕ) → c < choosers → RowSeated slots sch plan c
row_seated {slots = slots} p c l = record {
  chooser = omega (arith, p.few);
  short = p.short;
  inside = omega (arith, p.inside, suc-mul c slots, mul-le-mul_right slots l);
  choice = λ s h. p.choice c s l h;
  slot = λ s h. p.slot c s l h;
  small = λ s h. p.small c s l h;
}

-- ---- what the score reads

fold_max : (n b : ℕ) (f : ℕ → ℕ) → ((k : ℕ) → k < n → f k ≤ b) → fold_to max 0 n f ≤ b
unfolding fold_to
fold_max zero b f h = omega arith
fold_max (suc n) b f h = omega (arith, fold_max n b f (λ k l. h k (omega arith)), h n (omega arith))

pub greatest_small : {choosers choices slots : ℕ} {preferences plan : List ℕ} → Reading choosers choices slots preferences plan → greatest choosers choices slots preferences plan ≤ 255
unfolding greatest greatest_row
greatest_small {choosers = choosers} {choices = choices} {slots = slots} {preferences = preferences} {plan = plan} r = fold_max choosers 255 (greatest_row choices slots preferences plan) (λ c l. fold_max slots 255 (preference_at choices slots preferences plan c) (λ s m. preference_small r c s l m))

pub weighing : {choosers choices slots : ℕ} {preferences plan counts : List ℕ} {powers most : ℕ} → Reading choosers choices slots preferences plan → UsesHeld (uses choosers choices slots preferences plan) counts → most ≤ 255 → most < powers → Weighing counts powers most
unfolding uses uses_before
weighing {choosers = n} {choices = choices} {slots = slots} {preferences = preferences} {plan = plan} {counts = counts} r h m b = record {
  most_is = m;
  table = b;
  small = λ p. lt_cases p 256
      (λ l t. omega (arith, h.at p l, uses_most choices slots preferences plan n p, mul-le-mul r.few r.short))
      (λ l t. omega (arith, get_or-eq_default {A = ℕ} counts 0 {n = p} (omega (arith, h.long))));
}

-- the minor of counts that an array holds
pub minor_holds : {f : ℕ → ℕ} {counts : List ℕ} (powers : List Float) (most : ℕ) → UsesHeld f counts → most ≤ 255 → minor_of (entry_at counts) powers most ≡ minor_of f powers most
unfolding minor_of minor_to
minor_holds {f = f} {counts = counts} powers most h m = fold_ext (add binary32) (fin false 0 (pos 0)) (most + 1) (term_of (entry_at counts) powers (scaling_of most powers)) (term_of f powers (scaling_of most powers))
    (λ p l. ap (λ (n : ℕ). div binary32 (mul binary32 (of_int binary32 (pos n)) (get_or powers p nan)) (scaling_of most powers)) (h.at p (omega arith)))
