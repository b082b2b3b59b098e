-- Two choices have the same choosers where their rosters are equal, and only there, as scoring.rs compares them. Assumes nothing.
use Rattle.std.specs.Prelude.{ℕ, zero, suc, ◌+◌, ◌*◌, ◌<◌, ◌≡◌, refl, Bool, true, false, List, [], ◌∷◌, ◌++◌, eqb, replicate}
use Rattle.std.proofs.Common.{sym, ap, ap₂, ◌∙◌, arith, eqb-true, eq-eqb}
use Rattle.std.proofs.lemmas.List.{replicate-append-replicate}
use Rattle.assignment.specs.Plan.{is_seat, row, roster_row, choosers_ordered, choice_row, choices_ordered}
use Rattle.counting.specs.Fold.{fold_to, gate, sum_to, count_to, all_to, only_if, join_to}
use Rattle.counting.specs.FoldLaws.{fold_ext}
use Rattle.counting.specs.Sums.{sum_only}
use Rattle.counting.specs.Tests.{bool_cases, all_each, each_all}
use Rattle.satisfies_constraints.specs.Constraints.{times_in, same_choosers, same_choices}

-- ---- rosters: for each k upward, so many copies of k

abbrev copies : (ℕ → ℕ) → ℕ → List ℕ
copies m k = replicate (m k) k

only_copies : (n : ℕ) (f : ℕ → Bool) (v : ℕ) → join_to n (λ s. only_if (f s) (v ∷ [])) ≡ replicate (count_to n f) v
unfolding fold_to
only_copies zero f v = refl
only_copies (suc n) f v = ap₂ ◌++◌ (only_copies n f v) (once (f n)) ∙ replicate-append-replicate (count_to n f) (gate (f n) 1) v
  where
    once : (b : Bool) → only_if b (v ∷ []) ≡ replicate (gate b 1) v
    once true = refl
    once false = refl

row_copies : (slots : ℕ) (plan : List ℕ) (c k v : ℕ) → row slots plan (c * slots) k v ≡ replicate (times_in slots plan c k) v
unfolding row times_in
row_copies slots plan c k v = only_copies slots (is_seat plan (c * slots) k) v

-- how often a value stands in a list
times_of : ℕ → List ℕ → ℕ
times_of v [] = 0
times_of v (x ∷ l) = gate (eqb x v) 1 + times_of v l

times_append : (v : ℕ) (l r : List ℕ) → times_of v (l ++ r) ≡ times_of v l + times_of v r
unfolding times_of
times_append v [] r = omega arith
times_append v (x ∷ l) r = omega (arith, times_append v l r)

times_replicate : (v n k : ℕ) → times_of v (replicate n k) ≡ gate (eqb k v) n
unfolding times_of
times_replicate v zero k = bool_cases (eqb k v) (λ e. rw e) (λ e. rw e)
times_replicate v (suc n) k = ap (λ (m : ℕ). gate (eqb k v) 1 + m) (times_replicate v n k) ∙ bool_cases (eqb k v) (λ e. rw e (omega arith)) (λ e. rw e)

times_join : (v n : ℕ) (f : ℕ → List ℕ) → times_of v (join_to n f) ≡ sum_to n (λ k. times_of v (f k))
unfolding fold_to times_of
times_join v zero f = refl
times_join v (suc n) f = omega (arith, times_append v (join_to n f) (f n), times_join v n f)

copies_at : (n : ℕ) (m : ℕ → ℕ) (v : ℕ) → v < n → times_of v (join_to n (copies m)) ≡ m v
copies_at n m v h = times_join v n (copies m) ∙ fold_ext ◌+◌ 0 n (λ k. times_of v (copies m k)) (λ k. gate (eqb k v) (m k)) (λ k l. times_replicate v (m k) k) ∙ sum_only n m v h

-- two such rosters are equal where each k has as many copies, and only there
copies_same : (n : ℕ) (f g : ℕ → ℕ) → all_to n (λ k. eqb (f k) (g k)) ≡ true → join_to n (copies f) ≡ join_to n (copies g)
copies_same n f g e = fold_ext ◌++◌ [] n (copies f) (copies g) (λ k l. ap (λ (m : ℕ). replicate m k) (eqb-true (f k) (g k) (all_each n (λ i. eqb (f i) (g i)) e k l)))

same_copies : (n : ℕ) (f g : ℕ → ℕ) → join_to n (copies f) ≡ join_to n (copies g) → all_to n (λ k. eqb (f k) (g k)) ≡ true
same_copies n f g e = each_all n (λ k. eqb (f k) (g k)) (λ k l. eq-eqb (f k) (g k) (sym (copies_at n f k l) ∙ ap (times_of k) e ∙ copies_at n g k l))

choosers_copies : (choosers slots : ℕ) (plan : List ℕ) (k : ℕ) → choosers_ordered choosers slots plan k ≡ join_to choosers (copies (λ c. times_in slots plan c k))
unfolding choosers_ordered
choosers_copies choosers slots plan k = fold_ext ◌++◌ [] choosers (roster_row slots plan k) (copies (λ c. times_in slots plan c k)) (λ c l. row_copies slots plan c k c)

choices_copies : (choices slots : ℕ) (plan : List ℕ) (c : ℕ) → choices_ordered choices slots plan c ≡ join_to choices (copies (times_in slots plan c))
unfolding choices_ordered
choices_copies choices slots plan c = fold_ext ◌++◌ [] choices (choice_row slots plan c) (copies (times_in slots plan c)) (λ k l. row_copies slots plan c k k)

-- two choices have the same choosers where their rosters are equal, and only there
pub same_choosers_rosters : (choosers slots : ℕ) (plan : List ℕ) (a b : ℕ) → same_choosers choosers slots plan a b ≡ true → choosers_ordered choosers slots plan a ≡ choosers_ordered choosers slots plan b
unfolding same_choosers
same_choosers_rosters choosers slots plan a b e = choosers_copies choosers slots plan a ∙ copies_same choosers (λ c. times_in slots plan c a) (λ c. times_in slots plan c b) e ∙ sym (choosers_copies choosers slots plan b)

pub rosters_same_choosers : (choosers slots : ℕ) (plan : List ℕ) (a b : ℕ) → choosers_ordered choosers slots plan a ≡ choosers_ordered choosers slots plan b → same_choosers choosers slots plan a b ≡ true
unfolding same_choosers
rosters_same_choosers choosers slots plan a b e = same_copies choosers (λ c. times_in slots plan c a) (λ c. times_in slots plan c b) (sym (choosers_copies choosers slots plan a) ∙ e ∙ choosers_copies choosers slots plan b)

-- two choosers have the same choices where their choices in order are equal, and only there
pub same_choices_ordered : (choices slots : ℕ) (plan : List ℕ) (a b : ℕ) → same_choices choices slots plan a b ≡ true → choices_ordered choices slots plan a ≡ choices_ordered choices slots plan b
unfolding same_choices
same_choices_ordered choices slots plan a b e = choices_copies choices slots plan a ∙ copies_same choices (times_in slots plan a) (times_in slots plan b) e ∙ sym (choices_copies choices slots plan b)

pub ordered_same_choices : (choices slots : ℕ) (plan : List ℕ) (a b : ℕ) → choices_ordered choices slots plan a ≡ choices_ordered choices slots plan b → same_choices choices slots plan a b ≡ true
unfolding same_choices
ordered_same_choices choices slots plan a b e = same_copies choices (times_in slots plan a) (times_in slots plan b) (sym (choices_copies choices slots plan a) ∙ e ∙ choices_copies choices slots plan b)
