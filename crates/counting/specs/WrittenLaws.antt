-- Lent buffers after a run of stores. Assumes nothing.
use Rattle.std.specs.Prelude.{ℕ, suc, ◌+◌, ◌≤◌, ◌<◌, ◌≡◌, List, [], ◌∷◌, ◌++◌, length, get_or, set, take, drop}
use Rattle.std.proofs.Math.Path.{refl}
use Rattle.std.proofs.Common.{ap, sym, subst, ◌∙◌, add-zero, add-suc, suc-add, arith, length-append}
use Rattle.std.proofs.Math.ListN.{get_or-append}
use Rattle.std.proofs.lemmas.List.Edits.{sets}
use Rattle.std.proofs.Math.Seq.{sets-eq, length-sets}
use Rattle.counting.specs.Fold.{join_to, table_to}
use Rattle.counting.specs.FoldLaws.{fold_none, fold_more, fold_at}
use Rattle.counting.specs.Lists.{length_table, table_more}
use Rattle.counting.specs.Written.{written}

module _ {ℓ} {A : Type ℓ} where
  sets_append : (d : List A) (at : ℕ) (vs ws : List A) → sets d at (vs ++ ws) ≡ sets (sets d at vs) (at + length vs) ws
  sets_append d at [] ws = rw add-zero
  sets_append d at (v ∷ vs) ws = sets_append (set d at v) (suc at) vs ws ∙ ap (λ k. sets (sets (set d at v) (suc at) vs) k ws) (suc-add at (length vs) ∙ sym (add-suc at (length vs)))

  pub written_none : (d : List A) (at : ℕ) → written d at [] ≡ d
  unfolding written
  written_none d at = refl

  pub written_one : (d : List A) (at : ℕ) (v : A) → written d at (v ∷ []) ≡ set d at v
  unfolding written
  written_one d at v = refl

  pub written_append : (d : List A) (at : ℕ) (vs ws : List A) → written d at (vs ++ ws) ≡ written (written d at vs) (at + length vs) ws
  unfolding written
  written_append d at vs ws = sets_append d at vs ws

  pub length_written : (d : List A) (at : ℕ) (vs : List A) → length (written d at vs) ≡ length d
  unfolding written
  length_written d at vs = length-sets d at vs

  -- what a caller reads of it: all before and behind is as it was
  pub written_is : (d : List A) (at : ℕ) (vs : List A) → at + length vs ≤ length d → written d at vs ≡ take at d ++ vs ++ drop (at + length vs) d
  unfolding written
  written_is d at vs h = sets-eq vs d at h

  -- one run after another, of a buffer
  pub written_then : (d : List A) (at : ℕ) (vs ws : List A) (n : ℕ) {d' d'' : List A} → d' ≡ written d at vs → d'' ≡ written d' n ws → n ≡ at + length vs → d'' ≡ written d at (vs ++ ws)
  written_then d at vs ws n p q e = q ∙ rw (p, e) (sym (written_append d at vs ws))

  -- the used front reads as what was stored
  pub written_at : (d vs : List A) (x : A) (k : ℕ) → length vs ≤ length d → k < length vs → get_or (written d 0 vs) k x ≡ get_or vs k x
  written_at d vs x k h l = ap (λ v. get_or v k x) (written_is d 0 vs (omega arith)) ∙ get_or-append vs (drop (0 + length vs) d) x k l

  -- a loop fills a buffer from `at` on: f 0 .. f (k - 1) are stored
  pub record Fills (d₀ : List A) (at k : ℕ) (f : ℕ → A) (d : List A) : Type ℓ where
    pub holds : d ≡ written d₀ at (table_to k f)

  pub fill_none : (d : List A) (at : ℕ) (f : ℕ → A) → Fills d at 0 f d
  fill_none d at f = record { holds = rw (fold_none ◌++◌ [] (λ k. f k ∷ [])) (sym (written_none d at)) }

  pub fill_more : {d₀ : List A} {at k : ℕ} {f : ℕ → A} {d : List A} {x : A} → Fills d₀ at k f d → x ≡ f k → Fills d₀ at (k + 1) f (set d (at + k) x)
  fill_more {d₀ = d₀} {at = at} {k = k} {f = f} {d = d} {x = x} p e = record {
    holds = rw (table_more, e) (written_then d₀ at (table_to k f) (f k ∷ []) (at + k) p.holds (sym (written_one d (at + k) (f k))) (ap (λ (n : ℕ). at + n) (sym (length_table k f))));
  }

  pub fill_length : {d₀ : List A} {at k : ℕ} {f : ℕ → A} {d : List A} → Fills d₀ at k f d → length d ≡ length d₀
  fill_length {d₀ = d₀} {at = at} {k = k} {f = f} p = ap length p.holds ∙ length_written d₀ at (table_to k f)

  pub fill_all : {d₀ : List A} {at k n : ℕ} {f : ℕ → A} {d : List A} → k ≡ n → Fills d₀ at k f d → d ≡ written d₀ at (table_to n f)
  fill_all {d₀ = d₀} {at = at} {f = f} e p = p.holds ∙ ap (λ m. written d₀ at (table_to m f)) e

-- How elements of E are stored in buffers of type B, one after the other: one buffer, or several side by side.
pub record Storing {ℓ ℓ'} (B : Type ℓ) (E : Type ℓ') : Type (ℓ ⊔ ℓ') where
  pub store : B → ℕ → List E → B
  pub store_none : (b : B) (n : ℕ) → store b n [] ≡ b
  pub store_append : (b : B) (n : ℕ) (es fs : List E) → store b n (es ++ fs) ≡ store (store b n es) (n + length es) fs

module _ {ℓ ℓ'} {B : Type ℓ} {E : Type ℓ'} where
  -- the buffers were b₀ with n₀ elements used; es were stored after those; now they are b with n used
  pub record Put (st : Storing B E) (b₀ : B) (n₀ : ℕ) (es : List E) (b : B) (n : ℕ) : Type ℓ where
    pub count : n ≡ n₀ + length es
    pub holds : b ≡ st.store b₀ n₀ es

  pub put_none : (st : Storing B E) (b : B) (n : ℕ) → Put st b n [] b n
  put_none st b n = record { count = sym (add-zero n); holds = sym (st.store_none b n) }

  -- one run after another
  pub put_then : {st : Storing B E} {b₀ b b' : B} {n₀ n n' : ℕ} {es fs : List E} → Put st b₀ n₀ es b n → Put st b n fs b' n' → Put st b₀ n₀ (es ++ fs) b' n'
  put_then {st = st} {b₀ = b₀} {n₀ = n₀} {es = es} {fs = fs} p q = record {
    count = omega (arith, p.count, q.count, length-append es fs);
    holds = q.holds ∙ rw (p.holds, p.count) (sym (st.store_append b₀ n₀ es fs));
  }

  -- nothing, where there was nothing to store
  pub put_empty : (st : Storing B E) (b : B) (n : ℕ) {es : List E} → es ≡ [] → Put st b n es b n
  put_empty st b n e = rw e (put_none st b n)

  -- the same elements, said otherwise
  pub put_eq : {st : Storing B E} {b₀ b : B} {n₀ n : ℕ} {es fs : List E} → es ≡ fs → Put st b₀ n₀ es b n → Put st b₀ n₀ fs b n
  put_eq {st = st} {b₀ = b₀} {b = b} {n₀ = n₀} {n = n} e p = subst (λ l. Put st b₀ n₀ l b n) e p

  -- a loop stores the runs f 0, f 1, .., one after the other
  pub put_start : (st : Storing B E) (b : B) (n : ℕ) (f : ℕ → List E) → Put st b n (join_to 0 f) b n
  put_start st b n f = put_empty st b n (fold_none ◌++◌ [] f)

  pub put_step : {st : Storing B E} {b₀ b b' : B} {n₀ n n' : ℕ} {i : ℕ} (f : ℕ → List E) → Put st b₀ n₀ (join_to i f) b n → Put st b n (f i) b' n' → Put st b₀ n₀ (join_to (i + 1) f) b' n'
  put_step {i = i} f p q = put_eq (sym (fold_more ◌++◌ [] i f)) (put_then p q)

  pub put_all : {st : Storing B E} {b₀ b : B} {n₀ n : ℕ} {i m : ℕ} (f : ℕ → List E) → i ≡ m → Put st b₀ n₀ (join_to i f) b n → Put st b₀ n₀ (join_to m f) b n
  put_all f e p = put_eq (fold_at ◌++◌ [] f e) p

-- one buffer
abbrev pub one_buffer {ℓ} : (A : Type ℓ) → Storing (List A) A
one_buffer A = record { store = written; store_none = written_none; store_append = written_append }

-- a store keeps its length
pub put_length {ℓ} : {A : Type ℓ} {d₀ d : List A} {at₀ at : ℕ} {vs : List A} → Put (one_buffer A) d₀ at₀ vs d at → length d ≡ length d₀
put_length {d₀ = d₀} {at₀ = at₀} {vs = vs} p = ap length p.holds ∙ length_written d₀ at₀ vs
