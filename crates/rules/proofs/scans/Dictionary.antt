-- Only strings that are keywords bring hits, so any test that every keyword passes loses none: not the state, and not
-- the longest keyword behind a row.
use Prim.Native.Nat.{ℕ, ◌≤◌}
use native.Mathlib.Omega.{arith}
use mathlib.Core.Path.{◌≡◌, refl, sym, ◌∙◌, ap}
use mathlib.Core.Logic.{◌⊎◌, inl, inr}
use mathlib.Core.Bool.{Bool, true, false, cond}
use mathlib.Core.List.Memᴰ
use mathlib.Core.List.{List, [], ◌∷◌, ◌++◌, flat_map, Memᴰ}
use lib.ListN.{length}
use Rattle.rules.specs.strings.Strings.{same, suffixes, any, keep, longest, longest_behind}
use Rattle.rules.specs.sets.Sets.{Keyword, keywords_that_are, is_keyword}
use Rattle.rules.specs.rows.Rows.{forward, read_by, starts}
use Rattle.rules.specs.scans.Hits.{ending_at}
use Rattle.rules.specs.scans.Audit.{Ordered, none, next}
use Rattle.rules.proofs.strings.Strings.{never, fails, same_true, same_refl, eq-same, any_true, any_mem, or_fails_left, or_fails_right}
use Rattle.rules.proofs.rows.Rows.{keyword-starts}
use Rattle.rules.proofs.scans.State.{at-longest, longest-nil, longest-cond, longest-behind}

-- where none passes, none is kept
keep_none {ℓ} : {A : Type ℓ} (p : A → Bool) (l : List A) → any p l ≡ false → keep p l ≡ []
unfolding any keep
keep_none p [] h = refl
keep_none p (a ∷ l) h = rw (or_fails_left (p a) (any p l) h) (keep_none p l (or_fails_right (p a) (any p l) h))

-- the keyword that a string is
pub is_keyword_true : (ks : List Keyword) (s : List ℕ) → is_keyword ks s ≡ true → (k : Keyword) × Memᴰ k ks × (k.word ≡ s)
unfolding is_keyword
is_keyword_true ks s h =
    let w = any_true (λ (k : Keyword). same k.word s) ks h in
    (w.0, w.1, same_true w.0.word s w.2)

pub is_keyword_mem : (ks : List Keyword) (k : Keyword) → Memᴰ k ks → is_keyword ks k.word ≡ true
unfolding is_keyword
is_keyword_mem ks k m = any_mem (λ (l : Keyword). same l.word k.word) m (same_refl k.word)

pub keywords_that_are_none : (ks : List Keyword) (s : List ℕ) → is_keyword ks s ≡ false → keywords_that_are s ks ≡ []
unfolding is_keyword keywords_that_are
keywords_that_are_none ks s h = keep_none (λ (k : Keyword). same k.word s) ks h

-- words that are distinct name at most one
pub keywords_that_are_one : {ks : List Keyword}
    → Ordered (λ (k l : Keyword). k.word ≡ l.word → ⊥) ks
    → (k : Keyword)
    → Memᴰ k ks
    → keywords_that_are k.word ks ≡ k ∷ []
unfolding keywords_that_are keep
keywords_that_are_one none k m = absurd (Memᴰ.not-nil m)
keywords_that_are_one (next {a} {l} apart rest) k m = go (Memᴰ.cases_cons m) (keywords_that_are_one rest k)
  where
    others : k ≡ a → is_keyword l k.word ≡ false
    others e =
        fails (is_keyword l k.word)
        (λ t.
        let w = is_keyword_true l k.word t in
        apart w.0 w.1 (ap (λ (b : Keyword). b.word) (sym e) ∙ sym w.2))

    go : (k ≡ a) ⊎ Memᴰ k l
        → (Memᴰ k l → keywords_that_are k.word l ≡ k ∷ [])
        → cond (same a.word k.word) (a ∷ keywords_that_are k.word l) (keywords_that_are k.word l) ≡ k ∷ []
    go (inl e) below =
        rw (eq-same a.word k.word (ap (λ (b : Keyword). b.word) (sym e)), keywords_that_are_none l k.word (others e))
        (ap (λ (b : Keyword). b ∷ []) (sym e))
    go (inr m') below =
        rw (fails (same a.word k.word) (λ t. apart k m' (same_true a.word k.word t)))
        (below m')

-- a test that every keyword passes
module _ (ks : List Keyword) (p : List ℕ → Bool) (all : (k : Keyword) → Memᴰ k ks → p k.word ≡ true) where
  pub keyword_passes : (s : List ℕ) → is_keyword ks s ≡ true → p s ≡ true
  keyword_passes s h = let w = is_keyword_true ks s h in sym (ap p w.2) ∙ all w.0 w.1

  keyword_fails : (s : List ℕ) → p s ≡ false → is_keyword ks s ≡ false
  keyword_fails s f = fails (is_keyword ks s) (λ t. never (keyword_passes s t) f)

  pub ending-longest : (u : List ℕ) → ending_at ks u ≡ ending_at ks (longest p u)
  unfolding ending_at suffixes flat_map
  ending-longest =
      at-longest p (ending_at ks) (λ x u f. rw (keywords_that_are_none ks (x ∷ u) (keyword_fails (x ∷ u) f)))

  pub keyword-longest : (u : List ℕ) → longest (is_keyword ks) u ≡ longest (is_keyword ks) (longest p u)
  keyword-longest =
      at-longest p (longest (is_keyword ks)) (λ x u f. longest-behind (is_keyword ks) x u (keyword_fails (x ∷ u) f))

  pub keyword_behind : (r : List ℕ) → longest_behind (is_keyword ks) r ≡ longest (is_keyword ks) (longest_behind p r)
  unfolding longest_behind
  keyword_behind [] = sym (longest-nil (is_keyword ks))
  keyword_behind (x ∷ r) = keyword-longest r

-- the hits at the state
pub ending_state : (ks : List Keyword) (u : List ℕ) → ending_at ks u ≡ ending_at ks (longest (starts forward ks) u)
unfolding read_by
ending_state ks u = ending-longest ks (starts forward ks) (keyword-starts forward ks) u

-- a string's own keyword first, then those behind its first byte, which are those of the dictionary row
pub ending_cons : (ks : List Keyword) (a : ℕ) (s : List ℕ) → ending_at ks (a ∷ s) ≡ keywords_that_are (a ∷ s) ks ++ ending_at ks s
unfolding ending_at suffixes flat_map
ending_cons ks a s = refl

pub ending_dictionary : (ks : List Keyword) (r : List ℕ)
    → 1 ≤ length r
    → ending_at ks r ≡ keywords_that_are r ks ++ ending_at ks (longest_behind (is_keyword ks) r)
unfolding longest_behind
ending_dictionary ks [] some = absurd (omega arith)
ending_dictionary ks (a ∷ s) some =
    ending_cons ks a s
    ∙ ap (λ (l : List Keyword). keywords_that_are (a ∷ s) ks ++ l) (ending-longest ks (is_keyword ks) (is_keyword_mem ks) s)

-- the dictionary row of r: its failure row if that is a keyword, else the failure row's own
pub dictionary_failure : (ks : List Keyword) (r f : List ℕ)
    → f ≡ longest_behind (starts forward ks) r
    → longest_behind (is_keyword ks) r ≡ cond (is_keyword ks f) f (longest_behind (is_keyword ks) f)
unfolding read_by
dictionary_failure ks r f e =
    keyword_behind ks (starts forward ks) (keyword-starts forward ks) r
    ∙ ap (longest (is_keyword ks)) (sym e)
    ∙ longest-cond (is_keyword ks) f

-- words that are not empty
module _ (ks : List Keyword) (filled : (k : Keyword) → Memᴰ k ks → 1 ≤ length k.word) where
  pub is_keyword-nil : is_keyword ks [] ≡ false
  is_keyword-nil =
      fails (is_keyword ks [])
      (λ t.
      let w = is_keyword_true ks [] t in
      omega (arith, filled w.0 w.1, ap length w.2))

  pub ending-nil : ending_at ks [] ≡ []
  unfolding ending_at suffixes flat_map
  ending-nil = rw (keywords_that_are_none ks [] is_keyword-nil)

  -- those that end any string: itself where it is a keyword, then those of the dictionary row
  pub ending_behind : (r : List ℕ) → ending_at ks r ≡ keywords_that_are r ks ++ ending_at ks (longest_behind (is_keyword ks) r)
  unfolding longest_behind
  ending_behind [] = rw (keywords_that_are_none ks [] is_keyword-nil)
  ending_behind (a ∷ r) = ending_dictionary ks (a ∷ r) (omega arith)
