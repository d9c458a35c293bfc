-- The state after u is the longest suffix of u that passes: on the way from u to it only first bytes of strings that
-- fail go, and what they do not change is the same at both, by recursion along u.
use Prim.Native.Nat.{ℕ, suc, ◌+◌, ◌≤◌, ◌<◌}
use native.Mathlib.Omega.{arith}
use mathlib.Core.Path.{◌≡◌, refl, ◌∙◌, ap}
use mathlib.Core.Logic.{◌⊎◌, inl, inr}
use mathlib.Core.Bool.{Bool, true, false, cond}
use mathlib.Core.List.{List, [], ◌∷◌, ◌++◌, append_assoc, append-nil}
use lib.ListN.{length, length-append}
use Rattle.rules.specs.strings.Strings.{suffixes, keep, first_or, count_to, longest, longest_behind}
use Rattle.rules.proofs.strings.Strings.{either, never, fails}

-- the questions at c behind u: the suffixes of u that pass, up to and with the first that passes with c, or all
unfoldable pub asked_by : (List ℕ → Bool) → List ℕ → ℕ → ℕ
asked_by p u c = count_to (λ s. p (s ++ (c ∷ []))) (keep p (suffixes u))

-- a prefix of what passes passes
abbrev pub Closed : (List ℕ → Bool) → Type 0
Closed p = (s : List ℕ) (c : ℕ) → p (s ++ (c ∷ [])) ≡ true → p s ≡ true

pub closed-append : {p : List ℕ → Bool} → Closed p → (s v : List ℕ) → p (s ++ v) ≡ true → p s ≡ true
closed-append closed s [] h = rw append-nil at h
closed-append closed s (c ∷ v) h =
    closed s c (closed-append closed (s ++ (c ∷ [])) v (rw (append_assoc s (c ∷ []) v) h))

pub closed_fails : {p : List ℕ → Bool} → Closed p → (s v : List ℕ) → p s ≡ false → p (s ++ v) ≡ false
closed_fails {p} closed s v f = fails (p (s ++ v)) (λ t. never (closed-append closed s v t) f)

module _ (p : List ℕ → Bool) where
  -- the state, by cases: nothing is left, all of u passes, or u's first byte goes
  pub longest-nil : longest p [] ≡ []
  unfolding longest first_or suffixes
  longest-nil = either (p []) (λ t. rw t) (λ f. rw f)

  pub longest_of : (u : List ℕ) → p u ≡ true → longest p u ≡ u
  unfolding longest first_or suffixes
  longest_of [] h = rw h
  longest_of (x ∷ u) h = rw h

  pub longest-behind : (x : ℕ) (u : List ℕ) → p (x ∷ u) ≡ false → longest p (x ∷ u) ≡ longest p u
  unfolding longest first_or suffixes
  longest-behind x u h = rw h

  -- so a fact of every string and its state is proved in these three cases
  pub by-longest {ℓ} : (P : List ℕ → List ℕ → Type ℓ)
      → P [] []
      → ((x : ℕ) (u : List ℕ) → p (x ∷ u) ≡ true → P u (longest p u) → P (x ∷ u) (x ∷ u))
      → ((x : ℕ) (u : List ℕ) → p (x ∷ u) ≡ false → P u (longest p u) → P (x ∷ u) (longest p u))
      → (u : List ℕ)
      → P u (longest p u)
  by-longest P nil here behind [] = rw longest-nil nil
  by-longest P nil here behind (x ∷ u) =
      let below : P u (longest p u) = by-longest P nil here behind u in
      either (p (x ∷ u))
      (λ t. rw (longest_of (x ∷ u) t) (here x u t below))
      (λ f. rw (longest-behind x u f) (behind x u f below))

  -- what no first byte that goes changes is the same at the state
  pub at-longest {ℓ} : {A : Type ℓ} (f : List ℕ → A)
      → ((x : ℕ) (u : List ℕ) → p (x ∷ u) ≡ false → f (x ∷ u) ≡ f u)
      → (u : List ℕ)
      → f u ≡ f (longest p u)
  at-longest f g = by-longest (λ u s. f u ≡ f s) refl (λ x u t below. refl) (λ x u h below. g x u h ∙ below)

  -- the state passes, ends u, and ends with every suffix of u that passes
  pub longest_passes : p [] ≡ true → (u : List ℕ) → p (longest p u) ≡ true
  longest_passes root = by-longest (λ u s. p s ≡ true) root (λ x u t below. t) (λ x u f below. below)

  pub longest_or : (u : List ℕ) → (p (longest p u) ≡ true) ⊎ (longest p u ≡ [])
  longest_or = by-longest (λ u s. (p s ≡ true) ⊎ (s ≡ [])) (inr refl) (λ x u t below. inl t) (λ x u f below. below)

  pub longest-length : (u : List ℕ) → length (longest p u) ≤ length u
  longest-length =
      by-longest (λ u s. length s ≤ length u) (omega arith) (λ x u t below. omega arith) (λ x u f below. omega arith)

  -- the longest proper suffix that passes: all there is to try when the whole fails
  pub longest-cond : (u : List ℕ) → longest p u ≡ cond (p u) u (longest_behind p u)
  unfolding longest_behind
  longest-cond [] = either (p []) (λ t. rw (t, longest-nil)) (λ f. rw (f, longest-nil))
  longest-cond (x ∷ u) = either (p (x ∷ u)) (λ t. rw (t, longest_of (x ∷ u) t)) (λ f. rw (f, longest-behind x u f))

  pub behind_passes : p [] ≡ true → (u : List ℕ) → p (longest_behind p u) ≡ true
  unfolding longest_behind
  behind_passes root [] = root
  behind_passes root (x ∷ u) = longest_passes root u

  pub behind_or : (u : List ℕ) → (p (longest_behind p u) ≡ true) ⊎ (longest_behind p u ≡ [])
  unfolding longest_behind
  behind_or [] = inr refl
  behind_or (x ∷ u) = longest_or u

  pub behind-length : (u : List ℕ) → 1 ≤ length u → length (longest_behind p u) < length u
  unfolding longest_behind
  behind-length [] h = omega arith
  behind-length (x ∷ u) h = omega (arith, longest-length u)

  pub behind_one : (c : ℕ) → longest_behind p (c ∷ []) ≡ []
  unfolding longest_behind
  behind_one c = longest-nil

  pub longest_one : (c : ℕ) → p (c ∷ []) ≡ false → longest p (c ∷ []) ≡ []
  longest_one c f = longest-behind c [] f ∙ longest-nil

  -- the questions, by the same cases: 1 where the whole passes with c, one more than behind where it does not, and none
  -- of its own where the whole does not pass
  pub asked-nil : p [] ≡ true → (c : ℕ) → asked_by p [] c ≡ 1
  unfolding asked_by count_to keep suffixes
  asked-nil root c = rw root (either (p (c ∷ [])) (λ t. rw t) (λ f. rw f))

  pub asked_extends : (s : List ℕ) (c : ℕ) → p s ≡ true → p (s ++ (c ∷ [])) ≡ true → asked_by p s c ≡ 1
  unfolding asked_by count_to keep suffixes
  asked_extends [] c h t = rw h (rw t)
  asked_extends (x ∷ s) c h t = rw h (rw t)

  asked_here : (x : ℕ) (s : List ℕ) (c : ℕ)
      → p (x ∷ s) ≡ true
      → p ((x ∷ s) ++ (c ∷ [])) ≡ false
      → asked_by p (x ∷ s) c ≡ suc (asked_by p s c)
  unfolding asked_by count_to keep suffixes
  asked_here x s c h f = rw h (rw f)

  asked_behind : (x : ℕ) (s : List ℕ) (c : ℕ) → p (x ∷ s) ≡ false → asked_by p (x ∷ s) c ≡ asked_by p s c
  unfolding asked_by count_to keep suffixes
  asked_behind x s c f = rw f

  pub asked_state : (u : List ℕ) (c : ℕ) → asked_by p u c ≡ asked_by p (longest p u) c
  asked_state u c = at-longest (λ (l : List ℕ). asked_by p l c) (λ x l f. asked_behind x l c f) u

  pub asked_falls : (r : List ℕ) (c : ℕ)
      → 1 ≤ length r
      → p r ≡ true
      → p (r ++ (c ∷ [])) ≡ false
      → asked_by p r c ≡ suc (asked_by p (longest_behind p r) c)
  unfolding longest_behind
  asked_falls [] c some h f = absurd (omega arith)
  asked_falls (x ∷ s) c some h f = asked_here x s c h f ∙ ap suc (asked_state s c)

  asked_one : (c : ℕ) → asked_by p [] c ≤ 1
  unfolding asked_by keep suffixes count_to
  asked_one c = either (p []) (λ t. omega (arith, asked-nil t c)) (λ f. rw f (omega arith))

  pub asked_le : (u : List ℕ) (c : ℕ) → asked_by p u c ≤ length (longest p u) + 1
  asked_le u c =
      by-longest (λ u s. asked_by p u c ≤ length s + 1)
      (omega (arith, asked_one c))
      (λ x u t below.
      either (p ((x ∷ u) ++ (c ∷ [])))
      (λ t'. omega (arith, asked_extends (x ∷ u) c t t'))
      (λ f. omega (arith, asked_here x u c t f, longest-length u)))
      (λ x u f below. omega (arith, asked_behind x u c f))
      u

  -- the state after more bytes, from the state alone
  module _ (closed : Closed p) where
    pub longest-append : (u v : List ℕ) → longest p (u ++ v) ≡ longest p (longest p u ++ v)
    longest-append u v =
        at-longest (λ (l : List ℕ). longest p (l ++ v))
        (λ x l f. longest-behind x (l ++ v) (closed_fails closed (x ∷ l) v f))
        u

    pub longest_state : (u : List ℕ) (c : ℕ) → longest p (u ++ (c ∷ [])) ≡ longest p (longest p u ++ (c ∷ []))
    longest_state u c = longest-append u (c ∷ [])

    -- where a row that is not empty falls, its failure row goes on; the failure row of one byte more is its state
    pub longest_falls : (r : List ℕ) (c : ℕ)
        → 1 ≤ length r
        → p (r ++ (c ∷ [])) ≡ false
        → longest p (r ++ (c ∷ [])) ≡ longest p (longest_behind p r ++ (c ∷ []))
    unfolding longest_behind
    longest_falls [] c some f = absurd (omega arith)
    longest_falls (x ∷ s) c some f = longest-behind x (s ++ (c ∷ [])) f ∙ longest_state s c

    pub behind_state : (r : List ℕ) (c : ℕ)
        → 1 ≤ length r
        → longest_behind p (r ++ (c ∷ [])) ≡ longest p (longest_behind p r ++ (c ∷ []))
    unfolding longest_behind
    behind_state [] c some = absurd (omega arith)
    behind_state (x ∷ s) c some = longest_state s c

    -- each question at c but the last takes a byte or more from the state, and c adds at most one
    pub asked_grow : (u : List ℕ) (c : ℕ) → asked_by p u c + length (longest p (u ++ (c ∷ []))) ≤ length (longest p u) + 2
    asked_grow u c =
        by-longest (λ u s. asked_by p u c + length (longest p (u ++ (c ∷ []))) ≤ length s + 2)
        (omega (arith, asked_one c, longest-length (c ∷ [])))
        (λ x u t below.
        either (p ((x ∷ u) ++ (c ∷ [])))
        (λ t'. omega (arith, asked_extends (x ∷ u) c t t', longest-length ((x ∷ u) ++ (c ∷ [])), length-append u (c ∷ [])))
        (λ f. omega (arith, asked_here x u c t f, gone x u f, longest-length u)))
        (λ x u f below. omega (arith, asked_behind x u c f, gone x u (closed_fails closed (x ∷ u) (c ∷ []) f)))
        u
      where
        gone : (x : ℕ) (l : List ℕ)
            → p ((x ∷ l) ++ (c ∷ [])) ≡ false
            → length (longest p ((x ∷ l) ++ (c ∷ []))) ≡ length (longest p (l ++ (c ∷ [])))
        gone x l f = ap length (longest-behind x (l ++ (c ∷ [])) f)
