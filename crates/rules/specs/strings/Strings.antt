-- Strings of opcodes are lists of numbers, whatever the width of an opcode.
use Rattle.std.specs.Prelude.{ℕ, suc, Bool, true, false, ◌&&◌, ◌||◌, cond, List, [], ◌∷◌, eqb}

-- a is b
unfoldable pub same : List ℕ → List ℕ → Bool
same [] [] = true
same [] (y ∷ b) = false
same (x ∷ a) [] = false
same (x ∷ a) (y ∷ b) = eqb x y && same a b

-- p is a prefix of s
unfoldable pub begins : List ℕ → List ℕ → Bool
begins [] s = true
begins (x ∷ p) [] = false
begins (x ∷ p) (y ∷ s) = eqb x y && begins p s

-- the suffixes of s, longest first, the empty one last
unfoldable pub suffixes : List ℕ → List (List ℕ)
suffixes [] = [] ∷ []
suffixes (x ∷ s) = (x ∷ s) ∷ suffixes s

-- some element passes
unfoldable pub any {ℓ} : {A : Type ℓ} → (A → Bool) → List A → Bool
any p [] = false
any p (a ∷ l) = p a || any p l

-- e is a suffix of s
unfoldable pub ends : List ℕ → List ℕ → Bool
ends e s = any (same e) (suffixes s)

-- those that pass, in order
unfoldable pub keep {ℓ} : {A : Type ℓ} → (A → Bool) → List A → List A
keep p [] = []
keep p (a ∷ l) = cond (p a) (a ∷ keep p l) (keep p l)

-- the first that passes, or d
unfoldable pub first_or {ℓ} : {A : Type ℓ} → A → (A → Bool) → List A → A
first_or d p [] = d
first_or d p (a ∷ l) = cond (p a) a (first_or d p l)

-- how many there are up to and with the first that passes, or all
unfoldable pub count_to {ℓ} : {A : Type ℓ} → (A → Bool) → List A → ℕ
count_to p [] = 0
count_to p (a ∷ l) = cond (p a) 1 (suc (count_to p l))

-- the longest suffix of s that passes, and the longest proper one; the empty string where none does
unfoldable pub longest : (List ℕ → Bool) → List ℕ → List ℕ
longest p s = first_or [] p (suffixes s)

unfoldable pub longest_behind : (List ℕ → Bool) → List ℕ → List ℕ
longest_behind p [] = []
longest_behind p (x ∷ s) = longest p s
