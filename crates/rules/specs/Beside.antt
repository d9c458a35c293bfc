-- What document 01 does not say: notions that the contracts and the laws need beside it.
use Rattle.std.specs.Prelude.{ℕ, suc, ◌*◌, max, ◌≤◌, ◌<◌, ◌≡◌, true, cond, length, get_or, take, drop, eqb}
use mathlib.Core.List.{List, [], ◌∷◌, ◌++◌, Memᴰ}
use Rattle.rules.specs.sets.Limits.{most_keywords, longest_word, most_energy, opcodes, record_size}
use Rattle.rules.specs.strings.Strings.{first_or}
use Rattle.rules.specs.sets.Sets.{Keyword, keyword_of}
use Rattle.rules.specs.rows.Rows.{row_of, is_row}
use Rattle.rules.specs.scans.Audit.{Ordered}

-- What the keywords of a set that passed its tests are: the laws that need a good set ask for this record.
pub record Sound (ks : List Keyword) : Type 0 where
  pub some : 1 ≤ length ks
  pub few : length ks ≤ most_keywords
  pub filled : (k : Keyword) → Memᴰ k ks → 1 ≤ length k.word
  pub short : (k : Keyword) → Memᴰ k ks → length k.word ≤ longest_word
  pub bytes : (k : Keyword) → Memᴰ k ks → (b : ℕ) → Memᴰ b k.word → b < opcodes
  pub distinct : Ordered (λ (k l : Keyword). k.word ≡ l.word → ⊥) ks
  pub numbered : Ordered (λ (k l : Keyword). k.number < l.number) ks
  pub slots : (k : Keyword) → Memᴰ k ks → k.number < most_keywords
  pub figures : (k : Keyword) → Memᴰ k ks → k.energy ≤ most_energy

-- no keyword at all, and the keyword at a place of a list, where there is one
abbrev pub no_keyword : Keyword
no_keyword = record { number = 0; word = []; energy = 0 }

abbrev pub nth : List Keyword → ℕ → Keyword
nth ks i = get_or ks i no_keyword

-- the keyword with a number, where there is one
unfoldable pub numbered : List Keyword → ℕ → Keyword
numbered ks n = first_or no_keyword (λ (k : Keyword). eqb k.number n) ks

-- some keyword has the number n
abbrev pub Named : List Keyword → ℕ → Type 0
Named ks n = (k : Keyword) × Memᴰ k ks × (k.number ≡ n)

-- the i'th record of a set, and the keyword that it states
unfoldable pub record_at : List ℕ → ℕ → List ℕ
record_at s i = take record_size (drop (record_size * i) s)

unfoldable pub keyword_at : List ℕ → ℕ → Keyword
keyword_at s i = keyword_of i (record_at s i)

-- how long the longest common beginning of two words is, and of a word with any of the words
unfoldable pub common : List ℕ → List ℕ → ℕ
common [] b = 0
common (x ∷ a) [] = 0
common (x ∷ a) (y ∷ b) = cond (eqb x y) (suc (common a b)) 0

unfoldable pub most_common : List (List ℕ) → List ℕ → ℕ
most_common [] w = 0
most_common (v ∷ vs) w = max (common v w) (most_common vs w)

-- Rows as they are while they are built: the empty string first, each string once, each behind its parent.
pub record Rowed (R : List (List ℕ)) : Type 0 where
  pub some : 1 ≤ length R
  pub first : get_or R 0 [] ≡ []
  pub distinct : (i j : ℕ) → i < length R → j < length R → get_or R i [] ≡ get_or R j [] → i ≡ j
  pub closed : (s : List ℕ) (c : ℕ) → is_row R (s ++ (c ∷ [])) ≡ true → is_row R s ≡ true
  pub parents : (i : ℕ) (s : List ℕ) (c : ℕ) → i < length R → get_or R i [] ≡ s ++ (c ∷ []) → row_of R s < i
