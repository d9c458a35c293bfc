-- Rows: the prefixes of keywords (forward) or their suffixes (backward), numbered when first met, and the six
-- numbers of each. A row's string stands here in reading order, so a suffix stands turned round: then both kinds are
-- the prefixes of what is read, and one definition serves both.
use Rattle.std.specs.Prelude.{ℕ, zero, suc, ◌-◌, Bool, ◌&&◌, cond, List, [], ◌∷◌, ◌++◌, map, reverse, length, get_or, drop, eqb}
use Rattle.rules.specs.strings.Strings.{same, begins, any, longest_behind}
use Rattle.rules.specs.sets.Sets.{Keyword, is_keyword}

-- the way a keyword is read
pub data Way : Type 0 where
  forward backward : Way

unfoldable pub read_by : Way → List ℕ → List ℕ
read_by forward s = s
read_by backward s = reverse s

-- s begins some keyword, as it is read
unfoldable pub starts : Way → List Keyword → List ℕ → Bool
starts way ks s = any (λ (k : Keyword). begins s (read_by way k.word)) ks

-- the prefixes of a string but the empty one, shortest first
unfoldable pub prefixes : List ℕ → List (List ℕ)
prefixes [] = []
prefixes (a ∷ s) = (a ∷ []) ∷ map (λ p. a ∷ p) (prefixes s)

-- s is one of the rows
abbrev pub is_row : List (List ℕ) → List ℕ → Bool
is_row R s = any (same s) R

-- rows with the strings that are new to them, in order, behind
unfoldable pub meet : List (List ℕ) → List (List ℕ) → List (List ℕ)
meet rows [] = rows
meet rows (s ∷ ss) = meet (cond (is_row rows s) rows (rows ++ (s ∷ []))) ss

-- rows with the prefixes of each word, in order
unfoldable pub meet_words : List (List ℕ) → List (List ℕ) → List (List ℕ)
meet_words rows [] = rows
meet_words rows (w ∷ ws) = meet_words (meet rows (prefixes w)) ws

-- the rows of a set
unfoldable pub rows_of : Way → List Keyword → List (List ℕ)
rows_of way ks = meet_words ([] ∷ []) (map (λ k. read_by way k.word) ks)

-- the place of the first row from n on that passes; 0 where none does
unfoldable pub place_from : ℕ → (List ℕ → Bool) → List (List ℕ) → ℕ
place_from n p [] = 0
place_from n p (r ∷ rows) = cond (p r) n (place_from (suc n) p rows)

-- the row of a string; 0 where it is none
unfoldable pub row_of : List (List ℕ) → List ℕ → ℕ
row_of rows s = place_from 0 (same s) rows

-- r is s with one byte behind
unfoldable pub child_of : List ℕ → List ℕ → Bool
child_of s r = begins s r && eqb (length r) (suc (length s))

-- all but the last
unfoldable pub parent : List ℕ → List ℕ
parent [] = []
parent (a ∷ []) = []
parent (a ∷ b ∷ s) = a ∷ parent (b ∷ s)

-- the next row after place i with the same parent as r
unfoldable pub sibling_after : List (List ℕ) → ℕ → List ℕ → ℕ
sibling_after rows i r = place_from (suc i) (child_of (parent r)) (drop (suc i) rows)

-- the number of the keyword that is read as r, plus one
unfoldable pub key_of : Way → List Keyword → List ℕ → ℕ
key_of way [] r = 0
key_of way (k ∷ ks) r = cond (same (read_by way k.word) r) (suc k.number) (key_of way ks r)

-- the fourth number, the row of the longest proper suffix that is a keyword's prefix, and the sixth, of the longest
-- that is a keyword: forward rows alone have them
unfoldable pub failure_cell : Way → List Keyword → List (List ℕ) → List ℕ → ℕ
failure_cell forward ks rows r = row_of rows (longest_behind (starts forward ks) r)
failure_cell backward ks rows r = 0

unfoldable pub dictionary_cell : Way → List Keyword → List (List ℕ) → List ℕ → ℕ
dictionary_cell forward ks rows r = row_of rows (longest_behind (is_keyword ks) r)
dictionary_cell backward ks rows r = 0

-- the six numbers of the row r at place i. Row 0 is nobody's sibling: its parent is itself here.
unfoldable pub cells_at : Way → List Keyword → List (List ℕ) → ℕ → List ℕ → List ℕ
cells_at way ks rows zero r = 0 ∷ place_from 0 (child_of r) rows ∷ 0 ∷ 0 ∷ 0 ∷ 0 ∷ []
cells_at way ks rows (suc i) r =
    get_or r (length r - 1) 0
    ∷ place_from 0 (child_of r) rows
    ∷ sibling_after rows (suc i) r
    ∷ failure_cell way ks rows r
    ∷ key_of way ks r
    ∷ dictionary_cell way ks rows r
    ∷ []

unfoldable pub cells_from : Way → List Keyword → List (List ℕ) → ℕ → List (List ℕ) → List ℕ
cells_from way ks rows i [] = []
cells_from way ks rows i (r ∷ rest) = cells_at way ks rows i r ++ cells_from way ks rows (suc i) rest

-- what a workspace holds at its front
unfoldable pub cells : Way → List Keyword → List ℕ
cells way ks = let rows = rows_of way ks in cells_from way ks rows 0 rows
