-- The step that follows failures, and the failure and dictionary rows while they are filled.
use Rattle.std.specs.Prelude.{ℕ, ◌+◌, ◌*◌, ◌≤◌, ◌<◌, ◌≡◌, true, List, [], ◌∷◌, ◌++◌, length, get_or, set}
use Rattle.rules.specs.sets.Limits.{row_cells, longest_word}
use Rattle.rules.specs.strings.Strings.{keep, count_to, suffixes, longest, longest_behind}
use Rattle.rules.specs.sets.Sets.{Keyword}
use Rattle.rules.specs.rows.Rows.{forward, rows_of, row_of, key_of, failure_cell, dictionary_cell, is_row}
use Rattle.rules.specs.Beside.{Sound}
use Rattle.rows.specs.Tree.{Column, Tree}
use Rattle.rows.specs.declared.failures.Advanced.{Advanced}

-- The rows R are held, and the failure rows of all that have at most d bytes; the row that a step starts from is one
-- of them.
pub record Ready (R : List (List ℕ)) (d row : ℕ) (ws : List ℕ) : Type 0 where
  pub tree : Tree R ws
  pub short : d ≤ longest_word
  pub falls : (i : ℕ) → i < length R → length (get_or R i []) ≤ d → get_or ws (row_cells * i + 3) 0 ≡ row_of R (longest_behind (is_row R) (get_or R i []))
  pub within : row < length R
  pub shallow : length (get_or R row []) ≤ d

-- A step over the byte c from the row s: the row of the longest suffix with c behind it that is a row, and a question
-- for each suffix of s that is a row, up to and with the first that leads on, or all.
pub record Moved (R : List (List ℕ)) (s : List ℕ) (c : ℕ) (r : Advanced) : Type 0 where
  pub row : r.row ≡ row_of R (longest (is_row R) (s ++ (c ∷ [])))
  pub asked : r.asked ≡ count_to (λ t. is_row R (t ++ (c ∷ []))) (keep (is_row R) (suffixes s))

-- the forward rows of ks are held with their keywords, and the failure and dictionary rows of all that have at most d
-- bytes
pub record Filling (ks : List Keyword) (d : ℕ) (ws : List ℕ) : Type 0 where
  pub tree : Tree (rows_of forward ks) ws
  pub keys : Column 4 (λ i. key_of forward ks (get_or (rows_of forward ks) i [])) (length (rows_of forward ks)) ws
  pub failures : (i : ℕ)
      → i < length (rows_of forward ks)
      → length (get_or (rows_of forward ks) i []) ≤ d
      → get_or ws (row_cells * i + 3) 0 ≡ failure_cell forward ks (rows_of forward ks) (get_or (rows_of forward ks) i [])
  pub dictionaries : (i : ℕ)
      → i < length (rows_of forward ks)
      → length (get_or (rows_of forward ks) i []) ≤ d
      → get_or ws (row_cells * i + 5) 0 ≡ dictionary_cell forward ks (rows_of forward ks) (get_or (rows_of forward ks) i [])

-- before a child's two numbers are filled: the levels above are, and the child is a row
pub record Fillable (ks : List Keyword) (d parent c : ℕ) (ws : List ℕ) : Type 0 where
  pub sound : Sound ks
  pub filling : Filling ks d ws
  pub within : parent < length (rows_of forward ks)
  pub level : length (get_or (rows_of forward ks) parent []) ≡ d
  pub row : is_row (rows_of forward ks) (get_or (rows_of forward ks) parent [] ++ (c ∷ [])) ≡ true

-- afterwards: the child's two numbers, and nothing else
pub record Filled (ks : List Keyword) (parent c row : ℕ) (ws ws' : List ℕ) : Type 0 where
  pub child : row ≡ row_of (rows_of forward ks) (get_or (rows_of forward ks) parent [] ++ (c ∷ []))
  pub written : ws'
      ≡ set (set ws (row_cells * row + 3) (failure_cell forward ks (rows_of forward ks) (get_or (rows_of forward ks) row [])))
      (row_cells * row + 5)
      (dictionary_cell forward ks (rows_of forward ks) (get_or (rows_of forward ks) row []))
