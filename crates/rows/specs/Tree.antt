-- A workspace that holds rows: each number of a row by the definitions of `rules`.
use Rattle.std.specs.Prelude.{ℕ, zero, suc, ◌+◌, ◌-◌, ◌*◌, ◌≤◌, ◌<◌, ◌≡◌, Bool, cond, Option, Some, None, List, [], ◌∷◌, ◌++◌, length, get_or, drop, set}
use Rattle.std.proofs.lemmas.List.Edits.{sets}
use Rattle.rules.specs.sets.Limits.{row_cells}
use Rattle.rules.specs.strings.Strings.{same, keep, count_to}
use Rattle.rules.specs.sets.Sets.{Keyword}
use Rattle.rules.specs.rows.Rows.{Way, row_of, place_from, child_of, sibling_after, key_of, is_row}
use Rattle.rules.specs.Beside.{Rowed}
use Rattle.rows.specs.declared.tree.Asked.{Asked}

-- number j of each of the first n rows is what f says
abbrev pub Column : ℕ → (ℕ → ℕ) → ℕ → List ℕ → Type 0
Column j f n ws = (i : ℕ) → i < n → get_or ws (row_cells * i + j) 0 ≡ f i

-- a number that names a row: 0 names none
unfoldable pub link : ℕ → Option ℕ
link zero = None
link (suc i) = Some (suc i)

-- a row's own keyword number, which stands plus one: 0 says that there is none
unfoldable pub own : ℕ → Option ℕ
own zero = None
own (suc n) = Some n

-- the first three numbers of row i: the byte added, the lowest child, the next sibling
unfoldable pub byte_of : List (List ℕ) → ℕ → ℕ
byte_of R zero = 0
byte_of R (suc i) = let r = get_or R (suc i) [] in get_or r (length r - 1) 0

unfoldable pub children_of : List (List ℕ) → ℕ → ℕ
children_of R i = place_from 0 (child_of (get_or R i [])) R

unfoldable pub siblings_of : List (List ℕ) → ℕ → ℕ
siblings_of R zero = 0
siblings_of R (suc i) = sibling_after R (suc i) (get_or R (suc i) [])

-- the workspace holds the rows R with their links
pub record Tree (R : List (List ℕ)) (ws : List ℕ) : Type 0 where
  pub rowed : Rowed R
  pub room : row_cells * length R ≤ length ws
  pub bytes : Column 0 (byte_of R) (length R) ws
  pub children : Column 1 (children_of R) (length R) ws
  pub siblings : Column 2 (siblings_of R) (length R) ws

-- the place of the last of the rows from n on that passes; d where none does
unfoldable pub last_from : ℕ → ℕ → (List ℕ → Bool) → List (List ℕ) → ℕ
last_from d n p [] = d
last_from d n p (r ∷ rows) = last_from (cond (p r) n d) (suc n) p rows

-- The question for the byte c at the row s: the child's row, if there is one; how many children are compared, up to and
-- with that child, or all; the last one compared, if there is a child at all.
pub record Answered (R : List (List ℕ)) (s : List ℕ) (c : ℕ) (r : Asked) : Type 0 where
  pub child : r.child ≡ link (row_of R (s ++ (c ∷ [])))
  pub compared : r.compared ≡ count_to (same (s ++ (c ∷ []))) (keep (child_of s) R)
  pub last : r.last ≡ cond (is_row R (s ++ (c ∷ []))) r.child (link (last_from 0 0 (child_of s) R))

-- where the number that leads to a new row stands: at its parent, or at the last of its siblings
unfoldable pub link_at : ℕ → Option ℕ → ℕ
link_at parent None = row_cells * parent + 1
link_at parent (Some last) = row_cells * last + 2

-- a workspace with one row more: six numbers behind the others, and the one link that leads there
unfoldable pub appended : List ℕ → ℕ → ℕ → Option ℕ → ℕ → List ℕ
appended ws rows parent last c = sets (set ws (link_at parent last) rows) (row_cells * rows) (c ∷ 0 ∷ 0 ∷ 0 ∷ 0 ∷ 0 ∷ [])

-- the workspace holds the rows R, with the keywords ks at theirs and neither failures nor dictionary rows
pub record Held (way : Way) (ks : List Keyword) (R : List (List ℕ)) (ws : List ℕ) : Type 0 where
  pub tree : Tree R ws
  pub failures : Column 3 (λ i. 0) (length R) ws
  pub keys : Column 4 (λ i. key_of way ks (get_or R i [])) (length R) ws
  pub dictionaries : Column 5 (λ i. 0) (length R) ws

-- what stands behind the first n rows is as it was
abbrev pub Beyond : ℕ → List ℕ → List ℕ → Type 0
Beyond n ws ws' = (length ws' ≡ length ws) × (drop (row_cells * n) ws' ≡ drop (row_cells * n) ws)
