-- The backward scan as document 01 runs it, by whatever numbers the lent files hold.
use Rattle.std.specs.Prelude.{ℕ, zero, suc, ◌+◌, ◌*◌, min, max, cond, length, take, get_or, leb}
use mathlib.Core.List.{List, [], ◌∷◌, ◌++◌, map, flat_map, reverse}
use Rattle.rules.specs.sets.Limits.{row_record, depths}
use Rattle.rules.specs.sets.Sets.{Keyword, keywords_that_are}
use Rattle.rules.specs.rows.Rows.{backward, prefixes, rows_of, row_of, is_row}
use Rattle.rules.specs.scans.Hits.{Hit}

-- the numbers of the files
abbrev pub inner_in : List ℕ → ℕ → ℕ
inner_in rowf row = get_or rowf (row_record * row + 16) 0

abbrev pub edge_in : List ℕ → ℕ → ℕ
edge_in rowf row = get_or rowf (row_record * row + 17) 0

abbrev pub far_in : List ℕ → ℕ → ℕ → ℕ
far_in bytef a z = get_or bytef (depths * a + z) 0

-- Where the reading of a window stopped: no byte remained, or this byte has no child.
pub data Stop : Type 0 where
  start : Stop
  missing : ℕ → Stop

-- One window: the bytes read that are a row, nearest first, and where the reading stopped.
pub record Window : Type 0 where
  pub read : List ℕ
  pub stop : Stop

-- from the row s on, over the bytes that stand before it, nearest first
unfoldable pub window_from : List (List ℕ) → List ℕ → List ℕ → Window
window_from rows s [] = record { read = s; stop = start }
window_from rows s (c ∷ before) =
    cond (is_row rows (s ++ (c ∷ [])))
    (window_from rows (s ++ (c ∷ [])) before)
    (record { read = s; stop = missing c })

-- the window at the end e, from row 0
unfoldable pub window_at : List (List ℕ) → List ℕ → ℕ → Window
window_at rows t e = window_from rows [] (reverse (take e t))

-- one question for each byte read, the one without a child too
unfoldable pub asked_of : ℕ → Stop → ℕ
asked_of n start = n
asked_of n (missing c) = suc n

unfoldable pub asked : Window → ℕ
asked w = asked_of (length w.read) w.stop

-- how far a window moves on, by the numbers of its row: edge where every byte read had a child, else the lesser of edge
-- and the greater of inner and far
unfoldable pub move_by : ℕ → ℕ → (ℕ → ℕ) → Stop → ℕ
move_by inner_of edge_of far_of start = edge_of
move_by inner_of edge_of far_of (missing c) = min edge_of (max inner_of (far_of c))

-- far is taken for the byte without a child at the row's depth
unfoldable pub move : List (List ℕ) → List ℕ → List ℕ → Window → ℕ
move rows rowf bytef w =
    let row = row_of rows w.read in
    move_by (inner_in rowf row) (edge_in rowf row) (λ c. far_in bytef c (length w.read)) w.stop

-- the ends that are visited from e on; the first number bounds how many
unfoldable pub visits_from : ℕ → List (List ℕ) → List ℕ → List ℕ → List ℕ → ℕ → List ℕ
visits_from zero rows rowf bytef t e = []
visits_from (suc left) rows rowf bytef t e =
    let rest = visits_from left rows rowf bytef t (e + move rows rowf bytef (window_at rows t e)) in
    cond (leb e (length t)) (e ∷ rest) []

-- The scan starts at end 0 and moves on by row 0's edge number. Every accepted number is at least 1, so there are no
-- more windows than bytes.
unfoldable pub visits : List Keyword → List ℕ → List ℕ → List ℕ → List ℕ
visits ks rowf bytef t = visits_from (length t) (rows_of backward ks) rowf bytef t (edge_in rowf 0)

unfoldable pub asked_all : List (List ℕ) → List ℕ → List ℕ → ℕ
asked_all rows t [] = 0
asked_all rows t (e ∷ es) = asked (window_at rows t e) + asked_all rows t es

-- the questions of the run
unfoldable pub run_questions : List Keyword → List ℕ → List ℕ → List ℕ → ℕ
run_questions ks rowf bytef t = asked_all (rows_of backward ks) t (visits ks rowf bytef t)

-- the keywords whose rows a window enters, the last one entered first
unfoldable pub entered : List Keyword → Window → List Keyword
entered ks w = flat_map (λ s. keywords_that_are (reverse s) ks) (reverse (prefixes w.read))

unfoldable pub window_hits : List Keyword → List (List ℕ) → List ℕ → ℕ → List Hit
window_hits ks rows t e = map (λ k. record { end = e; keyword = k }) (entered ks (window_at rows t e))

-- the hits of the run: every keyword row entered is one
unfoldable pub run_hits : List Keyword → List ℕ → List ℕ → List ℕ → List Hit
run_hits ks rowf bytef t = flat_map (window_hits ks (rows_of backward ks) t) (visits ks rowf bytef t)
