-- The windows of a backward scan, under a table that was judged safe.
use Rattle.std.specs.Prelude.{ℕ, ◌+◌, ◌*◌, ◌≤◌, ◌<◌, ◌≡◌, length, Option, Some, None}
use mathlib.Core.List.{List, map, reverse}
use Rattle.std.specs.List.{All}
use Rattle.rules.specs.sets.Limits.{longest_word, longest_trace, row_record, depths, byte_file_size, most_energy}
use Rattle.rules.specs.sets.Sets.{Keyword}
use Rattle.rules.specs.rows.Rows.{backward}
use Rattle.rules.specs.scans.Hits.{Hit, hits, energy}
use Rattle.rules.specs.skips.Runs.{inner_in, edge_in, far_in, Stop, start, missing, move_by, run_questions}
use Rattle.rules.specs.answers.Refusals.{pass, table_verdict}
use Rattle.rules.specs.Beside.{Named}
use Rattle.words.specs.Items.{keywords_in}
use Rattle.rows.specs.Laid.{Laid}
use Rattle.hits.specs.Tallies.{Tallied, hit_of}
use Rattle.hits.specs.declared.Tally.{Tally}
use Rattle.backward.specs.declared.Seen.{Seen}

-- where a window stopped: no byte is left before it, or the last of those left has no child
abbrev pub stop_at : Option ℕ → Stop
stop_at None = start
stop_at (Some c) = missing c

-- how far the files move a window on that stopped at a row of some depth
abbrev pub move_in : List ℕ → List ℕ → ℕ → ℕ → Option ℕ → ℕ
move_in rowf bytef row depth last =
    move_by (inner_in rowf row) (edge_in rowf row) (λ a. far_in bytef a depth) (stop_at last)

-- the files have the numbers asked for
pub record Moving (rowf bytef : List ℕ) (row depth : ℕ) : Type 0 where
  pub rows : row_record * row + row_record ≤ length rowf
  pub bytes : length bytef ≡ byte_file_size
  pub shallow : depth < depths

-- the hits of a window at an end that met the keywords with these numbers, the shortest first: longest first
unfoldable pub window_of : List Keyword → ℕ → List ℕ → List Hit
window_of ks end met = map (hit_of ks end) (reverse met)

-- before the hits of a window are listed, whose keywords are of the list l
pub record Closing (l : List ℕ) (end : ℕ) (met : List ℕ)
    (done : List Hit) (old : List ℕ) (tally : Tally) (hs : List ℕ) : Type 0 where
  pub near : end ≤ longest_trace
  pub known : All (Named (keywords_in l)) met
  pub few : length done + length met ≤ longest_word * longest_trace
  pub little : energy done ≤ most_energy * length done
  pub tallied : Tallied done old tally hs

-- the trace is no longer than it may be, the table is safe, and the workspace holds the rows
pub record Safe (l t rowf bytef ws : List ℕ) : Type 0 where
  pub near : length t ≤ longest_trace
  pub safe : table_verdict (keywords_in l) rowf bytef ≡ pass
  pub laid : Laid backward (keywords_in l) ws

-- the whole run: every occurrence, and document 01's questions
pub record Ran (ks : List Keyword) (t rowf bytef old : List ℕ) (r : Seen) (hs : List ℕ) : Type 0 where
  pub tallied : Tallied (hits ks t) old r.tally hs
  pub asked : r.questions ≡ run_questions ks rowf bytef t
