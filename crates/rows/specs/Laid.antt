-- The rows of a set in a workspace, complete: what the jobs that follow them read.
use Rattle.std.specs.Prelude.{ℕ, List, [], length, get_or}
use Rattle.rules.specs.sets.Sets.{Keyword}
use Rattle.rules.specs.rows.Rows.{Way, rows_of, key_of, failure_cell, dictionary_cell}
use Rattle.rows.specs.Tree.{Column, Tree}

-- the workspace holds the rows of ks with all six numbers
pub record Laid (way : Way) (ks : List Keyword) (ws : List ℕ) : Type 0 where
  pub tree : Tree (rows_of way ks) ws
  pub failures : Column 3 (λ i. failure_cell way ks (rows_of way ks) (get_or (rows_of way ks) i [])) (length (rows_of way ks)) ws
  pub keys : Column 4 (λ i. key_of way ks (get_or (rows_of way ks) i [])) (length (rows_of way ks)) ws
  pub dictionaries : Column 5 (λ i. dictionary_cell way ks (rows_of way ks) (get_or (rows_of way ks) i [])) (length (rows_of way ks)) ws
