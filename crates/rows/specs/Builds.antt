-- The rows of keywords while they are built, keyword by keyword.
use Rattle.std.specs.Prelude.{ℕ, ◌+◌, ◌*◌, ◌≤◌, ◌<◌, ◌≡◌, List, length, take}
use Rattle.rules.specs.sets.Limits.{row_cells}
use Rattle.rules.specs.sets.Sets.{Keyword}
use Rattle.rules.specs.rows.Rows.{Way, rows_of}
use Rattle.rows.specs.Tree.{Held, Beyond}

-- the rows of the first n of the keywords ks
abbrev pub rows_to : Way → List Keyword → ℕ → List (List ℕ)
rows_to way ks n = rows_of way (take n ks)

-- Before the keyword at place i goes in: the rows of those before it are held, and there is room for its own.
pub record Inserting (way : Way) (ks : List Keyword) (i rows : ℕ) (ws : List ℕ) : Type 0 where
  pub within : i < length ks
  pub counted : rows ≡ length (rows_to way ks i)
  pub held : Held way (take i ks) (rows_to way ks i) ws
  pub room : row_cells * length (rows_to way ks (i + 1)) ≤ length ws

-- the rows of the keywords ks are built at the front of the workspace
pub record Built (way : Way) (ks : List Keyword) (rows : ℕ) (ws ws' : List ℕ) : Type 0 where
  pub counted : rows ≡ length (rows_of way ks)
  pub held : Held way ks (rows_of way ks) ws'
  pub beyond : Beyond rows ws ws'
