-- The failure and dictionary rows, level by level.
use Rattle.std.specs.Prelude.{ℕ, ◌<◌, ◌≡◌, List, length, get_or, take}
use Rattle.rules.specs.sets.Limits.{longest_word}
use Rattle.rules.specs.sets.Sets.{Keyword}
use Rattle.rules.specs.rows.Rows.{forward, rows_of, row_of}
use Rattle.rules.specs.Beside.{nth}
use Rattle.rows.specs.Tree.{Beyond}
use Rattle.rows.specs.Falls.{Filling}

-- each of the keywords ks stands at the row of its first d bytes
abbrev pub Stands : List Keyword → ℕ → List ℕ → Type 0
Stands ks d standing =
    (i : ℕ) → i < length ks → get_or standing i 0 ≡ row_of (rows_of forward ks) (take d (nth ks i).word)

-- before a level
pub record Level (ks : List Keyword) (d : ℕ) (standing : List ℕ) (ws : List ℕ) : Type 0 where
  pub filling : Filling ks d ws
  pub stands : Stands ks d standing
  pub shallow : d < longest_word

-- after levels: those of at most d bytes are filled, nothing behind the rows is touched
pub record Levelled (ks : List Keyword) (d : ℕ) (standing : List ℕ) (ws ws' : List ℕ) : Type 0 where
  pub filling : Filling ks d ws'
  pub stands : Stands ks d standing
  pub beyond : Beyond (length (rows_of forward ks)) ws ws'
