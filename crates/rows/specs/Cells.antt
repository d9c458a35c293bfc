-- Where each number of a row stands.
use Rattle.std.specs.Prelude.{ℕ}
use Rattle.rows.specs.declared.cells.Cell.{Cell}
use Rattle.rows.specs.declared.cells.Cell.TheVariants.{Byte, Child, Sibling, Failure, Key, Dictionary}

-- the place of a number among the six
abbrev pub place : Cell → ℕ
place Byte = 0
place Child = 1
place Sibling = 2
place Failure = 3
place Key = 4
place Dictionary = 5
