-- What each turn keeps, and what falls.
use Prim.Native.Nat.{◌+◌, ◌-◌}
use mathlib.Core.Path.{◌≡◌}
use Rattle.words.specs.Items.{keywords_in}
use Rattle.skips.proofs.Rowwise.{RowsPassed}
use Rattle.skips.proofs.judge.judge_rows.Given as goal

abbrev pub invariant-loop-row : goal.invariant-loop-row
invariant-loop-row l =
    (l.row.set.words.list.now ≡ l.set.words.list.now)
    × RowsPassed (keywords_in l.set.words.list.now) l.file (l.row.number + 1)

abbrev pub decreases-loop-row : goal.decreases-loop-row
decreases-loop-row l = l.set.rows - l.row.number
