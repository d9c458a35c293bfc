-- What each turn keeps.
use Prim.Native.Nat.{◌+◌, ◌*◌, ◌≤◌}
use mathlib.Core.Path.{◌≡◌}
use lib.ListN.{length, take}
use Rattle.rules.specs.sets.Limits.{longest_word}
use Rattle.rules.specs.rows.Rows.{rows_of}
use Rattle.words.specs.Items.{keywords_in}
use Rattle.words.specs.Read.{way_of}
use Rattle.words.proofs.count_rows.Given as goal

abbrev pub invariant-loop-i : goal.invariant-loop-i
invariant-loop-i l =
    (l.rows ≡ length (rows_of (way_of l.way) (take l.i (keywords_in l.words.list.now)))) × (l.rows ≤ 1 + longest_word * l.i)
