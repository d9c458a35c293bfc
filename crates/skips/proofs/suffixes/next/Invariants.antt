-- What each turn keeps, and what falls.
use Prim.Native.Nat.{◌+◌, ◌-◌}
use lib.ListN.{length}
use Rattle.words.specs.Items.{keywords_in}
use Rattle.skips.specs.Suffixes.{Walked}
use Rattle.skips.proofs.suffixes.next.Given as goal

abbrev pub invariant-loop-z : goal.invariant-loop-z
invariant-loop-z l = Walked (keywords_in l.words.list.now) (l.row.number + 1) l.i l.z

abbrev pub decreases-loop-z : goal.decreases-loop-z
decreases-loop-z l = length (keywords_in l.words.list.now) - l.i
