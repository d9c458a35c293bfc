-- What each turn keeps.
use Prim.Native.Nat.{◌*◌}
use Rattle.rules.specs.sets.Limits.{longest_word}
use Rattle.words.specs.Items.{keywords_in}
use Rattle.skips.proofs.FarTable.{Table}
use Rattle.skips.proofs.fars.far_numbers.Given as goal

abbrev pub invariant-loop-i : goal.invariant-loop-i
invariant-loop-i l = Table (keywords_in l.set.words.list.now) l.set.cap (longest_word * l.i) l.far
