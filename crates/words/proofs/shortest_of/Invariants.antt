-- What each turn keeps.
use mathlib.Core.Path.{◌≡◌}
use lib.ListN.{take}
use Rattle.rules.specs.sets.Sets.{shortest}
use Rattle.words.specs.Items.{keywords_in}
use Rattle.words.proofs.shortest_of.Given as goal

abbrev pub invariant-loop-i : goal.invariant-loop-i
invariant-loop-i l = l.least ≡ shortest (take l.i (keywords_in l.words.list.now))
