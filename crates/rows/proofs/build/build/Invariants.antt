-- What each turn keeps.
use lib.ListN.{take}
use Rattle.words.specs.Items.{keywords_in}
use Rattle.words.specs.Read.{way_of}
use Rattle.rows.specs.Builds.{Built}
use Rattle.rows.proofs.build.build.Given as goal

abbrev pub invariant-loop-i : goal.invariant-loop-i
invariant-loop-i l = Built (way_of l.way) (take l.i (keywords_in l.words.list.now)) l.rows l.fn.ws l.ws
