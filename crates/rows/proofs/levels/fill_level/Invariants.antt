-- What each turn keeps.
use Rattle.words.specs.Items.{keywords_in}
use Rattle.rows.proofs.Depth.{Halfway}
use Rattle.rows.proofs.levels.fill_level.Given as goal

abbrev pub invariant-loop-i : goal.invariant-loop-i
invariant-loop-i l = Halfway (keywords_in l.words.list.now) l.depth l.initial.ws l.i l.standing l.ws
