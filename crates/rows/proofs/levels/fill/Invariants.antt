-- What each turn keeps.
use Rattle.words.specs.Items.{keywords_in}
use Rattle.rows.specs.Levels.{Levelled}
use Rattle.rows.proofs.levels.fill.Given as goal

abbrev pub invariant-loop-depth : goal.invariant-loop-depth
invariant-loop-depth l = Levelled (keywords_in l.words.list.now) l.depth l.standing l.fn.ws l.ws
