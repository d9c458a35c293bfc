-- What each turn keeps.
use Rattle.words.specs.Items.{keywords_in}
use Rattle.words.specs.Read.{way_of}
use Rattle.rows.proofs.Spelling.{Spelled}
use Rattle.rows.proofs.build.insert.Given as goal

abbrev pub invariant-loop-k : goal.invariant-loop-k
invariant-loop-k l = Spelled (way_of l.way) (keywords_in l.words.list.now) l.i l.k l.row l.count l.initial.ws l.ws
