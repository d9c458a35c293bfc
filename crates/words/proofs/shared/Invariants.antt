-- What each turn keeps.
use Rattle.rules.specs.rows.Rows.{read_by}
use Rattle.words.specs.Read.{way_of}
use Rattle.words.proofs.Compared.{Agreed}
use Rattle.words.proofs.shared.Given as goal

abbrev pub invariant-loop-k : goal.invariant-loop-k
invariant-loop-k l = Agreed (read_by (way_of l.way) l.string) (read_by (way_of l.way) l.other) l.k
