-- What each turn keeps.
use Rattle.skips.proofs.Spelling.{Spelled}
use Rattle.skips.proofs.suffixes.record_of.Given as goal

abbrev pub invariant-loop-k : goal.invariant-loop-k
invariant-loop-k l = Spelled l.suffix l.numbers l.k
