-- What each turn keeps.
use Rattle.rules.specs.sets.Sets.{keyword_of}
use Rattle.sets.proofs.Gathered.{Gathered}
use Rattle.sets.proofs.word.Given as goal

abbrev pub invariant-loop-k : goal.invariant-loop-k
invariant-loop-k l = Gathered (keyword_of l.number l.bytes).word l.units l.k
