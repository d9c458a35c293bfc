-- What each turn keeps, and what falls.
use Rattle.sets.proofs.Files.{Records}
use Rattle.sets.proofs.read.Given as goal

abbrev pub invariant-loop-i : goal.invariant-loop-i
invariant-loop-i l = Records l.set l.i l.list
