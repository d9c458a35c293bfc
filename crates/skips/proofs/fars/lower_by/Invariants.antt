-- What each turn keeps: what is left of the keyword lowers the numbers to what the whole keyword makes of them.
use mathlib.Core.Path.{◌≡◌}
use lib.ListN.{drop}
use Rattle.skips.specs.Fars.{lowered_by}
use Rattle.skips.proofs.fars.lower_by.Given as goal

abbrev pub invariant-loop-k : goal.invariant-loop-k
invariant-loop-k l = lowered_by (drop l.k l.word) l.far ≡ lowered_by l.word l.initial.far
