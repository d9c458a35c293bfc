-- The empty suffix of keyword 0 is row 0 of any set.
use Rattle.skips.proofs.Places.{at_first}
use Rattle.skips.proofs.suffixes.first.Goals as goal

pub invariant_of-result : goal.invariant_of-result
invariant_of-result c = record { stands = at_first _ c.args.set.words.sound }
