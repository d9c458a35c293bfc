-- The energy stands in the last four bytes of the record, the low one first.
use native.Mathlib.Omega.{arith}
use Rattle.rules.specs.sets.Sets.{keyword_of}
use Rattle.sets.proofs.energy.Goals as goal

pub returns : goal.returns
unfolding keyword_of
returns c = omega (arith, c.from_le_bytes.ensures)
