-- Before the first byte nothing is found, and the empty string is row 0.
use Rattle.forward.proofs.States.{scanning_none}
use Rattle.forward.proofs.fresh.Goals as goal

pub returns : goal.returns
returns c = λ ks hits. scanning_none ks hits (c.nothing.ensures hits)
