-- No hit is counted, none is charged, and the buffer is as it was.
use Rattle.hits.proofs.Tallying.{tallied_none}
use Rattle.hits.proofs.nothing.Goals as goal

pub returns : goal.returns
returns c = tallied_none
