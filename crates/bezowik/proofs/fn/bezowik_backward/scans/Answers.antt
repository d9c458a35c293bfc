-- It is the backward scan.
use Rattle.bezowik.proofs.fn.bezowik_backward.scans.Goals as goal

pub returns : goal.returns
returns c = c.scan.ensures
