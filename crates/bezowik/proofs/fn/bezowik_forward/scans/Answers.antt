-- It is the forward scan.
use Rattle.bezowik.proofs.fn.bezowik_forward.scans.Goals as goal

pub returns : goal.returns
returns c = c.scan.ensures
