-- The forward scan runs in a workspace that is always enough, so its answer is the host call's.
use native.Mathlib.Omega.{arith}
use Rattle.bezowik.proofs.Telling.{host_answered}
use Rattle.bezowik.proofs.cost.Goals as goal

pub returns : goal.returns
returns c = host_answered c.args.set.now c.args.trace.now (omega arith) c.scan.ensures
