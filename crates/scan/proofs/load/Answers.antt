-- A file that is longer than the most is not handed on. The check finds this too; it stands here so that a longer one is
-- refused for the fact.
use native.Mathlib.Omega.{arith}
use lib.ListN.{length-take}
use Rattle.scan.proofs.load.Goals as goal

pub returns : goal.returns
returns c = omega (arith, length-take c.fill-size.result c.fill-size.new.buffer)
