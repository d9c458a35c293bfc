-- Each turn steps over the byte at the end, and the end goes on by one. The check finds this too; it stands here so that a
-- turn without its step is refused for the fact.
use native.Mathlib.Omega.{arith}
use Rattle.forward.proofs.proceed.Goals as goal

pub loop-c-preserved : goal.loop-c-preserved
loop-c-preserved g c =
    let so = c.loop-c.invariant in
    let called = c.step-next in
    record { going = called.ensures.going; end = omega (arith, called.ensures.further, so.end) }
