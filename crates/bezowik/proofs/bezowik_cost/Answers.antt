-- A short answer is refused before anything is touched; else what is written is the host call's answer.
use Rattle.std.proofs.Common.{rules}
use Rattle.bezowik.specs.Calls.{told_of}
use Rattle.bezowik.proofs.Telling.{host_called}
use Rattle.bezowik.proofs.bezowik_cost.Goals as goal

pub returns : goal.returns
returns c =
    let a = c.args in
    let promise = c.answered.ensures in
    host_called a.set.now a.trace.now a.answer.now (told_of c.answered.result)
    (λ h. let (number, written, same) = promise.short h in (number, written))
    (λ h. let (ran, written) = promise.called h in (search rules, written))
