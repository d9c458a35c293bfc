-- The tests are the definition's, in its order.
use borrow.Author.Tests.{eq-eqb, ne_eqb}
use Rattle.rules.specs.answers.Refusals.{faulty}
use Rattle.skips.proofs.judge.faulty.Goals as goal

pub returns-then-n-eq0 : goal.returns-then-n-eq0
unfolding faulty
returns-then-n-eq0 c = rw (eq-eqb c.args.n 0 c.if-n-eq0.true)

pub returns-else-n-eq0 : goal.returns-else-n-eq0
unfolding faulty
returns-else-n-eq0 c = rw (ne_eqb c.args.n 0 c.if-n-eq0.false)
