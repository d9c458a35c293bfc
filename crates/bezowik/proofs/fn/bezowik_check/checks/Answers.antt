-- It is the check of the table.
use Rattle.bezowik.proofs.fn.bezowik_check.checks.Goals as goal

pub returns : goal.returns
returns c = c.check.ensures
