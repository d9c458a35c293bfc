-- It is the making of the tables.
use Rattle.bezowik.proofs.fn.bezowik_make.makes.Goals as goal

pub returns : goal.returns
returns c = c.make.ensures
