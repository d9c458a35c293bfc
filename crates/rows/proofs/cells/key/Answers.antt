-- The number stands plus one, so one less is what is named, and there is none where that cannot be.
use native.Mathlib.Omega.{arith}
use mathlib.Core.Path.{◌∙◌, ap}
use Rattle.rows.specs.Tree.{own}
use Rattle.rows.proofs.Links.{own_less}
use Rattle.rows.proofs.cells.key.Goals as goal

pub returns : goal.returns
returns c = (own_less c.checked_sub.result c.get.result c.checked_sub.ensures ∙ ap own c.get.ensures, omega arith)
