-- The number is told from 0, and any other names the row that it is.
use native.Mathlib.Omega.{arith}
use mathlib.Core.Path.{sym, ◌∙◌, ap}
use Rattle.rows.specs.Tree.{link}
use Rattle.rows.proofs.Links.{link_some}
use Rattle.rows.proofs.cells.named.Goals as goal

pub returns-in-0 : goal.returns-in-0
unfolding link
returns-in-0 c = (ap link (sym c.in-0.is ∙ c.get.ensures), omega arith)

pub returns-in_default : goal.returns-in_default
returns-in_default c = (rw (c.from.ensures, ← c.get.ensures) (sym (link_some c.get.result (λ z. omega arith))), omega arith)
