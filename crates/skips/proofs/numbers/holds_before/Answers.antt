-- What is left of the keyword without its last n bytes ends with the suffix.
use native.Mathlib.Omega.{arith}
use mathlib.Core.Path.{sym, ◌∙◌}
use lib.Seq.{length-take-le}
use Rattle.rules.proofs.skips.Distances.{holds_short, holds-front}
use Rattle.skips.proofs.numbers.holds_before.Goals as goal

pub returns-then-keyword-n : goal.returns-then-keyword-n
returns-then-keyword-n c = sym (holds_short _ _ _ c.if-keyword-n.true)

pub slice_bounds-ends_with-end : goal.slice_bounds-ends_with-end
slice_bounds-ends_with-end c = sym (length-take-le _ _ (omega arith))

pub returns : goal.returns
returns c = c.ends_with.ensures ∙ sym (holds-front _ _ _ (omega (arith, c.if-keyword-n.false)))
