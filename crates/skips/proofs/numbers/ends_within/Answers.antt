-- A keyword of n bytes or fewer stands whole in the further bytes; of a longer one the suffix ends with what is left
-- without its last n.
use native.Mathlib.Omega.{arith}
use mathlib.Core.Path.{sym, ◌∙◌}
use lib.Seq.{length-take-le}
use Rattle.rules.proofs.skips.Distances.{ends_whole, ends-front}
use Rattle.skips.proofs.numbers.ends_within.Goals as goal

pub returns-then-keyword-n : goal.returns-then-keyword-n
returns-then-keyword-n c = sym (ends_whole _ _ _ c.if-keyword-n.true)

pub slice_bounds-ends_with-end : goal.slice_bounds-ends_with-end
slice_bounds-ends_with-end c = sym (length-take-le _ _ (omega arith))

pub returns : goal.returns
returns c = c.ends_with.ensures ∙ sym (ends-front _ _ _ c.if-keyword-n.false)
