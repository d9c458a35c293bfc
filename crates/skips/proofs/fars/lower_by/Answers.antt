-- Each byte lowers its own numbers by the bytes behind it, as the rest of the keyword does from there on.
use mathlib.Core.Path.{◌≡◌, sym, ◌∙◌}
use mathlib.Core.List.{[]}
use lib.ListN.{drop, drop_of_length-le}
use Rattle.skips.specs.Fars.{lowered_by}
use Rattle.skips.proofs.Lowering.{lowered_next}
use Rattle.skips.proofs.fars.lower_by.Goals as goal

pub loop-k-preserved : goal.loop-k-preserved
loop-k-preserved c =
    let l = c.loop-k in
    rw c.lower.ensures (sym (lowered_next c.args.word.now l.far l.k c.loop-k-test.true) ∙ l.invariant)

pub returns : goal.returns
unfolding lowered_by
returns c =
    let l = c.loop-k in
    let none : drop l.k c.args.word.now ≡ [] = drop_of_length-le c.args.word.now c.loop-k-test.false in
    rw none at l.invariant
