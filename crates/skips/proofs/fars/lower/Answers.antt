-- The numbers before depth z are lowered, so at depth d all are that a place with d bytes after it can lower.
use borrow.Author.Rules.{rules}
use native.Mathlib.Omega.{arith}
use native.Mathlib.Numerals.{add-one}
use mathlib.Core.Path.{◌≡◌, ◌∙◌}
use lib.ListN.{length}
use Rattle.rules.specs.sets.Limits.{depths}
use Rattle.skips.proofs.Lowering.{partly_none, partly_more, partly_all}
use Rattle.skips.proofs.fars.lower.Goals as goal
use Rattle.skips.proofs.fars.lower.Goals.{Start}

-- there are sixteen numbers
sized : (c : Start) → length c.args.numbers ≡ depths
sized c = search rules

pub loop-z-init : goal.loop-z-init
loop-z-init c = partly_none c.args.numbers c.args.d

pub loop-z-preserved : goal.loop-z-preserved
loop-z-preserved c =
    let a = c.args in
    let z = c.loop-z.z in
    let size = sized (goal.at.loop-z-preserved c).Start in
    rw (c.min.ensures, c.loop-z.invariant, add-one z) (partly_more a.numbers a.d z c.loop-z-test.true (omega (arith, size, c.loop-z-test.true, c.requires)))

pub returns : goal.returns
returns c = c.loop-z.invariant ∙ partly_all c.args.numbers c.args.d c.loop-z.z c.loop-z-test.false
