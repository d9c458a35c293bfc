-- At first each keyword stands at row 0 and only row 0 is filled; each turn fills a level more, and no row is longer
-- than the last.
use native.Mathlib.Omega.{arith}
use mathlib.Core.Path.{◌≡◌}
use lib.ListN.{get_or-replicate}
use Rattle.rules.specs.sets.Limits.{longest_word, most_keywords}
use Rattle.rows.proofs.Depth.{levelled_none}
use Rattle.rows.proofs.levels.fill.Goals as goal

pub loop-depth-init : goal.loop-depth-init
loop-depth-init c =
    levelled_none c.requires _ (λ k q. get_or-replicate most_keywords k 0 0 (omega (arith, c.args.words.sound.few)))

pub returns : goal.returns
returns c =
    let last : c.loop-depth.depth ≡ longest_word = omega arith in
    (rw last at c.loop-depth.invariant.filling, c.loop-depth.invariant.beyond)
