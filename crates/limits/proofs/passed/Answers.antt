-- Keywords that passed are some, so there is a first one, and it is not empty.
use Prim.Native.Nat.{◌<◌}
use mathlib.Core.Path.{ap}
use lib.ListN.{length}
use native.Mathlib.Omega.{arith}
use Rattle.rules.specs.Beside.{no_keyword}
use Rattle.rules.proofs.strings.Orders.{get_or_mem}
use Rattle.words.proofs.Items.{has_at}
use Rattle.limits.proofs.passed.Goals as goal
use Rattle.limits.proofs.passed.Goals.{After-item_at-keyword}

pub item_at-keyword-requires : goal.item_at-keyword-requires
item_at-keyword-requires c = has_at c.args.words.shaped c.args.words.sound.some

-- it has a first unit, and a last one
some : (c : After-item_at-keyword) → 0 < length c.item_at-keyword.result.units.now
some c =
    let sound = c.args.words.sound in
    omega (arith, ap length c.item_at-keyword.ensures.units, sound.filled _ (get_or_mem _ no_keyword 0 sound.some))

pub unit-first-requires : goal.unit-first-requires
unit-first-requires c = some (goal.at.unit-first-requires c).After-item_at-keyword

pub unit-last-requires : goal.unit-last-requires
unit-last-requires c = some (goal.at.unit-last-requires c).After-item_at-keyword
