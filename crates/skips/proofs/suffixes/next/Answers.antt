-- All rows up to depth z of keyword i are passed and some are left, so where the keyword ends there is a later one.
use Prim.Native.Nat.{◌+◌}
use native.Mathlib.Omega.{arith}
use mathlib.Core.Path.{◌∙◌, ap}
use lib.ListN.{length}
use Rattle.words.specs.Items.{keywords_in}
use Rattle.words.specs.Read.{way_of}
use Rattle.skips.specs.Suffixes.{Walked, shared_at}
use Rattle.skips.proofs.Keywords.{listed_has, listed_short}
use Rattle.skips.proofs.Places.{walked_row, walked_next}
use Rattle.skips.proofs.suffixes.next.Goals as goal
use Rattle.skips.proofs.suffixes.next.Goals.{In-loop-z}

pub loop-z-init : goal.loop-z-init
loop-z-init c = c.args.row.stands.walked

pub item_at-requires : goal.item_at-requires
item_at-requires c = listed_has c.args.row.set.words.shaped c.loop-z.invariant.suffix.listed

-- the keyword at place i is passed, and the next one is walked as far as it shares
passed : (c : In-loop-z)
    → Walked
    (keywords_in c.args.row.set.words.list.now)
    (c.args.row.number + 1)
    (c.loop-z.i + 1)
    (shared_at (keywords_in c.args.row.set.words.list.now) (c.loop-z.i + 1))
passed c =
    walked_next c.loop-z.invariant c.requires (c.loop-z-test.true ∙ ap length c.item_at.ensures.units)

pub overflow_add-i : goal.overflow_add-i
overflow_add-i c = omega (arith, (listed_has c.args.row.set.words.shaped c.loop-z.invariant.suffix.listed).room)

pub most_shared-z-requires : goal.most_shared-z-requires
most_shared-z-requires c =
    let there = (passed (goal.at.most_shared-z-requires c).In-loop-z).suffix.listed in
    listed_has c.args.row.set.words.shaped there

pub loop-z-smaller : goal.loop-z-smaller
loop-z-smaller c = omega (arith, c.loop-z.invariant.suffix.listed.within)

pub loop-z-preserved : goal.loop-z-preserved
unfolding shared_at way_of
loop-z-preserved c = rw c.most_shared-z.ensures (passed (goal.at.loop-z-preserved c).In-loop-z)

pub overflow_add-result : goal.overflow_add-result
overflow_add-result c = omega (arith, c.loop-z.invariant.suffix.short, listed_short c.loop-z.invariant.suffix.listed)

pub invariant_of-result : goal.invariant_of-result
invariant_of-result c =
    let so = c.loop-z.invariant in
    record { stands = walked_row so c.requires (omega (arith, so.suffix.short, ap length c.item_at.ensures.units)) }
