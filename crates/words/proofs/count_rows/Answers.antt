-- Each keyword adds to the rows what no earlier one begins with, so the count is that of the keywords passed.
use Prim.Native.Nat.{◌<◌}
use mathlib.Core.Path.{◌≡◌, sym, ap}
use lib.ListN.{length, take}
use lib.Seq.{take_all}
use native.Mathlib.Omega.{arith}
use Rattle.words.specs.Items.{Has, keywords_in}
use Rattle.words.specs.Read.{way_of}
use Rattle.words.proofs.Items.{has_at}
use Rattle.words.proofs.Counted.{rows_none, rows_more, most_within}
use Rattle.words.proofs.count_rows.Goals as goal
use Rattle.words.proofs.count_rows.Goals.{At-loop-i}

-- there is a keyword at each place that is passed
has : (c : At-loop-i)
    → c.loop-i.i < c.count_of-i-end.result
    → Has c.args.words.list.now c.loop-i.i
has c below = has_at c.args.words.shaped (omega (arith, c.count_of-i-end.ensures))

pub loop-i-init : goal.loop-i-init
loop-i-init c =
    let a = c.args in
    (rows_none (way_of a.way) (keywords_in a.words.list.now), omega arith)

pub item_at-requires : goal.item_at-requires
item_at-requires c = has (goal.at.item_at-requires c).At-loop-i c.loop-i-test.true

pub most_shared-requires : goal.most_shared-requires
most_shared-requires c = has (goal.at.most_shared-requires c).At-loop-i c.loop-i-test.true

pub overflow_sub-rows : goal.overflow_sub-rows
overflow_sub-rows c =
    let here = has (goal.at.overflow_sub-rows c).At-loop-i c.loop-i-test.true in
    let way = way_of c.args.way in
    omega (arith, ap length c.item_at.ensures.units, c.most_shared.ensures, most_within _ _ here.within way)

pub overflow_add-rows : goal.overflow_add-rows
overflow_add-rows c =
    omega (arith, c.item_at.ensures.short, c.count_of-i-end.ensures, c.args.words.sound.few)

pub loop-i-preserved : goal.loop-i-preserved
loop-i-preserved c =
    let ks = keywords_in c.args.words.list.now in
    let way = way_of c.args.way in
    let more = rows_more ks c.loop-i.i (has (goal.at.loop-i-preserved c).At-loop-i c.loop-i-test.true).within way in (
      sym (rw (more, ← c.loop-i.invariant.0, ← c.most_shared.ensures, ← c.item_at.ensures.units)),
      omega (arith, c.item_at.ensures.short),
    )

pub returns : goal.returns
returns c =
    let ks = keywords_in c.args.words.list.now in
    let count = c.count_of-i-end.ensures in
    let all : take c.loop-i.i ks ≡ ks = take_all c.loop-i.i ks (omega (arith, count)) in
    (rw all at c.loop-i.invariant.0, omega (arith, c.args.words.sound.few, count))
