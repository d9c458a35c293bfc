-- The table has the nearest distances of the keywords passed, so behind the last one the far numbers.
use Prim.Native.Nat.{◌*◌}
use native.Mathlib.Omega.{arith}
use mathlib.Core.Path.{◌≡◌}
use lib.ListN.{length}
use Rattle.rules.specs.sets.Limits.{longest_word}
use Rattle.rules.proofs.skips.Least.{shortest_pos, shortest_short}
use Rattle.words.specs.Items.{keywords_in}
use Rattle.words.proofs.Items.{has_at}
use Rattle.skips.specs.Suffixes.{Listed}
use Rattle.skips.proofs.Keywords.{listed_bytes}
use Rattle.skips.proofs.FarTable.{table_none, table_keyword, table_all}
use Rattle.skips.proofs.fars.far_numbers.Goals as goal
use Rattle.skips.proofs.fars.far_numbers.Goals.{In-loop-i}

pub overflow_cast-far : goal.overflow_cast-far
overflow_cast-far c = omega (arith, c.args.set.capped, shortest_short c.args.set.words.sound)

pub loop-i-init : goal.loop-i-init
loop-i-init c =
    let set = c.args.set in
    table_none (keywords_in set.words.list.now) set.cap (omega (arith, set.capped, shortest_pos set.words.sound))

-- the keyword in hand
listed : (c : In-loop-i) → Listed (keywords_in c.args.set.words.list.now) c.loop-i.i
listed c = record { sound = c.args.set.words.sound; within = omega (arith, c.loop-i-test.true, c.count_of-i-end.ensures) }

pub item_at-requires : goal.item_at-requires
item_at-requires c = has_at c.args.set.words.shaped (listed (goal.at.item_at-requires c).In-loop-i).within

pub lower_by-requires : goal.lower_by-requires
lower_by-requires c = rw c.item_at.ensures.units (listed_bytes (listed (goal.at.lower_by-requires c).In-loop-i))

pub loop-i-preserved : goal.loop-i-preserved
loop-i-preserved c =
    let ok = listed_bytes (listed (goal.at.loop-i-preserved c).In-loop-i) in
    rw (c.lower_by.ensures, c.item_at.ensures.units) (table_keyword c.loop-i.i ok c.loop-i.invariant)

pub returns : goal.returns
returns c =
    let set = c.args.set in
    let ks = keywords_in set.words.list.now in
    let all : longest_word * c.loop-i.i ≡ longest_word * length ks = omega (arith, c.count_of-i-end.ensures) in
    table_all ks set.words.sound (rw (all, set.capped) at c.loop-i.invariant)
