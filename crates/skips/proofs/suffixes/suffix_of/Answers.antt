-- The last bytes of a keyword are all that stand behind the others.
use Prim.Native.Nat.{◌-◌}
use native.Mathlib.Omega.{arith}
use mathlib.Core.Path.{ap}
use lib.ListN.{length, drop, length-drop}
use lib.Seq.{take_all}
use Rattle.rules.specs.Beside.{nth}
use Rattle.words.specs.Items.{keywords_in}
use Rattle.skips.specs.Suffixes.{suffix_at}
use Rattle.skips.proofs.Keywords.{listed_has}
use Rattle.skips.proofs.suffixes.suffix_of.Goals as goal

pub item_at-requires : goal.item_at-requires
item_at-requires c = listed_has c.args.row.set.words.shaped c.args.row.stands.walked.suffix.listed

pub overflow_sub-from : goal.overflow_sub-from
overflow_sub-from c = omega (arith, c.args.row.stands.walked.suffix.short, ap length c.item_at.ensures.units)

pub returns : goal.returns
unfolding suffix_at
returns c =
    let w = (nth (keywords_in c.args.row.set.words.list.now) c.args.row.keyword).word in
    let from = length w - c.args.row.depth in
    rw c.item_at.ensures.units (take_all (length w - from) (drop from w) (omega (arith, length-drop from w)))
