-- The most is taken over the keywords passed, so at the end over all earlier ones.
use mathlib.Core.Path.{◌≡◌}
use native.Mathlib.Omega.{arith}
use Rattle.words.specs.Items.{keywords_in}
use Rattle.words.specs.Read.{way_of, read_at}
use Rattle.words.proofs.Items.{has_at}
use Rattle.words.proofs.Counted.{most_none, most_more}
use Rattle.words.proofs.most_shared.Goals as goal

pub loop-j-init : goal.loop-j-init
loop-j-init c = most_none _ _ _

pub item_at-requires-in-loop-j : goal.item_at-requires-in-loop-j
item_at-requires-in-loop-j c =
    let p = c.requires in
    has_at p.words (omega (arith, p.within))

pub loop-j-preserved : goal.loop-j-preserved
unfolding read_at
loop-j-preserved c =
    let a = c.args in
    let ks = keywords_in a.words.list.now in
    let more = most_more ks c.loop-j.j (omega (arith, c.requires.within)) (way_of a.way) (read_at (way_of a.way) ks a.i) in
    let shared = rw (c.item_at-in-loop-j.ensures.units, c.item_at.ensures.units) at c.shared.ensures in
    grind (arith, more, shared)

pub returns : goal.returns
returns c =
    let all : c.loop-j.j ≡ c.args.i = omega arith in
    rw all at c.loop-j.invariant
