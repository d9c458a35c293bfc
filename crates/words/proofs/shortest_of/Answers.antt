-- The least length is taken over the keywords passed, the first among them, so at the end over all.
use mathlib.Core.Path.{◌≡◌, ◌∙◌, ap}
use lib.ListN.{length, take}
use lib.Seq.{take_all}
use native.Mathlib.Omega.{arith}
use Rattle.words.specs.Items.{keywords_in}
use Rattle.words.proofs.Items.{has_at}
use Rattle.words.proofs.Counted.{least_one, least_more}
use Rattle.words.proofs.shortest_of.Goals as goal

pub item_at-requires : goal.item_at-requires
item_at-requires c = let p = c.args.words in has_at p.shaped (omega (arith, p.sound.some))

pub loop-i-init : goal.loop-i-init
loop-i-init c = let p = c.args.words in ap length c.item_at.ensures.units ∙ least_one (keywords_in c.args.words.list.now) p.sound.some

pub item_at-requires-in-loop-i : goal.item_at-requires-in-loop-i
item_at-requires-in-loop-i c = has_at c.args.words.shaped (omega (arith, c.count_of-i-end.ensures))

pub loop-i-preserved : goal.loop-i-preserved
loop-i-preserved c =
    let ks = keywords_in c.args.words.list.now in
    omega (arith, least_more ks c.loop-i.i (omega (arith, c.count_of-i-end.ensures)) (omega arith), ap length c.item_at-in-loop-i.ensures.units)

pub returns : goal.returns
returns c =
    let ks = keywords_in c.args.words.list.now in
    let all : take c.loop-i.i ks ≡ ks = take_all c.loop-i.i ks (omega (arith, c.count_of-i-end.ensures)) in
    rw all at c.loop-i.invariant
