-- The list begins with the set's keywords, so its front is the list of them, and they are sound.
use Prim.Native.Nat.{◌*◌}
use mathlib.Core.Path.{◌≡◌, sym}
use lib.ListN.{take}
use native.Mathlib.Omega.{arith}
use lib.Seq.{length-take-le}
use Rattle.rules.specs.sets.Sets.{keywords}
use Rattle.words.specs.Items.{item_size, Words, keywords_in}
use Rattle.words.proofs.Storing.{begins_cut}
use Rattle.sets.proofs.read_keywords.Goals as goal
use Rattle.sets.proofs.read_keywords.Goals.{In_ok-count}

-- the front is the list of the set's keywords
front : (c : In_ok-count)
    → let l = take (item_size * c.in_ok-count.count) c.read.new.list in
    Words l × (keywords_in l ≡ keywords c.args.set.now)
front c = let (passed, count, begins, sound) = c.in_ok-count.ensures in begins_cut c.in_ok-count.count count begins

pub slice_bounds-result-end : goal.slice_bounds-result-end
slice_bounds-result-end c = let (passed, count, begins, sound) = c.in_ok-count.ensures in sym (length-take-le _ _ (omega (arith, count, begins.room)))

pub invariant_of-result : goal.invariant_of-result
invariant_of-result c =
    let (words, holds) = front (goal.at.invariant_of-result c).In_ok-count in
    record {
      shaped = words;
      sound = rw holds (c.in_ok-count.ensures).3;
    }

pub returns : goal.returns
returns c = ((c.in_ok-count.ensures).0, (front (goal.at.returns c).In_ok-count).1)
