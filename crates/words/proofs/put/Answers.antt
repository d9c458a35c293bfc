-- The numbers are stored one behind the other, which is what the place then says.
use mathlib.Core.Path.{◌≡◌, ◌∙◌}
use native.Mathlib.Omega.{arith}
use lib.ListN.{length, length-set}
use Rattle.words.specs.Items.{stored}
use Rattle.words.proofs.Storing.{written, written_is}
use Rattle.words.proofs.put.Goals as goal
use Rattle.words.proofs.put.Goals.{After-put_units}

-- the list is as long as it was
kept : (c : After-put_units) → length c.put_units.new.words ≡ length c.args.words.now
kept c = c.put_units.auto.words ∙ simp length-set

pub bounds-words-at-2 : goal.bounds-words-at-2
bounds-words-at-2 c = simp length-set (omega arith)

pub put_units-requires : goal.put_units-requires
put_units-requires c = simp length-set (omega arith)

pub bounds-words-at-3 : goal.bounds-words-at-3
bounds-words-at-3 c = omega (arith, kept (goal.at.bounds-words-at-3 c).After-put_units)

pub bounds-words-at-4 : goal.bounds-words-at-4
bounds-words-at-4 c = simp length-set (omega (arith, kept (goal.at.bounds-words-at-4 c).After-put_units))

pub shape_of-words : goal.shape_of-words
shape_of-words c = simp length-set (kept (goal.at.shape_of-words c).After-put_units)

pub returns : goal.returns
unfolding stored written
returns c =
    let a = c.args in
    let p = c.requires in
    let meant =
    written_is a.words.now a.i a.word.number a.word.len a.word.units a.word.energy p.0
    c.put_units.ensures.1
    p.1 in
    (rw c.put_units.ensures.0, rw c.put_units.ensures.0 meant)
