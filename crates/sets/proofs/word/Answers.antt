-- The array holds the units passed and zeros behind, so at the end the keyword.
use mathlib.Core.Path.{sym, ◌∙◌}
use native.Mathlib.Omega.{arith}
use Rattle.rules.specs.sets.Sets.{keyword_of}
use Rattle.sets.proofs.Records.{word-length, word_at}
use Rattle.sets.proofs.Gathered.{gathered_none, gathered_more, gathered_all}
use Rattle.sets.proofs.word.Goals as goal

pub loop-k-init : goal.loop-k-init
loop-k-init c = let p = c.requires.0 in gathered_none _ (omega (arith, word-length _ c.args.number _ p, p.short))

pub loop-k-preserved : goal.loop-k-preserved
loop-k-preserved c =
    let p = c.requires.0 in
    let a = c.args in
    gathered_more c.loop-k.invariant _ (c.from.ensures ∙ sym (word_at a.bytes.now a.number a.n p c.loop-k.k c.loop-k-test.true))
    (omega (arith, word-length a.bytes.now a.number a.n p))

pub returns : goal.returns
unfolding keyword_of
returns c =
    let p = c.requires.0 in
    let long = word-length c.args.bytes.now c.args.number c.args.n p in
    let word = gathered_all c.loop-k.invariant (sym long) c.loop-k-test.false in
    (rw (word, c.energy.ensures), p.short)
