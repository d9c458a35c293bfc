-- Each way out is the first test of the record that shows a fault, and the last where none does: then its keyword is
-- kept.
use Prim.Native.Nat.{◌+◌, ◌*◌, ◌≤◌}
use mathlib.Core.Path.{◌≡◌, sym, ◌∙◌, ap}
use lib.ListN.{length, get_or}
use lib.Seq.{length-take-le}
use native.Mathlib.Omega.{arith}
use Rattle.rules.specs.Beside.{keyword_at, record_at}
use Rattle.words.specs.Items.{item_size, Stored}
use Rattle.sets.specs.Reading.{Reading, padding_fault}
use Rattle.sets.proofs.Records.{record_is}
use Rattle.sets.proofs.Judged.{judged_empty, judged-long, judged_padding, judged_repeated, judged_pass}
use Rattle.sets.proofs.Keeping.{kept-begins, kept_has, kept_repeated}
use Rattle.sets.proofs.Files.{record_refused, record-kept}
use Rattle.sets.proofs.read_record.Goals as goal
use Rattle.sets.proofs.read_record.Goals.{After-from-n, After-unpadded, After-put}

-- the length and the padding are those of the record
stated : (c : After-from-n) → c.from-n.result ≡ get_or (record_at c.args.set.now c.args.i) 0 0
stated c = c.from-n.ensures ∙ ap (λ r. get_or r 0 0) (record_is c.args.set.now c.args.i)

padded : (c : After-unpadded) → padding_fault (record_at c.args.set.now c.args.i) c.from-n.result ≡ c.unpadded.result
padded c = sym (c.unpadded.ensures ∙ ap (λ r. padding_fault r c.from-n.result) (record_is c.args.set.now c.args.i))

-- what was known before the record, and that its keyword is stored
reading : (c : After-put)
    → let a = c.args in
    Reading a.set.now a.i a.list.now
reading c = c.requires

stored : (c : After-put)
    → let a = c.args in
    Stored a.list.now a.i (keyword_at a.set.now a.i) c.put.new.words
unfolding keyword_at
stored c = rw (c.word.ensures.0, record_is c.args.set.now c.args.i) at c.put.ensures.1

-- it is as long as it was
sized : (c : After-put)
    → let a = c.args in
    item_size * (a.i + 1) ≤ length c.put.new.words
sized c = omega (arith, (reading c).few, (reading c).room, c.put.auto.words)

pub returns-then-n-eq0 : goal.returns-then-n-eq0
returns-then-n-eq0 c =
    record_refused _ (judged_empty _ _ _ _ (stated (goal.at.returns-then-n-eq0 c).After-from-n) c.if-n-eq0.true)

pub returns-then-n-gt-LONGEST : goal.returns-then-n-gt-LONGEST
returns-then-n-gt-LONGEST c =
    record_refused _ (judged-long _ _ _ _ (stated (goal.at.returns-then-n-gt-LONGEST c).After-from-n) c.if-n-gt-LONGEST.true)

pub returns-then-unpadded : goal.returns-then-unpadded
returns-then-unpadded c =
    let at = goal.at.returns-then-unpadded c in
    record_refused _
    (judged_padding _ _ _ _ (stated at.After-from-n)
    c.if-n-eq0.false
    c.if-n-gt-LONGEST.false
    (padded at.After-unpadded ∙ c.if-unpadded.true))

pub slice_bounds-repeated-end-2 : goal.slice_bounds-repeated-end-2
slice_bounds-repeated-end-2 c =
    sym (length-take-le _ _ (omega (arith, sized (goal.at.slice_bounds-repeated-end-2 c).After-put)))

pub repeated-requires : goal.repeated-requires
repeated-requires c = let at = (goal.at.repeated-requires c).After-put in kept_has (reading at) (stored at)

pub returns-then-repeated : goal.returns-then-repeated
unfolding keyword_at
returns-then-repeated c =
    let at = goal.at.returns-then-repeated c in
    record_refused _
    (judged_repeated _ _ _ _ (stated at.After-from-n)
    c.if-n-eq0.false
    c.if-n-gt-LONGEST.false
    (padded at.After-unpadded ∙ c.if-unpadded.false)
    (kept_repeated (reading at.After-put) (stored at.After-put) c.repeated.ensures ∙ c.if-repeated.true))

pub returns : goal.returns
unfolding keyword_at
returns c =
    let at = goal.at.returns c in
    record-kept
    (judged_pass _ _ _ _ (stated at.After-from-n)
    c.if-n-eq0.false
    c.if-n-gt-LONGEST.false
    (padded at.After-unpadded ∙ c.if-unpadded.false)
    (kept_repeated (reading at.After-put) (stored at.After-put) c.repeated.ensures ∙ c.if-repeated.false))
    (kept-begins (reading at.After-put) (stored at.After-put))
