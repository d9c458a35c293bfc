-- No keyword passed has the units of the one at place i, so one that has them decides, and none does where all were
-- passed.
use mathlib.Core.Path.{◌≡◌, sym, ◌∙◌}
use native.Mathlib.Omega.{arith}
use Rattle.rules.specs.strings.Strings.{same}
use Rattle.rules.specs.sets.Sets.{is_keyword}
use Rattle.rules.specs.Beside.{no_keyword, nth}
use Rattle.rules.proofs.strings.Strings.{same_listed}
use Rattle.rules.proofs.strings.Searched.{none_passed, none_more, one_passes}
use Rattle.words.specs.Items.{keywords_in}
use Rattle.words.proofs.Items.{has_at}
use Rattle.words.proofs.repeated.Goals as goal
use Rattle.words.proofs.repeated.Goals.{After-eq}

pub loop-j-init : goal.loop-j-init
unfolding is_keyword
loop-j-init c = none_passed _ (keywords_in c.args.words.now)

pub item_at-requires-in-loop-j : goal.item_at-requires-in-loop-j
item_at-requires-in-loop-j c =
    let p = c.requires in
    has_at p.words (omega (arith, p.within))

-- the two strings compared are keywords
compared : (c : After-eq)
    → let ks = keywords_in c.args.words.now in
    c.eq.result ≡ same (nth ks c.loop-j.j).word (nth ks c.args.i).word
compared c =
    c.eq.ensures ∙ sym (same_listed c.item_at-in-loop-j.result.units.now c.item_at.result.units.now)
    ∙ rw (c.item_at-in-loop-j.ensures.units, c.item_at.ensures.units)

pub returns-then-eq : goal.returns-then-eq
unfolding is_keyword
returns-then-eq c =
    let p = c.requires in
    sym
    (one_passes _ _ no_keyword _ _ c.loop-j-test.true (omega (arith, p.within))
    (sym (compared (goal.at.returns-then-eq c).After-eq) ∙ c.if-eq.true))

pub loop-j-preserved : goal.loop-j-preserved
unfolding is_keyword
loop-j-preserved c =
    let p = c.requires in
    none_more _ _ no_keyword c.loop-j.j (omega (arith, p.within)) c.loop-j.invariant
    (sym (compared (goal.at.loop-j-preserved c).After-eq) ∙ c.if-eq.false)

pub returns : goal.returns
returns c =
    let all : c.loop-j.j ≡ c.args.i = omega arith in
    sym (rw all at c.loop-j.invariant)
