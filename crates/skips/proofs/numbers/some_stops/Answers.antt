-- No keyword before k stops the search, so one that does decides, and none does where all were passed.
use Prim.Native.Nat.{◌<◌}
use native.Mathlib.Omega.{arith}
use mathlib.Core.Path.{◌≡◌, sym, ◌∙◌}
use lib.ListN.{length}
use Rattle.rules.specs.Beside.{no_keyword, nth}
use Rattle.rules.proofs.strings.Searched.{any_at, none_passed, none_more, none_at_all}
use Rattle.rules.specs.sets.Sets.{Keyword}
use Rattle.words.specs.Items.{keywords_in}
use Rattle.words.proofs.Items.{has_at}
use Rattle.skips.specs.Suffixes.{Test, Answers, some_stops}
use Rattle.skips.proofs.numbers.some_stops.Goals as goal
use Rattle.skips.proofs.numbers.some_stops.Goals.{After-stops, In-loop-k}
use Rattle.skips.proofs.numbers.some_stops.Given.{Over}

pub loop-k-init : goal.loop-k-init
loop-k-init g c test so = none_passed _ (keywords_in c.args.words.list.now)

within : (g : Over) (c : In-loop-k g)
    → c.loop-k.k < length (keywords_in c.args.words.list.now)
within g c = omega (arith, c.count_of-k-end.ensures)

pub item_at-requires : goal.item_at-requires
item_at-requires g c = has_at c.args.words.shaped (within g (goal.at.item_at-requires g c).In-loop-k)

-- the string tried is the keyword at place k
tried : (g : Over) (c : After-stops g) (test : Test) → Answers (goal.F-post g c.args.stops) test
    → c.stops.result
    ≡ test c.args.suffix.now c.args.n (nth (keywords_in c.args.words.list.now) c.loop-k.k).word
tried g c test so = so.says _ _ _ _ c.stops.ensures ∙ rw c.item_at.ensures.units

pub returns-then-stops : goal.returns-then-stops
unfolding some_stops
returns-then-stops g c test so =
    sym (any_at _ (keywords_in c.args.words.list.now) c.loop-k.k no_keyword (within g (goal.at.returns-then-stops g c).In-loop-k) (sym (tried g (goal.at.returns-then-stops g c).After-stops test so) ∙ c.if-stops.true))

pub loop-k-preserved : goal.loop-k-preserved
loop-k-preserved g c test so =
    let new = sym (tried g (goal.at.loop-k-preserved g c).After-stops test so) ∙ c.if-stops.false in
    none_more (λ (k : Keyword). test c.args.suffix.now c.args.n k.word) (keywords_in c.args.words.list.now) no_keyword c.loop-k.k (within g (goal.at.loop-k-preserved g c).In-loop-k) (c.loop-k.invariant test so) new

pub returns : goal.returns
unfolding some_stops
returns g c test so =
    sym (none_at_all _ (keywords_in c.args.words.list.now) c.loop-k.k (omega (arith, c.count_of-k-end.ensures)) (c.loop-k.invariant test so))
