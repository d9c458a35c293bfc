-- The numbers are tried from 1 up: no keyword stops the search at a smaller one, until one does or m is reached.
use Prim.Native.Nat.{◌≤◌}
use native.Mathlib.Omega.{arith}
use mathlib.Core.Path.{sym, ◌∙◌}
use Rattle.rules.specs.sets.Limits.{longest_word}
use Rattle.rules.specs.sets.Sets.{shortest}
use Rattle.rules.proofs.skips.Least.{shortest_pos, shortest_short}
use Rattle.rules.proofs.skips.Searches.{searched_none, searched_stop, searched_more, searched_all}
use Rattle.words.specs.Items.{keywords_in}
use Rattle.skips.specs.Suffixes.{some_stops, largest_of}
use Rattle.skips.proofs.numbers.largest.Given.{Over}
use Rattle.skips.proofs.numbers.largest.Goals as goal
use Rattle.skips.proofs.numbers.largest.Goals.{Start}

-- m is at most 15
high : (g : Over) (c : Start g) → shortest (keywords_in c.args.set.words.list.now) ≤ longest_word
high g c = shortest_short c.args.set.words.sound

pub loop-n-init : goal.loop-n-init
loop-n-init g c test so = searched_none _ _ (shortest_pos c.args.set.words.sound)

pub some_stops-requires : goal.some_stops-requires
some_stops-requires g c = (omega (arith, c.args.set.capped, high g (goal.at.some_stops-requires g c).Start), c.requires)

pub returns-then-some_stops : goal.returns-then-some_stops
unfolding largest_of
returns-then-some_stops g c = (
  omega (arith, high g (goal.at.returns-then-some_stops g c).Start),
  λ test so. searched_stop (c.loop-n.invariant test so) (omega arith) (sym (c.some_stops.ensures test so) ∙ c.if-some_stops.true),
)

pub loop-n-preserved : goal.loop-n-preserved
loop-n-preserved g c test so =
    searched_more (c.loop-n.invariant test so) (omega arith) (sym (c.some_stops.ensures test so) ∙ c.if-some_stops.false)

pub returns : goal.returns
unfolding largest_of
returns g c =
    let some = shortest_pos c.args.set.words.sound in (
      omega (arith, high g (goal.at.returns g c).Start),
      λ test so. let ks = keywords_in c.args.set.words.list.now in
          let all = searched_all {p = some_stops test ks c.args.suffix.now} (c.loop-n.invariant test so) (omega arith) in omega (arith, some) ∙ all,
    )
