-- What each turn keeps, whatever test the closure answers.
use Rattle.rules.specs.sets.Sets.{shortest}
use Rattle.rules.proofs.skips.Searches.{Searched}
use Rattle.words.specs.Items.{keywords_in}
use Rattle.skips.specs.Suffixes.{Test, Answers, some_stops}
use Rattle.skips.proofs.numbers.largest.Given as goal

abbrev pub invariant-loop-n : goal.invariant-loop-n
invariant-loop-n g l =
    (test : Test)
    → Answers (goal.F-post g l.stops) test
    → Searched (shortest (keywords_in l.set.words.list.now)) (some_stops test (keywords_in l.set.words.list.now) l.suffix) l.n
