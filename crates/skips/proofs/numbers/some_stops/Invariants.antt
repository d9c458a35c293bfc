-- What each turn keeps, whatever test the closure answers.
use mathlib.Core.Path.{◌≡◌}
use mathlib.Core.Bool.{false}
use lib.ListN.{take}
use Rattle.rules.specs.strings.Strings.{any}
use Rattle.rules.specs.sets.Sets.{Keyword}
use Rattle.words.specs.Items.{keywords_in}
use Rattle.skips.specs.Suffixes.{Test, Answers}
use Rattle.skips.proofs.numbers.some_stops.Given as goal

abbrev pub invariant-loop-k : goal.invariant-loop-k
invariant-loop-k g l =
    (test : Test)
    → Answers (goal.F-post g l.stops) test
    → any (λ (each : Keyword). test l.suffix l.n each.word) (take l.k (keywords_in l.words.list.now)) ≡ false
