-- What each turn keeps.
use Prim.Native.Nat.{ℕ}
use mathlib.Core.Path.{◌≡◌}
use mathlib.Core.List.{List}
use lib.ListN.{length}
use Rattle.rules.specs.scans.Hits.{Hit}
use Rattle.backward.specs.Windowed.{Closing}
use Rattle.backward.proofs.Closings.{left_in, Closed}
use Rattle.backward.proofs.list_window.Given as goal

abbrev pub invariant-loop-number : goal.invariant-loop-number
invariant-loop-number l =
    (length l.hits ≡ length l.initial.hits)
    × ((done : List Hit) (old : List ℕ)
    → Closing l.words.list.now l.end l.met done old l.initial.next l.initial.hits
    → Closed l.words.list.now l.end l.met (left_in l.number-iterator) done old l.next l.hits)
