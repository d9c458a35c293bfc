-- What each turn keeps.
use mathlib.Core.Path.{◌≡◌}
use Rattle.words.specs.Items.{keywords_in}
use Rattle.words.specs.Read.{way_of, read_at, earlier}
use Rattle.rules.specs.Beside.{most_common}
use Rattle.words.proofs.most_shared.Given as goal

abbrev pub invariant-loop-j : goal.invariant-loop-j
invariant-loop-j l = l.most ≡ most_common (earlier (way_of l.way) (keywords_in l.words.list.now) l.j) (read_at (way_of l.way) (keywords_in l.words.list.now) l.i)
