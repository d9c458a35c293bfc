-- What each turn keeps.
use mathlib.Core.Path.{◌≡◌}
use mathlib.Core.Bool.{false}
use lib.ListN.{take}
use Rattle.rules.specs.sets.Sets.{is_keyword}
use Rattle.rules.specs.Beside.{nth}
use Rattle.words.specs.Items.{keywords_in}
use Rattle.words.proofs.repeated.Given as goal

abbrev pub invariant-loop-j : goal.invariant-loop-j
invariant-loop-j l = is_keyword (take l.j (keywords_in l.words)) (nth (keywords_in l.words) l.i).word ≡ false
