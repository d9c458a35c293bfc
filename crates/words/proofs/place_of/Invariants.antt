-- What each turn keeps.
use Prim.Native.Nat.{ℕ, ◌<◌}
use mathlib.Core.Path.{◌≡◌}
use lib.ListN.{length}
use Rattle.rules.specs.Beside.{nth}
use Rattle.words.specs.Items.{keywords_in}
use Rattle.words.proofs.place_of.Given as goal

abbrev pub invariant-loop-i : goal.invariant-loop-i
invariant-loop-i l =
    let ks = keywords_in l.words.list.now in
    (j : ℕ) → j < length ks → (nth ks j).number ≡ l.number → j < l.i
