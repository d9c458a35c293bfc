-- What each turn keeps, and what falls.
use Prim.Native.Nat.{ℕ, ◌+◌, ◌-◌}
use mathlib.Core.List.{List}
use Rattle.rules.specs.sets.Limits.{longest_word}
use Rattle.rows.specs.Falls.{Ready}
use Rattle.rows.proofs.Chain.{Falling}
use Rattle.rows.proofs.failures.advance.Given as goal

abbrev pub invariant-loop-next : goal.invariant-loop-next
invariant-loop-next l = (R : List (List ℕ)) (d : ℕ) → Ready R d l.row l.ws → Falling R l.row l.c l.at l.asked

abbrev pub decreases-loop-next : goal.decreases-loop-next
decreases-loop-next l = longest_word + 1 - l.asked
