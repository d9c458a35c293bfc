-- What each turn keeps.
use mathlib.Core.Path.{◌≡◌}
use Rattle.skips.proofs.Lowering.{partly}
use Rattle.skips.proofs.fars.lower.Given as goal

abbrev pub invariant-loop-z : goal.invariant-loop-z
invariant-loop-z l = l.next ≡ partly l.initial.next l.d l.z
