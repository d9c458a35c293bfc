-- What each turn keeps, and what falls.
use Prim.Native.Nat.{ℕ, ◌-◌, ◌<◌}
use mathlib.Core.List.{List, []}
use lib.ListN.{length, get_or}
use Rattle.std.specs.Prelude.{unwrap_or}
use Rattle.rows.specs.Tree.{Tree}
use Rattle.rows.proofs.Walk.{Walking}
use Rattle.rows.proofs.tree.ask.Given as goal

abbrev pub invariant-loop-next : goal.invariant-loop-next
invariant-loop-next l =
    (R : List (List ℕ)) → Tree R l.ws → l.row < length R → Walking R (get_or R l.row []) l.c l.last l.compared l.next

abbrev pub decreases-loop-next : goal.decreases-loop-next
decreases-loop-next l = length l.ws - unwrap_or l.last 0
