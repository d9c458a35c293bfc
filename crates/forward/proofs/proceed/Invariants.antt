-- Each turn reads a byte more of the same scan.
use Prim.Native.Nat.{◌+◌}
use mathlib.Core.Path.{◌≡◌}
use Rattle.words.specs.Items.{keywords_in}
use Rattle.forward.specs.Progress.{Going}
use Rattle.forward.proofs.proceed.Given as goal

abbrev pub ghost-step : goal.ghost-step
ghost-step g a = g.course

abbrev pub invariant-loop-c : goal.invariant-loop-c
invariant-loop-c g l =
    record {
      going : Going (keywords_in l.scan.words.list.now) g.course l.next l.hits;
      end : l.next.end ≡ l.initial.next.end + l.c-index;
    }
