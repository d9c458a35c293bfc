-- What each turn keeps, and what falls.
use Prim.Native.Nat.{suc, ◌-◌}
use lib.ListN.{length}
use Rattle.backward.proofs.Reached.{Reached}
use Rattle.backward.proofs.Visits.{Underway}
use Rattle.backward.proofs.run.Given as goal

abbrev pub invariant-bytes : goal.invariant-bytes
invariant-bytes l = Reached l.words.list.now l.trace l.end l.initial.questions l.questions l.met l.unread l.reached

abbrev pub decreases-bytes : goal.decreases-bytes
decreases-bytes l = length l.unread

abbrev pub invariant-loop-end : goal.invariant-loop-end
invariant-loop-end l =
    Underway l.words.list.now l.trace l.table.row_file.now l.table.byte_file.now l.initial.hits l.hits l.tally l.questions l.end

abbrev pub decreases-loop-end : goal.decreases-loop-end
decreases-loop-end l = suc (length l.trace) - l.end
