-- What each turn keeps, and what falls.
use Prim.Native.Nat.{◌<◌}
use lib.ListN.{length}
use Rattle.words.specs.Items.{keywords_in}
use Rattle.forward.specs.Progress.{Listing, string_at, dictionary_in}
use Rattle.forward.proofs.States.{rows_for}
use Rattle.forward.proofs.list_hits.Given as goal

abbrev pub ghost-list_own : goal.ghost-list_own
ghost-list_own g a = g.course

abbrev pub invariant-loop-behind : goal.invariant-loop-behind
invariant-loop-behind g l =
    record {
      within : l.at < length (rows_for (keywords_in l.scan.words.list.now));
      listing : Listing (keywords_in l.scan.words.list.now) g.course (dictionary_in l.scan.ws.now l.at) l.end l.next
          l.hits;
    }

abbrev pub decreases-loop-behind : goal.decreases-loop-behind
decreases-loop-behind g l = length (string_at (keywords_in l.scan.words.list.now) l.at)
