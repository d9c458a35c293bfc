-- What a scan has counted and listed of its hits, whichever way it scans.
use Rattle.std.specs.Prelude.{ℕ, ◌*◌, ◌/◌, ◌≤◌, min, ◌≡◌, List, length}
use Rattle.rules.specs.sets.Limits.{longest_word, longest_trace, most_energy}
use Rattle.rules.specs.sets.Sets.{Keyword}
use Rattle.rules.specs.scans.Hits.{Hit, energy, hit_buffer}
use Rattle.rules.specs.Beside.{numbered, Named}
use Rattle.words.specs.Items.{keywords_in}
use Rattle.hits.specs.declared.Tally.{Tally}

-- the hit at an end of the keyword with a number
unfoldable pub hit_of : List Keyword → ℕ → ℕ → Hit
hit_of ks end n = record { end = end; keyword = numbered ks n }

-- the hits `done` are counted, and listed in a buffer that held `old` when the scan began
pub record Tallied (done : List Hit) (old : List ℕ) (tally : Tally) (hs : List ℕ) : Type 0 where
  pub counted : tally.count ≡ length done
  pub charged : tally.energy ≡ energy done
  pub listed : tally.listed ≡ min (length done) (length old / 2)
  pub buffer : hs ≡ hit_buffer done old

-- before one hit more, at an end, of the keyword of the list l with the number n: the tally so far, and room in the
-- counters
pub record Hitting (l : List ℕ) (end n : ℕ) (done : List Hit) (old : List ℕ) (tally : Tally) (hs : List ℕ) : Type 0 where
  pub named : Named (keywords_in l) n
  pub near : end ≤ longest_trace
  pub few : length done ≤ longest_word * longest_trace
  pub little : energy done ≤ most_energy * length done
  pub tallied : Tallied done old tally hs
