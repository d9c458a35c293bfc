-- A forward scan under way: everything is said of the bytes read so far.
use Rattle.std.specs.Prelude.{ℕ, ◌+◌, ◌-◌, ◌*◌, ◌≤◌, ◌<◌, ◌≡◌, List, [], ◌++◌, map, length, take, get_or}
use Rattle.rules.specs.sets.Limits.{longest_trace, row_cells}
use Rattle.rules.specs.strings.Strings.{longest}
use Rattle.rules.specs.sets.Sets.{Keyword}
use Rattle.rules.specs.rows.Rows.{forward, starts, rows_of, row_of}
use Rattle.rules.specs.scans.Hits.{Hit, ending_at, hits}
use Rattle.rules.specs.scans.Questions.{questions}
use Rattle.hits.specs.declared.Tally.{Tally}
use Rattle.hits.specs.Tallies.{Tallied}
use Rattle.forward.specs.declared.Running.{Running}

-- the row that stands for u: the longest suffix of u that begins a keyword
abbrev pub state_of : List Keyword → List ℕ → ℕ
state_of ks u = row_of (rows_of forward ks) (longest (starts forward ks) u)

-- all hits in u are counted and listed
abbrev pub AllFound : List Keyword → List ℕ → List ℕ → Tally → List ℕ → Type 0
AllFound ks u old tally hs = Tallied (hits ks u) old tally hs

-- the scan has read u, in a buffer that held `old` when it began
pub record Scanning (ks : List Keyword) (u old : List ℕ) (run : Running) (hs : List ℕ) : Type 0 where
  pub state : run.row ≡ state_of ks u
  pub end : run.end ≡ length u
  pub asked : run.questions ≡ questions ks u
  pub found : AllFound ks u old run.tally hs

-- what a scan is to read, all its bytes, and what the hit buffer held when it began
pub record Course : Type 0 where
  pub whole : List ℕ
  pub old : List ℕ

-- the scan has read the bytes before its end
pub record Going (ks : List Keyword) (course : Course) (run : Running) (hs : List ℕ) : Type 0 where
  pub near : length course.whole ≤ longest_trace
  pub scanning : Scanning ks (take run.end course.whole) course.old run hs

-- before the hits at an end are listed: the row stands for the bytes before the end, and what is found is all that ends
-- a byte earlier
pub record Ending (ks : List Keyword) (course : Course) (row end : ℕ) (tally : Tally) (hs : List ℕ) : Type 0 where
  pub near : length course.whole ≤ longest_trace
  pub some : 1 ≤ end
  pub within : end ≤ length course.whole
  pub state : row ≡ state_of ks (take end course.whole)
  pub found : AllFound ks (take (end - 1) course.whole) course.old tally hs

-- the number of a row's dictionary row, 0 where there is none
abbrev pub dictionary_in : List ℕ → ℕ → ℕ
dictionary_in ws at = get_or ws (row_cells * at + 5) 0

-- the string of a row, and the keywords that end it, as hits at an end
abbrev pub string_at : List Keyword → ℕ → List ℕ
string_at ks at = get_or (rows_of forward ks) at []

abbrev pub ending_in : List Keyword → ℕ → ℕ → List Hit
ending_in ks end at = map (λ (k : Keyword). record { end = end; keyword = k }) (ending_at ks (string_at ks at))

-- Of the hits in the bytes before the end those are listed that do not end the string of a row.
pub record Listing (ks : List Keyword) (course : Course) (at end : ℕ) (tally : Tally) (hs : List ℕ) : Type 0 where
  pub near : length course.whole ≤ longest_trace
  pub before : end ≤ length course.whole
  pub within : at < length (rows_of forward ks)
  pub done : List Hit
  pub tallied : Tallied done course.old tally hs
  pub joined : done ++ ending_in ks end at ≡ hits ks (take end course.whole)
