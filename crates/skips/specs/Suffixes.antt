-- A backward row as the last bytes of a keyword, and its record.
use Rattle.std.specs.Prelude.{ℕ, ◌+◌, ◌-◌, ◌≤◌, ◌<◌, ◌≡◌, Bool, List, [], length, take, drop, get_or}
use denote.Ref.{Bor}
use Rattle.rules.specs.sets.Limits.{depths}
use Rattle.rules.specs.strings.Strings.{any}
use Rattle.rules.specs.sets.Sets.{Keyword, shortest}
use Rattle.rules.specs.rows.Rows.{backward, rows_of}
use Rattle.rules.specs.skips.Skips.{least, suffix_rows}
use Rattle.rules.specs.Beside.{Sound, nth, most_common}
use Rattle.words.specs.Read.{earlier, read_at}

-- the last z bytes of the keyword at place i, in trace order
unfoldable pub suffix_at : List Keyword → ℕ → ℕ → List ℕ
suffix_at ks i z = let w = (nth ks i).word in drop (length w - z) w

-- a keyword stands at place k, in a set that passed its tests
pub record Listed (ks : List Keyword) (k : ℕ) : Type 0 where
  pub sound : Sound ks
  pub within : k < length ks

-- and z is at most its length
pub record Suffix (ks : List Keyword) (i z : ℕ) : Type 0 where
  pub listed : Listed ks i
  pub short : z ≤ length (nth ks i).word

-- a test of a suffix v, a distance n and a keyword w: whether the keyword stops the search for a number at n
abbrev pub Test : Type 0
Test = List ℕ → ℕ → List ℕ → Bool

-- a function may be called at each distance that a search comes to, and it answers that test
pub record Asked (pre : Bor (List ℕ) → Bor (List ℕ) → ℕ → Type 0) : Type 0 where
  pub may : (w v : Bor (List ℕ)) (n : ℕ) → n < depths → pre w v n

pub record Answers (post : Bor (List ℕ) → Bor (List ℕ) → ℕ → Bool → Type 0) (test : Test) : Type 0 where
  pub says : (w v : Bor (List ℕ)) (n : ℕ) (b : Bool) → post w v n b → b ≡ test v.now n w.now

-- whether some keyword stops the search; and the number, the least distance at which one does, capped
unfoldable pub some_stops : Test → List Keyword → List ℕ → ℕ → Bool
some_stops test ks v n = any (λ (k : Keyword). test v n k.word) ks

unfoldable pub largest_of : Test → List Keyword → List ℕ → ℕ
largest_of test ks v = least (shortest ks) (some_stops test ks v)

-- how much of the keyword at place i, read backward, an earlier one begins with too, and how many rows the earlier
-- ones have
unfoldable pub shared_at : List Keyword → ℕ → ℕ
shared_at ks i = most_common (earlier backward ks i) (read_at backward ks i)

unfoldable pub rows_before : List Keyword → ℕ → ℕ
rows_before ks i = length (rows_of backward (take i ks))

-- so many rows are the earlier keywords' and the new ones of the keyword at place i up to depth z
pub record Walked (ks : List Keyword) (rows i z : ℕ) : Type 0 where
  pub suffix : Suffix ks i z
  pub shared : shared_at ks i ≤ z
  pub counted : rows + shared_at ks i ≡ rows_before ks i + z

-- the backward row of that number is this suffix
pub record At (ks : List Keyword) (row i z : ℕ) : Type 0 where
  pub walked : Walked ks (row + 1) i z
  pub within : row < length (rows_of backward ks)
  pub names : get_or (suffix_rows ks) row [] ≡ suffix_at ks i z
