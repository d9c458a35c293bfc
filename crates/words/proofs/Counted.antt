-- A keyword more adds the rows that it does not share and can only lower the least length, so both follow keyword by
-- keyword.
use Prim.Native.Nat.{ℕ, ◌+◌, ◌-◌, ◌≤◌, ◌<◌, min, max}
use native.Mathlib.Omega.{arith}
use native.Mathlib.Numerals.{add-one}
use mathlib.Core.Path.{◌≡◌, refl}
use mathlib.Core.List.{List, [], ◌∷◌, ◌++◌, map, map-append}
use lib.ListN.{length, take, length-take}
use lib.Seq.{take-suc}
use Rattle.rules.specs.sets.Sets.{Keyword, shortest}
use Rattle.rules.specs.Beside.{no_keyword, nth, common, most_common}
use Rattle.rules.specs.rows.Rows as R
use Rattle.rules.proofs.rows.Count.{most_common_le, most_common-append, rows_of-count}
use Rattle.rules.proofs.skips.Least.{shortest_more}
use Rattle.words.specs.Read.{read_at, earlier}
use Rattle.rules.proofs.rows.Rows.{read_by-length}

-- none of the keywords, and the first
pub most_none : (way : R.Way) (ks : List Keyword) (w : List ℕ) → 0 ≡ most_common (earlier way ks 0) w
unfolding earlier most_common
most_none way ks w = refl

pub rows_none : (way : R.Way) (ks : List Keyword) → 1 ≡ length (R.rows_of way (take 0 ks))
unfolding R.rows_of R.meet_words
rows_none way ks = refl

pub least_one : (ks : List Keyword) → 1 ≤ length ks → length (nth ks 0).word ≡ shortest (take 1 ks)
unfolding shortest
least_one [] h = absurd (omega arith)
least_one (k ∷ ks) h = refl

-- one more: the keyword at place i
module _ (ks : List Keyword) (i : ℕ) (h : i < length ks) where
  pub front_more : take (i + 1) ks ≡ take i ks ++ (nth ks i ∷ [])
  front_more = rw (add-one i) (take-suc ks i no_keyword h)

  pub most_more : (way : R.Way) (w : List ℕ) → most_common (earlier way ks (i + 1)) w ≡ max (most_common (earlier way ks i) w) (common (read_at way ks i) w)
  unfolding earlier read_at most_common
  most_more way w =
      let read : Keyword → List ℕ = λ k. R.read_by way k.word in
      rw (front_more, map-append read (take i ks) (nth ks i ∷ []))
      (omega (arith, most_common-append (map read (take i ks)) (read (nth ks i) ∷ []) w))

  -- it adds the rows that no earlier one begins with
  pub rows_more : (way : R.Way) → length (R.rows_of way (take (i + 1) ks)) ≡ length (R.rows_of way (take i ks)) + (length (nth ks i).word - most_common (earlier way ks i) (read_at way ks i))
  unfolding earlier read_at
  rows_more way = rw front_more (rows_of-count way (take i ks) (nth ks i))

  pub least_more : 1 ≤ i → shortest (take (i + 1) ks) ≡ min (shortest (take i ks)) (length (nth ks i).word)
  least_more some = rw front_more (shortest_more (take i ks) (nth ks i) (omega (arith, length-take i ks)))

  -- earlier ones begin with no more than all of it
  pub most_within : (way : R.Way) → most_common (earlier way ks i) (read_at way ks i) ≤ length (nth ks i).word
  unfolding read_at
  most_within way = omega (arith, most_common_le (earlier way ks i) (read_at way ks i), read_by-length way (nth ks i).word)
