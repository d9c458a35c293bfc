-- A row of its own is a keyword's suffix that no earlier keyword ends with, one byte longer than the row before it:
-- so the rows are met keyword by keyword, each from the first byte that it does not share.
use Prim.Native.Nat.{ℕ, suc, ◌+◌, ◌-◌, ◌≤◌, ◌<◌}
use native.Mathlib.Omega.{arith}
use native.Mathlib.Nat.{eq-or-lt_of_le}
use mathlib.Core.Path.{◌≡◌, sym, ◌∙◌, ap}
use mathlib.Core.Logic.{⊎_elim}
use mathlib.Core.List.{List, [], reverse}
use lib.ListN.{length, drop, get_or, drop_of_length-le}
use lib.Seq.{take_all}
use Rattle.rules.specs.sets.Sets.{Keyword}
use Rattle.rules.specs.rows.Rows.{backward, read_by, rows_of}
use Rattle.rules.specs.skips.Skips.{suffix_rows}
use Rattle.rules.specs.Beside.{Sound, nth}
use Rattle.rules.proofs.rows.Rows.{rowed_rows}
use Rattle.rules.proofs.strings.Parts.{reverse-take}
use Rattle.rules.proofs.rows.NewRows.{set_row_at}
use Rattle.rules.proofs.skips.Tables.{suffix_rows_at}
use Rattle.words.specs.Read.{earlier, read_at}
use Rattle.words.proofs.Counted.{most_none, most_within, rows_none, rows_more}
use Rattle.skips.specs.Suffixes.{Listed, Walked, At, suffix_at, shared_at, rows_before}

-- what the earlier keywords share and how many rows they have: none, and one keyword more
shared_none : (ks : List Keyword) → shared_at ks 0 ≡ 0
unfolding shared_at
shared_none ks = sym (most_none backward ks (read_at backward ks 0))

before_none : (ks : List Keyword) → rows_before ks 0 ≡ 1
unfolding rows_before
before_none ks = sym (rows_none backward ks)

before_all : (ks : List Keyword) (i : ℕ) → i ≡ length ks → rows_before ks i ≡ length (rows_of backward ks)
unfolding rows_before
before_all ks i e = ap (λ (l : List Keyword). length (rows_of backward l)) (take_all i ks (omega arith))

module _ {ks : List Keyword} {i : ℕ} (ok : Listed ks i) where
  shared_within : shared_at ks i ≤ length (nth ks i).word
  unfolding shared_at
  shared_within = most_within ks i ok.within backward

  before_more : rows_before ks (i + 1) ≡ rows_before ks i + (length (nth ks i).word - shared_at ks i)
  unfolding shared_at rows_before
  before_more = rows_more ks i ok.within backward

  -- a row of its own
  row_is : (j : ℕ) → j + shared_at ks i < length (nth ks i).word
      → get_or (suffix_rows ks) (rows_before ks i + j) [] ≡ suffix_at ks i (suc (j + shared_at ks i))
  unfolding shared_at rows_before suffix_at earlier read_at read_by
  row_is j h =
      suffix_rows_at ks (rows_before ks i + j)
      ∙ ap reverse (set_row_at backward ks i j ok.within h)
      ∙ reverse-take (nth ks i).word (suc (j + shared_at ks i)) h

-- row 0 is the empty suffix of any keyword
pub at_first : (ks : List Keyword) → Sound ks → At ks 0 0 0
unfolding suffix_at
at_first ks sound =
    let listed : Listed ks 0 = record { sound = sound; within = sound.some } in
    let word : List ℕ = (nth ks 0).word in
    let rowed = rowed_rows backward ks in
    let none : drop (length word - 0) word ≡ [] = drop_of_length-le word {i = length word - 0} (omega arith) in
    record {
      walked =
          record {
            suffix = record { listed = listed; short = omega arith };
            shared = omega (arith, shared_none ks);
            counted = omega (arith, shared_none ks, before_none ks);
          };
      within = rowed.some;
      names = suffix_rows_at ks 0 ∙ ap reverse rowed.first ∙ sym none;
    }

-- All rows up to depth z of the keyword at place i are passed.
module _ {ks : List Keyword} {rows i z : ℕ} (so : Walked ks rows i z) (fewer : rows < length (rows_of backward ks)) where
  abbrev long : ℕ
  long = length (nth ks i).word

  -- it has a byte more
  pub walked_row : z < long → At ks rows i (z + 1)
  walked_row h =
      let shared : shared_at ks i ≤ z = so.shared in
      let j : ℕ = z - shared_at ks i in
      let place : rows ≡ rows_before ks i + (z - shared_at ks i) = omega (arith, so.counted) in
      let depth : suc (z - shared_at ks i + shared_at ks i) ≡ z + 1 = omega arith in
      record {
        walked =
            record {
              suffix = record { listed = so.suffix.listed; short = omega arith };
              shared = omega arith;
              counted = omega (arith, so.counted);
            };
        within = fewer;
        names = rw (place, ← depth) (row_is so.suffix.listed j (omega arith));
      }

  -- it has none: the next keyword is walked as far as it shares, and there is one since rows are left
  pub walked_next : z ≡ long → Walked ks rows (i + 1) (shared_at ks (i + 1))
  walked_next e =
      let listed : Listed ks i = so.suffix.listed in
      let all : rows ≡ rows_before ks (i + 1) = omega (arith, so.counted, so.shared, before_more listed) in
      let least : i + 1 ≤ length ks = omega (arith, listed.within) in
      let within : i + 1 < length ks =
      ⊎_elim (λ (last : i + 1 ≡ length ks). absurd (omega (arith, before_all ks (i + 1) last)))
      (λ (more : i + 1 < length ks). more)
      (eq-or-lt_of_le least) in
      let left : Listed ks (i + 1) = record { sound = listed.sound; within = within } in
      record {
        suffix = record { listed = left; short = shared_within left };
        shared = omega arith;
        counted = omega arith;
      }
