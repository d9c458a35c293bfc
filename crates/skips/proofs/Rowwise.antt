-- The records of a row file are judged by row: the verdict of the file is that of the rows from one on, once those
-- before passed.
use Prim.Native.Nat.{ℕ, suc, ◌+◌, ◌*◌, ◌≤◌, ◌<◌}
use native.Mathlib.Omega.{arith}
use native.Mathlib.Numerals.{add-one}
use mathlib.Core.Path.{◌≡◌, refl, sym, ◌∙◌, ap}
use mathlib.Core.Bool.{◌||◌, not}
use mathlib.Core.List.{List, [], ◌∷◌, ◌++◌}
use lib.ListN.{length, take, drop, get_or, drop_of_length-le}
use lib.Seq.{drop-cons, drop-drop, take-take, take_at, get_or-take, get_or-append-add}
use Rattle.rules.specs.sets.Limits.{longest_word, row_record}
use Rattle.rules.specs.strings.Strings.{same}
use Rattle.rules.specs.sets.Sets.{Keyword}
use Rattle.rules.specs.skips.Skips.{inner, edge, suffix_rows, named, record_of}
use Rattle.rules.specs.answers.Refusals.{Verdict, pass, refuse, refuse_if, or_else, faulty, row_verdicts}
use Rattle.rules.proofs.answers.Verdicts.{or_else_assoc}
use Rattle.rules.proofs.skips.Tables.{named-length, suffix_rows-length}
use Rattle.skips.specs.Judging.{fault_of}
use Rattle.skips.specs.Suffixes.{At, suffix_at}
use Rattle.skips.proofs.Keywords.{suffix-length, suffix_short}
use Rattle.skips.proofs.Compared.{row_record_at}

-- the record with the largest numbers: its name and its numbers
record_name : (ks : List Keyword) (v : List ℕ) → length v ≤ longest_word → take 16 (record_of ks v) ≡ named v
unfolding record_of
record_name ks v h = take_at (named v) (inner ks v ∷ edge ks v ∷ []) 16 (named-length v h)

record_number : (ks : List Keyword) (v : List ℕ) → length v ≤ longest_word → (j : ℕ) → get_or (record_of ks v) (16 + j) 0 ≡ get_or (inner ks v ∷ edge ks v ∷ []) j 0
unfolding record_of
record_number ks v h j =
    let behind : 16 + j ≡ length (named v) + j = omega (arith, named-length v h) in
    ap (λ (n : ℕ). get_or (named v ++ (inner ks v ∷ edge ks v ∷ [])) n 0) behind ∙ get_or-append-add (named v) (inner ks v ∷ edge ks v ∷ []) j 0

-- the tests of a row, and those behind it
fault_is : (ks : List Keyword) (i : ℕ) (v f : List ℕ) (rest : Verdict) → length v ≤ longest_word
    → or_else (refuse_if (not (same (take 16 f) (named v))) 11 i) (or_else (refuse_if (faulty (inner ks v) (get_or f 16 0) || faulty (edge ks v) (get_or f 17 0)) 12 i) rest)
    ≡ or_else (fault_of i (record_of ks v) (take row_record f)) rest
unfolding fault_of
fault_is ks i v f rest h =
    rw (
      take-take 16 row_record f (omega arith),
      record_name ks v h,
      record_number ks v h 0,
      record_number ks v h 1,
      get_or-take row_record f 16 0 (omega arith),
      get_or-take row_record f 17 0 (omega arith),
    ) (sym (or_else_assoc _ _ rest))

-- the rows before one passed
pub record RowsPassed (ks : List Keyword) (file : List ℕ) (row : ℕ) : Type 0 where
  pub left : row_verdicts ks 0 (suffix_rows ks) file ≡ row_verdicts ks row (drop row (suffix_rows ks)) (drop (row_record * row) file)

pub rows_none : (ks : List Keyword) (file : List ℕ) → RowsPassed ks file 0
rows_none ks file = record { left = refl }

-- and what that one, of the suffix v, shows is w
pub record RowTold (ks : List Keyword) (file : List ℕ) (row : ℕ) (w : Verdict) : Type 0 where
  pub passed : RowsPassed ks file row
  pub within : row < length (suffix_rows ks)
  pub fault : w ≡ fault_of row (record_of ks (get_or (suffix_rows ks) row [])) (row_record_at file row)
  pub short : length (get_or (suffix_rows ks) row []) ≤ longest_word

pub row_told : {ks at : List Keyword} {file best : List ℕ} {row i z : ℕ} {w : Verdict}
    → at ≡ ks
    → At at row i z
    → best ≡ record_of at (suffix_at at i z)
    → w ≡ fault_of row best (row_record_at file row)
    → RowsPassed ks file row
    → RowTold ks file row w
row_told {ks} {row = row} {i = i} {z = z} same there made fault so =
    let here : At ks row i z = rw same at there in
    record {
      passed = so;
      within = omega (arith, here.within, suffix_rows-length ks);
      fault = rw (here.names, ← same, ← made) fault;
      short = rw here.names (omega (arith, suffix-length here.walked.suffix, suffix_short here.walked.suffix));
    }

module _ {ks : List Keyword} {file : List ℕ} {row : ℕ} {w : Verdict} (told : RowTold ks file row w) where
  step : row_verdicts ks 0 (suffix_rows ks) file ≡ or_else w (row_verdicts ks (suc row) (drop (suc row) (suffix_rows ks)) (drop (row_record * suc row) file))
  unfolding row_verdicts
  step =
      let f : List ℕ = drop (row_record * row) file in
      let behind : row_record * row + row_record ≡ row_record * suc row = omega arith in
      let rest : Verdict = row_verdicts ks (suc row) (drop (suc row) (suffix_rows ks)) (drop (row_record * suc row) file) in
      told.passed.left
      ∙ rw (drop-cons (suffix_rows ks) row [] told.within, drop-drop row_record (row_record * row) file, behind, told.fault)
      (fault_is ks row (get_or (suffix_rows ks) row []) f rest told.short)

  pub rows_stop : {n p : ℕ} → w ≡ refuse n p → refuse n p ≡ row_verdicts ks 0 (suffix_rows ks) file
  unfolding or_else
  rows_stop e = sym (step ∙ rw e)

  pub rows_more : w ≡ pass → RowsPassed ks file (row + 1)
  unfolding or_else
  rows_more e = record { left = rw (add-one row) (step ∙ rw e) }

-- all rows passed
pub rows_all : {ks : List Keyword} {file : List ℕ} {row : ℕ} → RowsPassed ks file row → length (suffix_rows ks) ≤ row → pass ≡ row_verdicts ks 0 (suffix_rows ks) file
unfolding row_verdicts
rows_all {ks} so h = sym (so.left ∙ rw (drop_of_length-le (suffix_rows ks) h))
