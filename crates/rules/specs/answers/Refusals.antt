-- Document 01's table of refusals, in the order tested; 7 is not given any more. A job's verdict is the first refusal
-- of its tests.
use Rattle.std.specs.Prelude.{ℕ, zero, suc, ◌+◌, ◌-◌, ◌*◌, ◌/◌, ◌%◌, Bool, true, false, ◌||◌, not, List, [], ◌∷◌, ◌++◌, length, take, drop, get_or, eqb, ltb}
use Rattle.rules.specs.sets.Limits.{record_size, longest_word, most_keywords, longest_trace, row_cells, row_record, depths, byte_file_size, answer_size}
use Rattle.rules.specs.strings.Strings.{same, any}
use Rattle.rules.specs.sets.Sets.{Keyword, keyword_of, is_keyword}
use Rattle.rules.specs.rows.Rows.{Way, backward, rows_of}
use Rattle.rules.specs.skips.Skips.{inner, edge, far, suffix_rows, named}

pub data Verdict : Type 0 where
  pass : Verdict
  refuse : ℕ → ℕ → Verdict

-- a refusal with its number and place where the test shows a fault
unfoldable pub refuse_if : Bool → ℕ → ℕ → Verdict
refuse_if true number place = refuse number place
refuse_if false number place = pass

-- the first refusal
unfoldable pub or_else : Verdict → Verdict → Verdict
or_else pass w = w
or_else (refuse number place) w = refuse number place

-- 4, 5 and 6 of the record r, the i'th, behind the keywords ks
unfoldable pub record_verdict : ℕ → List Keyword → List ℕ → Verdict
record_verdict i ks r =
    or_else (refuse_if (eqb (get_or r 0 0) 0 || ltb longest_word (get_or r 0 0)) 4 i)
    (or_else (refuse_if (any (λ b. not (eqb b 0)) (take (longest_word - get_or r 0 0) (drop (1 + get_or r 0 0) r))) 5 i)
    (refuse_if (is_keyword ks (keyword_of i r).word) 6 i))

-- n records from the i'th on, behind the keywords ks
unfoldable pub record_verdicts : ℕ → ℕ → List Keyword → List ℕ → Verdict
record_verdicts zero i ks s = pass
record_verdicts (suc n) i ks s =
    let r = take record_size s in
    or_else (record_verdict i ks r) (record_verdicts n (suc i) (ks ++ (keyword_of i r ∷ [])) (drop record_size s))

-- 1 to 6: a set's own tests, whichever way it is read
unfoldable pub file_verdict : List ℕ → Verdict
file_verdict s =
    or_else (refuse_if (eqb (length s) 0) 1 0)
    (or_else (refuse_if (not (eqb (length s % record_size) 0)) 2 0)
    (or_else (refuse_if (ltb most_keywords (length s / record_size)) 3 0)
    (record_verdicts (length s / record_size) 0 [] s)))

-- 8: a trace of n bytes
unfoldable pub trace_verdict : ℕ → Verdict
trace_verdict n = refuse_if (ltb longest_trace n) 8 0

-- 9: a workspace with room for so many numbers
unfoldable pub workspace_verdict : Way → List Keyword → ℕ → Verdict
workspace_verdict way ks room =
    let rows = length (rows_of way ks) in
    refuse_if (ltb room (row_cells * rows)) 9 rows

-- 8 and 9: what a scan of a trace of n bytes begins with, once the set's own tests have passed
abbrev pub entry_verdict : Way → List Keyword → ℕ → ℕ → Verdict
entry_verdict way ks n room = or_else (trace_verdict n) (workspace_verdict way ks room)

-- a number of a file: 0, or above the largest
unfoldable pub faulty : ℕ → ℕ → Bool
faulty largest n = eqb n 0 || ltb largest n

-- 11 and 12 over the rows from place i on, whose records f holds
unfoldable pub row_verdicts : List Keyword → ℕ → List (List ℕ) → List ℕ → Verdict
row_verdicts ks i [] f = pass
row_verdicts ks i (v ∷ vs) f =
    or_else (refuse_if (not (same (take 16 f) (named v))) 11 i)
    (or_else (refuse_if (faulty (inner ks v) (get_or f 16 0) || faulty (edge ks v) (get_or f 17 0)) 12 i)
    (row_verdicts ks (suc i) vs (drop row_record f)))

-- 14 over n numbers from place p on
unfoldable pub far_verdicts : List Keyword → ℕ → ℕ → List ℕ → Verdict
far_verdicts ks zero p f = pass
far_verdicts ks (suc n) p f =
    or_else (refuse_if (faulty (far ks (p / depths) (p % depths)) (get_or f 0 0)) 14 p) (far_verdicts ks n (suc p) (drop 1 f))

-- 10 to 14: a table's own tests
unfoldable pub table_verdict : List Keyword → List ℕ → List ℕ → Verdict
table_verdict ks rowf bytef =
    let vs = suffix_rows ks in
    or_else (refuse_if (not (eqb (length rowf) (row_record * length vs))) 10 (length vs))
    (or_else (row_verdicts ks 0 vs rowf)
    (or_else (refuse_if (not (eqb (length bytef) byte_file_size)) 13 0)
    (far_verdicts ks byte_file_size 0 bytef)))

-- 15 and 16: the buffers that making fills
unfoldable pub buffer_verdict : List Keyword → ℕ → ℕ → Verdict
buffer_verdict ks row_room byte_room =
    let rows = length (rows_of backward ks) in
    or_else (refuse_if (ltb row_room (row_record * rows)) 15 rows) (refuse_if (ltb byte_room byte_file_size) 16 0)

-- 17: the host call's answer buffer
unfoldable pub answer_verdict : ℕ → Verdict
answer_verdict room = refuse_if (ltb room answer_size) 17 0
