-- Document 01's lettered bench examples: one table of claims, and the one test that each claim must pass.
use Rattle.std.specs.Prelude.{ℕ, ◌*◌, Bool, true, false, ◌&&◌, length, take, drop, set, replicate, eqb}
use mathlib.Core.List.{List, [], ◌∷◌, ◌++◌, map, flat_map}
use Rattle.rules.specs.sets.Limits.{row_cells, row_record, byte_file_size}
use Rattle.rules.specs.strings.Strings.{same}
use Rattle.rules.specs.sets.Sets.{keywords}
use Rattle.rules.specs.rows.Rows.{Way, forward, backward, rows_of, cells}
use Rattle.rules.specs.scans.Hits.{pairs, hits, over, hit_buffer}
use Rattle.rules.specs.skips.Skips.{inner, edge, far, suffix_rows, named, row_file, byte_file}
use Rattle.rules.specs.skips.Runs.{run_hits}
use Rattle.rules.specs.answers.Refusals.{or_else, table_verdict}
use Rattle.rules.specs.answers.Answers.{Told, told_refusal, low_first}
use Rattle.rules.specs.answers.Promises.{answer_or, kept, forward_told, forward_verdict, backward_told, backward_entry, rows_told, table_entry}

-- A claim. Sets, traces, files and hit pairs are the numbers as they lie in files and buffers.
pub data Case : Type 0 where
  -- the set's forward rows: each string with its six numbers
  prefix_rows : List ℕ → List (List ℕ × List ℕ) → Case
  -- the set's backward rows: each suffix in trace order, with inner and edge
  suffix_skips : List ℕ → List (List ℕ × List ℕ) → Case
  -- inner and edge of a row, and far of a byte at a depth
  inner_is : List ℕ → List ℕ → ℕ → Case
  edge_is : List ℕ → List ℕ → ℕ → Case
  far_is : List ℕ → ℕ → ℕ → ℕ → Case
  -- set and trace: the answer and the hit pairs
  forward_scan : List ℕ → List ℕ → Told → List ℕ → Case
  -- set, trace, row file and byte file: the answer and the hit pairs
  backward_scan : List ℕ → List ℕ → List ℕ → List ℕ → Told → List ℕ → Case
  -- set, row file and byte file: the answer
  check : List ℕ → List ℕ → List ℕ → Told → Case

-- a list of strings is another
unfoldable pub same_all : List (List ℕ) → List (List ℕ) → Bool
same_all [] [] = true
same_all [] (b ∷ y) = false
same_all (a ∷ x) [] = false
same_all (a ∷ x) (b ∷ y) = same a b && same_all x y

-- an answer is another
unfoldable pub same_told : Told → Told → Bool
same_told a b =
    eqb a.number b.number
    && eqb a.place b.place
    && eqb a.count b.count
    && eqb a.questions b.questions
    && eqb a.energy b.energy

-- a workspace that holds the set's rows exactly
unfoldable pub room_for : Way → List ℕ → ℕ
room_for way s = row_cells * length (rows_of way (keywords s))

-- a hit buffer with room for six pairs
abbrev pub no_hits : List ℕ
no_hits = replicate 12 0

unfoldable pub holds : Case → Bool
holds (prefix_rows s rows) =
    same_all (rows_of forward (keywords s)) (map (λ r. r.0) rows)
    && same (cells forward (keywords s)) (flat_map (λ r. r.1) rows)
holds (suffix_skips s rows) =
    let ks = keywords s in
    same_all (suffix_rows ks) (map (λ r. r.0) rows)
    && same (flat_map (λ v. inner ks v ∷ edge ks v ∷ []) (suffix_rows ks)) (flat_map (λ r. r.1) rows)
holds (inner_is s v n) = eqb (inner (keywords s) v) n
holds (edge_is s v n) = eqb (edge (keywords s) v) n
holds (far_is s a z n) = eqb (far (keywords s) a z) n
holds (forward_scan s t answer listed) =
    let v = forward_verdict s t (room_for forward s) in
    same_told (answer_or (forward_told (keywords s) t) v) answer
    && same (kept no_hits (hit_buffer (hits (keywords s) t) no_hits) v) (over listed no_hits)
holds (backward_scan s t rowf bytef answer listed) =
    let v = or_else (backward_entry s t (room_for backward s)) (table_verdict (keywords s) rowf bytef) in
    same_told (answer_or (backward_told (keywords s) t rowf bytef) v) answer
    && same (kept no_hits (hit_buffer (hits (keywords s) t) no_hits) v) (over listed no_hits)
    && same (pairs (run_hits (keywords s) rowf bytef t)) listed
holds (check s rowf bytef answer) =
    let v = or_else (table_entry s (room_for backward s)) (table_verdict (keywords s) rowf bytef) in
    same_told (answer_or (rows_told (keywords s)) v) answer

unfoldable pub all_hold : List Case → Bool
all_hold [] = true
all_hold (c ∷ cs) = holds c && all_hold cs

-- The opcodes of the examples.
abbrev pub A : ℕ
A = 65

abbrev pub B : ℕ
B = 66

abbrev pub L : ℕ
L = 76

abbrev pub M : ℕ
M = 77

abbrev pub Z : ℕ
Z = 90

-- a keyword's record
unfoldable pub keyword_record : List ℕ → ℕ → List ℕ
keyword_record word energy = named word ++ low_first 4 energy

-- The sets of the examples. Document 01 names no energy for AA, AB and BA.
unfoldable pub W : List ℕ
W = keyword_record (L ∷ M ∷ []) 40 ++ keyword_record (A ∷ L ∷ M ∷ []) 55 ++ keyword_record (L ∷ M ∷ L ∷ A ∷ []) 90

unfoldable pub AA : List ℕ
AA = keyword_record (A ∷ A ∷ []) 1

unfoldable pub AB-BA : List ℕ
AB-BA = keyword_record (A ∷ B ∷ []) 1 ++ keyword_record (B ∷ A ∷ []) 1

-- the trace T
unfoldable pub trace : List ℕ
trace = A ∷ L ∷ M ∷ L ∷ A ∷ L ∷ M ∷ []

-- W's row file and byte file with the largest numbers, and with every number 1
unfoldable pub largest_rows : List ℕ
largest_rows = row_file (keywords W)

unfoldable pub largest_bytes : List ℕ
largest_bytes = byte_file (keywords W)

unfoldable pub one_rows : List ℕ
one_rows = flat_map (λ v. named v ++ (1 ∷ 1 ∷ [])) (suffix_rows (keywords W))

unfoldable pub one_bytes : List ℕ
one_bytes = replicate byte_file_size 1

-- the answer of a scan: count, energy and questions, as they are printed
unfoldable pub found : ℕ → ℕ → ℕ → Told
found count energy questions =
    record { number = 0; place = 0; count = count; questions = questions; energy = energy }

-- T's hits with W
unfoldable pub hits_of_t : List ℕ
hits_of_t = 3 ∷ 1 ∷ 3 ∷ 0 ∷ 5 ∷ 2 ∷ 7 ∷ 1 ∷ 7 ∷ 0 ∷ []

unfoldable pub cases : List Case
cases =
    -- (a)
    prefix_rows W (
    ([], 0 ∷ 1 ∷ 0 ∷ 0 ∷ 0 ∷ 0 ∷ [])
    ∷ (L ∷ [], L ∷ 2 ∷ 3 ∷ 0 ∷ 0 ∷ 0 ∷ [])
    ∷ (L ∷ M ∷ [], M ∷ 6 ∷ 0 ∷ 0 ∷ 1 ∷ 0 ∷ [])
    ∷ (A ∷ [], A ∷ 4 ∷ 0 ∷ 0 ∷ 0 ∷ 0 ∷ [])
    ∷ (A ∷ L ∷ [], L ∷ 5 ∷ 0 ∷ 1 ∷ 0 ∷ 0 ∷ [])
    ∷ (A ∷ L ∷ M ∷ [], M ∷ 0 ∷ 0 ∷ 2 ∷ 2 ∷ 2 ∷ [])
    ∷ (L ∷ M ∷ L ∷ [], L ∷ 7 ∷ 0 ∷ 1 ∷ 0 ∷ 0 ∷ [])
    ∷ (L ∷ M ∷ L ∷ A ∷ [], A ∷ 0 ∷ 0 ∷ 3 ∷ 3 ∷ 0 ∷ [])
    ∷ [])
    -- (b)
    ∷ forward_scan W trace (found 5 280 9) hits_of_t
    -- (c)
    ∷ forward_scan W (L ∷ M ∷ L ∷ M ∷ []) (found 2 80 5) (2 ∷ 0 ∷ 4 ∷ 0 ∷ [])
    -- (d)
    ∷ forward_scan AA (A ∷ A ∷ A ∷ A ∷ []) (found 3 3 6) (2 ∷ 0 ∷ 3 ∷ 0 ∷ 4 ∷ 0 ∷ [])
    -- (e)
    ∷ forward_scan AA (A ∷ B ∷ []) (found 0 0 3) []
    -- (f)
    ∷ forward_scan W [] (found 0 0 0) []
    ∷ backward_scan W [] largest_rows largest_bytes (found 0 0 0) []
    -- (g)
    ∷ suffix_skips W (
    ([], 1 ∷ 2 ∷ [])
    ∷ (M ∷ [], 2 ∷ 2 ∷ [])
    ∷ (L ∷ M ∷ [], 2 ∷ 2 ∷ [])
    ∷ (A ∷ L ∷ M ∷ [], 2 ∷ 2 ∷ [])
    ∷ (A ∷ [], 2 ∷ 2 ∷ [])
    ∷ (L ∷ A ∷ [], 2 ∷ 2 ∷ [])
    ∷ (M ∷ L ∷ A ∷ [], 2 ∷ 2 ∷ [])
    ∷ (L ∷ M ∷ L ∷ A ∷ [], 2 ∷ 2 ∷ [])
    ∷ [])
    -- (h)
    ∷ far_is W L 0 1
    ∷ far_is W L 1 2
    ∷ far_is W L 2 1
    ∷ far_is W L 3 2
    ∷ far_is W A 1 1
    ∷ far_is W Z 0 2
    -- (i)
    ∷ backward_scan W trace largest_rows largest_bytes (found 5 280 13) hits_of_t
    -- (j)
    ∷ backward_scan W trace one_rows one_bytes (found 5 280 16) hits_of_t
    -- (k)
    ∷ inner_is AB-BA (B ∷ []) 1
    ∷ edge_is AB-BA (A ∷ B ∷ []) 1
    -- (l)
    ∷ check W (set largest_rows 16 2) largest_bytes (told_refusal 12 0)
    -- (m)
    ∷ check W (over (take row_record (drop row_record largest_rows)) largest_rows) largest_bytes (told_refusal 11 0)
    ∷ []
