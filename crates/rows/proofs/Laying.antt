-- A workspace whose six columns are the definition's is the definition's list at its front: number 6 * i + k of that
-- list is number k of row i, and every place of it is such a number.
use Prim.Native.Nat.{ℕ, zero, suc, ◌+◌, ◌*◌, ◌/◌, ◌%◌, ◌≤◌, ◌<◌}
use native.Mathlib.Nat.{zero-add}
use native.Mathlib.Omega.{arith}
use mathlib.Core.Path.{◌≡◌, refl, sym, ◌∙◌, ap}
use mathlib.Core.List.{List, [], ◌∷◌}
use lib.ListN.{length, get_or, take, drop, length-append, length-take, get_or-append}
use lib.Seq.{get_or-append-add, get_or-take, ext_get_or}
use Rattle.rules.specs.sets.Limits.{row_cells, longest_word}
use Rattle.rules.specs.strings.Strings.{longest_behind}
use Rattle.rules.specs.sets.Sets.{Keyword}
use Rattle.rules.specs.rows.Rows.{Way, forward, backward, rows_of, key_of, failure_cell, dictionary_cell, cells_at, cells_from, cells}
use Rattle.rules.specs.scans.Hits.{over}
use Rattle.rules.specs.Beside.{Sound}
use Rattle.rules.proofs.rows.Rows.{rowed_rows, row_of-nil, row_at}
use Rattle.rules.proofs.rows.Keys.{key-nil}
use Rattle.rules.proofs.rows.PrefixRows.{row_short}
use Rattle.rules.proofs.scans.Buffers.{over_by, over-length}
use Rattle.rows.specs.Tree.{Column, byte_of, children_of, siblings_of, Held, Beyond}
use Rattle.rows.specs.Falls.{Filling}
use Rattle.rows.specs.Laid.{Laid}

-- six numbers a row
six-cells : (way : Way) (ks : List Keyword) (R : List (List ℕ)) (i : ℕ) (r : List ℕ) → length (cells_at way ks R i r) ≡ row_cells
unfolding cells_at
six-cells way ks R zero r = refl
six-cells way ks R (suc i) r = refl

cells_from-length : (way : Way) (ks : List Keyword) (R : List (List ℕ)) (n : ℕ) (L : List (List ℕ))
    → length (cells_from way ks R n L) ≡ row_cells * length L
unfolding cells_from
cells_from-length way ks R n [] = refl
cells_from-length way ks R n (r ∷ L) =
    omega (
      arith,
      length-append (cells_at way ks R n r) (cells_from way ks R (suc n) L),
      six-cells way ks R n r,
      cells_from-length way ks R (suc n) L,
    )

pub cells-length : (way : Way) (ks : List Keyword) → length (cells way ks) ≡ row_cells * length (rows_of way ks)
unfolding cells
cells-length way ks = cells_from-length way ks (rows_of way ks) 0 (rows_of way ks)

-- number k of row i
cells_from_at : (way : Way) (ks : List Keyword) (R : List (List ℕ)) (n : ℕ) (L : List (List ℕ)) (i k : ℕ)
    → i < length L
    → k < row_cells
    → get_or (cells_from way ks R n L) (row_cells * i + k) 0 ≡ get_or (cells_at way ks R (n + i) (get_or L i [])) k 0
unfolding cells_from
cells_from_at way ks R n [] i k q h = absurd (omega arith)
cells_from_at way ks R n (r ∷ L) zero k q h =
    let at : row_cells * 0 + k ≡ k = omega arith in
    let here : n + 0 ≡ n = omega arith in
    rw (at, here)
    (get_or-append (cells_at way ks R n r) (cells_from way ks R (suc n) L) 0 k (omega (arith, six-cells way ks R n r)))
cells_from_at way ks R n (r ∷ L) (suc i) k q h =
    let at : row_cells * suc i + k ≡ length (cells_at way ks R n r) + (row_cells * i + k) = omega (arith, six-cells way ks R n r) in
    let behind : suc n + i ≡ n + suc i = omega arith in
    rw (at, ← behind)
    (get_or-append-add (cells_at way ks R n r) (cells_from way ks R (suc n) L) (row_cells * i + k) 0
    ∙ cells_from_at way ks R (suc n) L i k (omega arith) h)

-- number k of row i by the definition
unfoldable pub cell_of : Way → List Keyword → ℕ → ℕ → ℕ
cell_of way ks k i = let R = rows_of way ks in get_or (cells_at way ks R i (get_or R i [])) k 0

pub cells-at : (way : Way) (ks : List Keyword) (i k : ℕ) → i < length (rows_of way ks) → k < row_cells → get_or (cells way ks) (row_cells * i + k) 0 ≡ cell_of way ks k i
unfolding cells cell_of
cells-at way ks i k q h =
    cells_from_at way ks (rows_of way ks) 0 (rows_of way ks) i k q h ∙ rw (zero-add i)

-- all columns, there and back
pub columns-over : (way : Way) (ks : List Keyword) (ws ws' : List ℕ)
    → row_cells * length (rows_of way ks) ≤ length ws
    → Beyond (length (rows_of way ks)) ws ws'
    → ((k : ℕ) → k < row_cells → Column k (cell_of way ks k) (length (rows_of way ks)) ws')
    → ws' ≡ over (cells way ks) ws
columns-over way ks ws ws' room beyond columns =
    over_by new ws ws'
    (ext_get_or 0 (take (length new) ws') new
    (omega (arith, length-take (length new) ws', size, beyond.0))
    (λ n q. at n (omega (arith, length-take (length new) ws'))))
    (rw size beyond.1)
  where
    new : List ℕ
    new = cells way ks

    size : length (cells way ks) ≡ row_cells * length (rows_of way ks)
    size = cells-length way ks

    at : (n : ℕ) → n < length (cells way ks) → get_or (take (length (cells way ks)) ws') n 0 ≡ get_or (cells way ks) n 0
    at n q =
        let i : ℕ = n / row_cells in
        let k : ℕ = n % row_cells in
        let place : n ≡ row_cells * (n / row_cells) + n % row_cells = omega arith in
        let within : n / row_cells < length (rows_of way ks) = omega (arith, size) in
        get_or-take (length (cells way ks)) ws' n 0 q
        ∙ ap (λ (m : ℕ). get_or ws' m 0) place
        ∙ columns (n % row_cells) (omega arith) (n / row_cells) within
        ∙ sym (cells-at way ks (n / row_cells) (n % row_cells) within (omega arith))
        ∙ ap (λ (m : ℕ). get_or (cells way ks) m 0) (sym place)

pub over_columns : (way : Way) (ks : List Keyword) (ws : List ℕ) (k : ℕ)
    → k < row_cells
    → Column k (cell_of way ks k) (length (rows_of way ks)) (over (cells way ks) ws)
unfolding over
over_columns way ks ws k h i q =
    get_or-append (cells way ks) (drop (length (cells way ks)) ws) 0 (row_cells * i + k) (omega (arith, cells-length way ks))
    ∙ cells-at way ks i k q h

-- The definition's numbers by name. In row 0 they are as in any other row but for the byte and the sibling: the empty
-- string is no keyword, and the longest string behind it is itself.
failure-root : (way : Way) (ks : List Keyword) → failure_cell way ks (rows_of way ks) [] ≡ 0
unfolding failure_cell longest_behind
failure-root forward ks = row_of-nil (rowed_rows forward ks)
failure-root backward ks = refl

dictionary-root : (way : Way) (ks : List Keyword) → dictionary_cell way ks (rows_of way ks) [] ≡ 0
unfolding dictionary_cell longest_behind
dictionary-root forward ks = row_of-nil (rowed_rows forward ks)
dictionary-root backward ks = refl

module _ (way : Way) (ks : List Keyword) where
  byte_cell : (i : ℕ) → cell_of way ks 0 i ≡ byte_of (rows_of way ks) i
  unfolding cell_of cells_at byte_of
  byte_cell zero = refl
  byte_cell (suc i) = refl

  child_cell : (i : ℕ) → cell_of way ks 1 i ≡ children_of (rows_of way ks) i
  unfolding cell_of cells_at children_of
  child_cell zero = refl
  child_cell (suc i) = refl

  sibling_cell : (i : ℕ) → cell_of way ks 2 i ≡ siblings_of (rows_of way ks) i
  unfolding cell_of cells_at siblings_of
  sibling_cell zero = refl
  sibling_cell (suc i) = refl

  failure-cell : (i : ℕ) → cell_of way ks 3 i ≡ failure_cell way ks (rows_of way ks) (get_or (rows_of way ks) i [])
  unfolding cell_of cells_at
  failure-cell zero = rw (rowed_rows way ks).first (sym (failure-root way ks))
  failure-cell (suc i) = refl

  key_cell : Sound ks → (i : ℕ) → cell_of way ks 4 i ≡ key_of way ks (get_or (rows_of way ks) i [])
  unfolding cell_of cells_at
  key_cell sound zero = rw (rowed_rows way ks).first (sym (key-nil way ks sound.filled))
  key_cell sound (suc i) = refl

  dictionary-cell : (i : ℕ) → cell_of way ks 5 i ≡ dictionary_cell way ks (rows_of way ks) (get_or (rows_of way ks) i [])
  unfolding cell_of cells_at
  dictionary-cell zero = rw (rowed_rows way ks).first (sym (dictionary-root way ks))
  dictionary-cell (suc i) = refl

-- a workspace that holds all six columns is the definition's, and the definition's holds them
pub laid-over : {way : Way} {ks : List Keyword} (ws : List ℕ) {ws' : List ℕ}
    → Sound ks
    → Beyond (length (rows_of way ks)) ws ws'
    → Laid way ks ws'
    → ws' ≡ over (cells way ks) ws
laid-over {way} {ks} ws {ws'} sound beyond laid =
    columns-over way ks ws ws' (omega (arith, laid.tree.room, beyond.0)) beyond columns
  where
    columns : (k : ℕ) → k < row_cells → Column k (cell_of way ks k) (length (rows_of way ks)) ws'
    columns zero h i q = laid.tree.bytes i q ∙ sym (byte_cell way ks i)
    columns (suc zero) h i q = laid.tree.children i q ∙ sym (child_cell way ks i)
    columns (suc (suc zero)) h i q = laid.tree.siblings i q ∙ sym (sibling_cell way ks i)
    columns (suc (suc (suc zero))) h i q = laid.failures i q ∙ sym (failure-cell way ks i)
    columns (suc (suc (suc (suc zero)))) h i q = laid.keys i q ∙ sym (key_cell way ks sound i)
    columns (suc (suc (suc (suc (suc zero))))) h i q = laid.dictionaries i q ∙ sym (dictionary-cell way ks i)
    columns (suc (suc (suc (suc (suc (suc k)))))) h i q = absurd (omega arith)

pub over_laid : (way : Way) (ks : List Keyword) (ws : List ℕ)
    → Sound ks
    → row_cells * length (rows_of way ks) ≤ length ws
    → Laid way ks (over (cells way ks) ws)
over_laid way ks ws sound room =
    record {
      tree =
          record {
            rowed = rowed_rows way ks;
            room = omega (arith, over-length (cells way ks) ws (omega (arith, cells-length way ks)));
            bytes = λ i q. column 0 (omega arith) i q ∙ byte_cell way ks i;
            children = λ i q. column 1 (omega arith) i q ∙ child_cell way ks i;
            siblings = λ i q. column 2 (omega arith) i q ∙ sibling_cell way ks i;
          };
      failures = λ i q. column 3 (omega arith) i q ∙ failure-cell way ks i;
      keys = λ i q. column 4 (omega arith) i q ∙ key_cell way ks sound i;
      dictionaries = λ i q. column 5 (omega arith) i q ∙ dictionary-cell way ks i;
    }
  where
    column : (k : ℕ) → k < row_cells → Column k (cell_of way ks k) (length (rows_of way ks)) (over (cells way ks) ws)
    column = over_columns way ks ws

-- backward rows are complete as they are built, and forward ones once every level is filled: no row is longer than a
-- word
pub held_laid : {ks : List Keyword} {ws : List ℕ} → Held backward ks (rows_of backward ks) ws → Laid backward ks ws
unfolding failure_cell dictionary_cell
held_laid held = record { tree = held.tree; failures = held.failures; keys = held.keys; dictionaries = held.dictionaries }

pub filling_laid : {ks : List Keyword} {ws : List ℕ} → Sound ks → Filling ks longest_word ws → Laid forward ks ws
filling_laid {ks} sound filling =
    record {
      tree = filling.tree;
      failures = λ i q. filling.failures i q (short i q);
      keys = filling.keys;
      dictionaries = λ i q. filling.dictionaries i q (short i q);
    }
  where
    short : (i : ℕ) → i < length (rows_of forward ks) → length (get_or (rows_of forward ks) i []) ≤ longest_word
    short i q = let r = get_or (rows_of forward ks) i [] in row_short forward sound r (row_at (rows_of forward ks) i r q refl)

pub held_backward : {ks : List Keyword} (ws : List ℕ) {ws' : List ℕ}
    → Sound ks
    → Beyond (length (rows_of backward ks)) ws ws'
    → Held backward ks (rows_of backward ks) ws'
    → ws' ≡ over (cells backward ks) ws
held_backward ws sound beyond held = laid-over ws sound beyond (held_laid held)

pub filling_forward : {ks : List Keyword} (ws : List ℕ) {ws' : List ℕ}
    → Sound ks
    → Beyond (length (rows_of forward ks)) ws ws'
    → Filling ks longest_word ws'
    → ws' ≡ over (cells forward ks) ws
filling_forward ws sound beyond filling = laid-over ws sound beyond (filling_laid sound filling)
