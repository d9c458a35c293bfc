-- A store into one number of a row changes no other number: a cell's index has the row and the number as its parts.
use Prim.Native.Nat.{ℕ, suc, ◌+◌, ◌-◌, ◌*◌, ◌≤◌, ◌<◌}
use native.Mathlib.Omega.{arith}
use mathlib.Core.Path.{◌≡◌, sym, ◌∙◌, ap}
use mathlib.Core.List.{List, [], ◌∷◌, ◌++◌}
use lib.ListN.{length, get_or, drop, set, length-set}
use lib.Seq.{get_or-set_same, get_or-set_other, drop-set-lt, drop-drop}
use lib.Dec.{eqb}
use borrow.Author.Tests.{eqb-true, eqb-false}
use Rattle.rules.specs.sets.Limits.{row_cells}
use Rattle.rules.specs.sets.Sets.{Keyword}
use Rattle.rules.specs.rows.Rows.{Way, read_by, key_of}
use Rattle.rules.proofs.strings.Strings.{either}
use Rattle.rules.proofs.rows.Keys.{key_of_own, key_of-kept}
use Rattle.rows.specs.Tree.{Column, Tree, Held, Beyond}

-- a row's six numbers are within the workspace
pub tree_room : {R : List (List ℕ)} {ws : List ℕ} → Tree R ws → (i : ℕ) → i < length R → row_cells * i + row_cells ≤ length ws
tree_room tree i q = omega (arith, tree.room)

module _ {f : ℕ → ℕ} {n : ℕ} (ws : List ℕ) (j r v : ℕ) where
  -- number k of row r is written: number j of every row stays
  pub column_other : (k : ℕ) → j < row_cells → k < row_cells → (j ≡ k → ⊥) → Column j f n ws → Column j f n (set ws (row_cells * r + k) v)
  column_other k p q other held i within =
      get_or-set_other ws (row_cells * r + k) (row_cells * i + j) v 0 (λ e. other (omega arith)) ∙ held i within

  -- number j of row r is written: it stays in all other rows
  pub column-set : (g : ℕ → ℕ)
      → row_cells * r + j < length ws
      → ((i : ℕ) → i < n → (i ≡ r → ⊥) → f i ≡ g i)
      → g r ≡ v
      → Column j f n ws
      → Column j g n (set ws (row_cells * r + j) v)
  column-set g room kept new held i within =
      either (eqb i r)
      (λ t.
      let here : i ≡ r = eqb-true i r t in
      rw here (get_or-set_same ws (row_cells * r + j) v 0 room ∙ sym new))
      (λ t.
      get_or-set_other ws (row_cells * r + j) (row_cells * i + j) v 0 (λ e. eqb-false i r t (omega arith))
      ∙ held i within
      ∙ kept i within (eqb-false i r t))

-- the rows and their links stand in the first three numbers
pub tree_other : {R : List (List ℕ)} {ws : List ℕ} (r k v : ℕ) → 3 ≤ k → k < row_cells → Tree R ws → Tree R (set ws (row_cells * r + k) v)
tree_other {R} {ws} r k v low high tree =
    record {
      rowed = tree.rowed;
      room = rw (length-set ws (row_cells * r + k) v) tree.room;
      bytes = column_other ws 0 r v k (omega arith) high (λ e. omega arith) tree.bytes;
      children = column_other ws 1 r v k (omega arith) high (λ e. omega arith) tree.children;
      siblings = column_other ws 2 r v k (omega arith) high (λ e. omega arith) tree.siblings;
    }

-- A keyword's number written at a row: the keywords stand in the fifth number alone.
pub key-written : {way : Way} {ks : List Keyword} {R : List (List ℕ)} {ws : List ℕ}
    → Held way ks R ws
    → (ls : List Keyword) (row v : ℕ)
    → row < length R
    → ((i : ℕ) → i < length R → (i ≡ row → ⊥) → key_of way ks (get_or R i []) ≡ key_of way ls (get_or R i []))
    → key_of way ls (get_or R row []) ≡ v
    → Held way ls R (set ws (row_cells * row + 4) v)
key-written {way} {ks} {R} {ws} held ls row v within kept new =
    record {
      tree = tree_other row 4 v (omega arith) (omega arith) held.tree;
      failures = column_other ws 3 row v 4 (omega arith) (omega arith) (λ e. omega arith) held.failures;
      keys =
          column-set ws 4 row v (λ i. key_of way ls (get_or R i [])) (omega (arith, held.tree.room)) kept new held.keys;
      dictionaries = column_other ws 5 row v 4 (omega arith) (omega arith) (λ e. omega arith) held.dictionaries;
    }

-- so a keyword more is held once its number is written at its row
pub held_keyed : {way : Way} {ks : List Keyword} {R : List (List ℕ)} {ws : List ℕ}
    → Held way ks R ws
    → (k : Keyword) (row : ℕ)
    → row < length R
    → get_or R row [] ≡ read_by way k.word
    → key_of way ks (read_by way k.word) ≡ 0
    → Held way (ks ++ (k ∷ [])) R (set ws (row_cells * row + 4) (suc k.number))
held_keyed {way} {ks} {R} held k row within reads no_key =
    key-written held (ks ++ (k ∷ [])) row (suc k.number) within
    (λ i q other.
    sym (key_of-kept way ks k (get_or R i []) (λ e. other (held.tree.rowed.distinct i row q within (sym e ∙ sym reads)))))
    (ap (key_of way (ks ++ (k ∷ []))) reads ∙ key_of_own way ks k no_key)

-- What is beyond the rows stays over stores within them, and over more rows.
pub beyond-set : (ws : List ℕ) (n i v : ℕ) → i < row_cells * n → Beyond n ws (set ws i v)
beyond-set ws n i v within = (length-set ws i v, drop-set-lt (row_cells * n) ws i v within)

pub beyond_more : (ws ws' : List ℕ) (n m : ℕ) → n ≤ m → Beyond n ws ws' → Beyond m ws ws'
beyond_more ws ws' n m more (long, kept) =
    let k : ℕ = row_cells * m - row_cells * n in
    let at : row_cells * n + (row_cells * m - row_cells * n) ≡ row_cells * m = omega arith in
    let cut : (l : List ℕ) → drop (row_cells * m) l ≡ drop k (drop (row_cells * n) l) =
    (λ l. sym (drop-drop k (row_cells * n) l ∙ ap (λ (x : ℕ). drop x l) at)) in
    (long, cut ws' ∙ ap (drop k) kept ∙ sym (cut ws))

pub beyond_trans : (ws ws' ws'' : List ℕ) (n : ℕ) → Beyond n ws ws' → Beyond n ws' ws'' → Beyond n ws ws''
beyond_trans ws ws' ws'' n (long, kept) (long', kept') = (long' ∙ long, kept' ∙ kept)
