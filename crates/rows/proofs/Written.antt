-- Two numbers of one row are written, so every other number stays, and what was right stays right.
use Prim.Native.Nat.{ℕ, ◌+◌, ◌*◌, ◌≤◌, ◌<◌}
use native.Mathlib.Omega.{arith}
use mathlib.Core.Path.{◌≡◌, ◌∙◌, ap}
use mathlib.Core.List.{List, []}
use lib.ListN.{length, get_or, set, drop, length-set}
use lib.Seq.{get_or-set_same, get_or-set_other, drop-set-lt}
use lib.Dec.{eqb}
use borrow.Author.Tests.{eqb-true, eqb-false}
use Rattle.rules.specs.sets.Limits.{row_cells}
use Rattle.rules.specs.sets.Sets.{Keyword}
use Rattle.rules.specs.rows.Rows.{forward, rows_of, failure_cell, dictionary_cell}
use Rattle.rules.proofs.strings.Strings.{either}
use Rattle.rows.specs.Tree.{Beyond}
use Rattle.rows.specs.Falls.{Filling, Filled}
use Rattle.rows.proofs.Behind.{row_of_below, string_of}

-- row j's failure and dictionary row, and that it has them
abbrev fail_at : List Keyword → ℕ → ℕ
fail_at ks j = failure_cell forward ks (rows_of forward ks) (get_or (rows_of forward ks) j [])

abbrev dict_at : List Keyword → ℕ → ℕ
dict_at ks j = dictionary_cell forward ks (rows_of forward ks) (get_or (rows_of forward ks) j [])

abbrev pub Right : List Keyword → List ℕ → ℕ → Type 0
Right ks ws j = (get_or ws (row_cells * j + 3) 0 ≡ fail_at ks j) × (get_or ws (row_cells * j + 5) 0 ≡ dict_at ks j)

pub filling_right : {ks : List Keyword} {d : ℕ} {ws : List ℕ}
    → Filling ks d ws
    → (j : ℕ)
    → j < length (rows_of forward ks)
    → length (get_or (rows_of forward ks) j []) ≤ d
    → Right ks ws j
filling_right f j q h = (f.failures j q h, f.dictionaries j q h)

module _ {ks : List Keyword} {d parent c row : ℕ} {ws ws' : List ℕ} (f : Filling ks d ws) (w : Filled ks parent c row ws ws') where
  within : row < length (rows_of forward ks)
  within = rw w.child (row_of_below f.tree.rowed (string_of ks parent c))

  same_size : length ws' ≡ length ws
  same_size = ap length w.written ∙ simp length-set

  other : (n : ℕ) → (n ≡ row_cells * row + 3 → ⊥) → (n ≡ row_cells * row + 5 → ⊥) → get_or ws' n 0 ≡ get_or ws n 0
  other n a b =
      ap (λ (l : List ℕ). get_or l n 0) w.written
      ∙ get_or-set_other (set ws (row_cells * row + 3) (fail_at ks row)) (row_cells * row + 5) n (dict_at ks row) 0 b
      ∙ get_or-set_other ws (row_cells * row + 3) n (fail_at ks row) 0 a

  pub right_new : Right ks ws' row
  right_new =
      let first : List ℕ = set ws (row_cells * row + 3) (fail_at ks row) in
      let room : row_cells * row + row_cells ≤ length ws = omega (arith, within, f.tree.room) in
      let size = length-set ws (row_cells * row + 3) (fail_at ks row) in
      rw w.written (
        get_or-set_other first (row_cells * row + 5) (row_cells * row + 3) (dict_at ks row) 0 (λ e. omega arith)
            ∙ get_or-set_same ws (row_cells * row + 3) (fail_at ks row) 0 (omega arith),
        get_or-set_same first (row_cells * row + 5) (dict_at ks row) 0 (omega (arith, size)),
      )

  pub right_kept : (j : ℕ) → Right ks ws j → Right ks ws' j
  right_kept j right =
      either (eqb j row)
      (λ t. rw (eqb-true j row t) right_new)
      (λ n.
      let apart : j ≡ row → ⊥ = eqb-false j row n in (
        other (row_cells * j + 3) (λ e. apart (omega arith)) (λ e. omega arith) ∙ right.0,
        other (row_cells * j + 5) (λ e. omega arith) (λ e. apart (omega arith)) ∙ right.1,
      ))

  -- the columns that no write reaches
  column : (k : ℕ) → k < row_cells → (k ≡ 3 → ⊥) → (k ≡ 5 → ⊥) → (i : ℕ) → get_or ws' (row_cells * i + k) 0 ≡ get_or ws (row_cells * i + k) 0
  column k small a b i = other (row_cells * i + k) (λ e. a (omega arith)) (λ e. b (omega arith))

  pub filling-kept : Filling ks d ws'
  filling-kept =
      record {
        tree =
            record {
              rowed = f.tree.rowed;
              room = omega (arith, same_size, f.tree.room);
              bytes = λ i q. column 0 (omega arith) (omega arith) (omega arith) i ∙ f.tree.bytes i q;
              children = λ i q. column 1 (omega arith) (omega arith) (omega arith) i ∙ f.tree.children i q;
              siblings = λ i q. column 2 (omega arith) (omega arith) (omega arith) i ∙ f.tree.siblings i q;
            };
        keys = λ i q. column 4 (omega arith) (omega arith) (omega arith) i ∙ f.keys i q;
        failures = λ i q h. (right_kept i (filling_right f i q h)).0;
        dictionaries = λ i q h. (right_kept i (filling_right f i q h)).1;
      }

  pub beyond-kept : Beyond (length (rows_of forward ks)) ws ws'
  beyond-kept =
      let n = row_cells * length (rows_of forward ks) in (
        same_size,
        ap (drop n) w.written
            ∙ drop-set-lt n (set ws (row_cells * row + 3) (fail_at ks row)) (row_cells * row + 5) (dict_at ks row) (omega (arith, within))
            ∙ drop-set-lt n ws (row_cells * row + 3) (fail_at ks row) (omega (arith, within)),
      )
