-- The rows of keywords are built keyword by keyword: each keyword's rows stand behind those of the keywords before
-- it, and what is beyond the last of them is as it was.
use Prim.Native.Nat.{ℕ, ◌+◌, ◌*◌, ◌≤◌, ◌<◌}
use native.Mathlib.Omega.{arith}
use mathlib.Core.Path.{◌≡◌, refl, sym, ◌∙◌, ap}
use mathlib.Core.List.{List, [], ◌∷◌, ◌++◌}
use lib.ListN.{length, get_or, take, drop, replicate, length-drop, get_or-replicate, get_or-append}
use lib.Seq.{take-take}
use Rattle.rules.specs.sets.Limits.{row_cells}
use Rattle.rules.specs.sets.Sets.{Keyword}
use Rattle.rules.specs.rows.Rows.{Way, meet_words, rows_of, place_from, key_of}
use Rattle.rules.proofs.rows.Rows.{rowed-nil}
use Rattle.rules.proofs.rows.Children.{child_of-nil}
use Rattle.rows.specs.Tree.{Column, Beyond, byte_of, children_of, siblings_of}
use Rattle.rows.specs.Builds.{rows_to, Inserting, Built}
use Rattle.rows.proofs.Columns.{beyond_more, beyond_trans}
use Rattle.rows.proofs.Spelling.{rows_within}

-- row 0 alone: six zeros
abbrev pub root : List ℕ
root = replicate row_cells 0

module _ (ws : List ℕ) (room : row_cells ≤ length ws) where
  root_column : (j : ℕ) (f : ℕ → ℕ) → j < row_cells → f 0 ≡ 0 → Column j f 1 (root ++ drop row_cells ws)
  root_column j f h e i q =
      let first : i ≡ 0 = omega arith in
      let at : row_cells * i + j ≡ j = omega arith in
      ap (λ (n : ℕ). get_or (root ++ drop row_cells ws) n 0) at
      ∙ get_or-append root (drop row_cells ws) 0 j h
      ∙ get_or-replicate row_cells j 0 0 h
      ∙ sym e
      ∙ ap f (sym first)

  pub built-root : (way : Way) → Built way [] 1 ws (root ++ drop row_cells ws)
  unfolding rows_of meet_words byte_of children_of siblings_of place_from key_of
  built-root way =
      let long : length (root ++ drop row_cells ws) ≡ length ws = omega (arith, length-drop row_cells ws) in
      record {
        counted = refl;
        held =
            record {
              tree =
                  record {
                    rowed = rowed-nil;
                    room = omega arith;
                    bytes = root_column 0 (byte_of ([] ∷ [])) (omega arith) refl;
                    children = root_column 1 (children_of ([] ∷ [])) (omega arith) (rw (child_of-nil []));
                    siblings = root_column 2 (siblings_of ([] ∷ [])) (omega arith) refl;
                  };
              failures = root_column 3 (λ i. 0) (omega arith) refl;
              keys = root_column 4 (λ i. 0) (omega arith) refl;
              dictionaries = root_column 5 (λ i. 0) (omega arith) refl;
            };
        beyond = (long, refl);
      }

-- what is beyond the rows, whatever their number is called
pub built_beyond : {way : Way} {ks : List Keyword} {rows : ℕ} (ws ws' : List ℕ) → Built way ks rows ws ws' → Beyond (length (rows_of way ks)) ws ws'
built_beyond ws ws' so = rw so.counted at so.beyond

-- One keyword more, and all of them.
module _ (way : Way) (ks : List Keyword) (i : ℕ) where
  pub built_inserting : {rows : ℕ} {ws ws' : List ℕ}
      → i < length ks
      → row_cells * length (rows_of way ks) ≤ length ws
      → Built way (take i ks) rows ws ws'
      → Inserting way ks i rows ws'
  built_inserting h room so =
      record {
        within = h;
        counted = so.counted;
        held = so.held;
        room = omega (arith, rows_within way ks (i + 1), so.beyond.0);
      }

  pub built_more : {rows rows' : ℕ} {ws ws' ws'' : List ℕ}
      → Built way (take i ks) rows ws ws'
      → Built way (take (i + 1) ks) rows' ws' ws''
      → Built way (take (i + 1) ks) rows' ws ws''
  built_more {rows} {rows'} {ws} {ws'} {ws''} so on =
      let more : length (rows_to way ks i) ≤ length (rows_to way ks (i + 1)) =
      rw (take-take i (i + 1) ks (omega arith)) at (rows_within way (take (i + 1) ks) i) in
      let grown : rows ≤ rows' = omega (arith, so.counted, on.counted) in
      record {
        counted = on.counted;
        held = on.held;
        beyond = beyond_trans ws ws' ws'' rows' (beyond_more ws ws' rows rows' grown so.beyond) on.beyond;
      }
