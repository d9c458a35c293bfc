-- The failure and the dictionary row of a child stand behind its first byte, so they are made of the levels above
-- alone.
use Prim.Native.Nat.{ℕ, ◌+◌, ◌*◌, ◌≤◌, ◌<◌}
use native.Mathlib.Omega.{arith}
use mathlib.Core.Path.{◌≡◌, sym, ◌∙◌, ap, fun_ext}
use mathlib.Core.Bool.{Bool, true, false, cond}
use mathlib.Core.List.{List, [], ◌∷◌, ◌++◌}
use lib.ListN.{length, get_or, set, length-append}
use Rattle.std.specs.Prelude.{Some, None}
use Rattle.rules.specs.sets.Limits.{row_cells}
use Rattle.rules.specs.strings.Strings.{same, any, longest_behind}
use Rattle.rules.specs.sets.Sets.{Keyword, is_keyword}
use Rattle.rules.specs.rows.Rows.{forward, starts, read_by, rows_of, row_of, key_of, failure_cell, dictionary_cell, is_row}
use Rattle.rules.specs.Beside.{Sound, Rowed}
use Rattle.rules.proofs.strings.Strings.{either, passes}
use Rattle.rules.proofs.rows.Rows.{row_of_is, row_of-nil, row_of_none, row_of_pos}
use Rattle.rules.proofs.rows.PrefixRows.{filled_rows, row_short}
use Rattle.rules.proofs.rows.Children.{row_filled}
use Rattle.rules.proofs.rows.Keys.{no_keyword_no_key, no_key_no_keyword}
use Rattle.rules.proofs.scans.Dictionary.{dictionary_failure}
use Rattle.rules.proofs.scans.State.{longest-length, behind_one, behind_state, behind-length, behind_passes}
use Rattle.rows.specs.declared.failures.Advanced.{Advanced}
use Rattle.rows.specs.declared.tree.Asked.{Asked}
use Rattle.rows.specs.Tree.{Answered, own}
use Rattle.rows.specs.Falls.{Ready, Moved, Fillable, Filled}
use Rattle.rows.proofs.Links.{link_some, owned, unowned}
use Rattle.rows.proofs.Chain.{closed_row, nil_row, fall_within, fall_reads}

-- what stands behind is no longer
behind_le : (p : List ℕ → Bool) (u : List ℕ) → length (longest_behind p u) ≤ length u
unfolding longest_behind
behind_le p [] = omega arith
behind_le p (x ∷ u) = omega (arith, longest-length p u)

-- every row's number is below how many there are
pub row_of_below : {R : List (List ℕ)} → Rowed R → (s : List ℕ) → row_of R s < length R
row_of_below {R} rowed s =
    either (any (same s) R) (λ t. (row_of_is R s t).0) (λ f. rw (row_of_none R s f) rowed.some)

-- to be a row is to begin a keyword
rows_test : {ks : List Keyword} → Sound ks → is_row (rows_of forward ks) ≡ starts forward ks
rows_test {ks} sound = fun_ext (filled_rows forward ks sound.some)

pub failure_is : {ks : List Keyword} → Sound ks → (r : List ℕ)
    → failure_cell forward ks (rows_of forward ks) r ≡ row_of (rows_of forward ks) (longest_behind (is_row (rows_of forward ks)) r)
unfolding failure_cell
failure_is sound r = rw (rows_test sound)

-- a child: its string and its row, its failure's string and row, and its dictionary row
abbrev pub string_of : List Keyword → ℕ → ℕ → List ℕ
string_of ks parent c = get_or (rows_of forward ks) parent [] ++ (c ∷ [])

abbrev behind_of : List Keyword → ℕ → ℕ → List ℕ
behind_of ks parent c = longest_behind (is_row (rows_of forward ks)) (string_of ks parent c)

abbrev pub child_row : List Keyword → ℕ → ℕ → ℕ
child_row ks parent c = row_of (rows_of forward ks) (string_of ks parent c)

abbrev pub fail_row : List Keyword → ℕ → ℕ → ℕ
fail_row ks parent c = row_of (rows_of forward ks) (behind_of ks parent c)

abbrev pub dict_row : List Keyword → ℕ → ℕ → ℕ
dict_row ks parent c = dictionary_cell forward ks (rows_of forward ks) (string_of ks parent c)

module _ {ks : List Keyword} {d parent c : ℕ} {ws : List ℕ} (f : Fillable ks d parent c ws) where
  string-length : length (string_of ks parent c) ≡ d + 1
  string-length = omega (arith, length-append (get_or (rows_of forward ks) parent []) (c ∷ []), f.level)

  -- the question for the child finds it
  pub child_found : {found : Asked}
      → Answered (rows_of forward ks) (get_or (rows_of forward ks) parent []) c found
      → found.child ≡ Some (child_row ks parent c)
  child_found answer =
      let filled : 1 ≤ length (string_of ks parent c) = omega (arith, string-length) in
      answer.child
      ∙ link_some (child_row ks parent c) (λ z. omega (arith, row_of_pos f.filling.tree.rowed (string_of ks parent c) filled f.row))

  -- a step may start from the parent, and from its failure
  parent_ready : Ready (rows_of forward ks) d parent ws
  parent_ready =
      record {
        tree = f.filling.tree;
        short = omega (arith, row_short forward f.sound (string_of ks parent c) f.row, string-length);
        falls = λ i q h. f.filling.failures i q h ∙ failure_is f.sound (get_or (rows_of forward ks) i []);
        within = f.within;
        shallow = omega (arith, f.level);
      }

  up_reads : get_or (rows_of forward ks) (get_or ws (row_cells * parent + 3) 0) [] ≡ longest_behind (is_row (rows_of forward ks)) (get_or (rows_of forward ks) parent [])
  up_reads = fall_reads parent_ready parent f.within parent_ready.shallow

  pub up_ready : Ready (rows_of forward ks) d (get_or ws (row_cells * parent + 3) 0) ws
  up_ready =
      record {
        tree = parent_ready.tree;
        short = parent_ready.short;
        falls = parent_ready.falls;
        within = fall_within parent_ready parent f.within parent_ready.shallow;
        shallow = omega (arith, ap length up_reads, behind_le (is_row (rows_of forward ks)) (get_or (rows_of forward ks) parent []), f.level);
      }

  -- the child's failure: nothing is behind one byte, and else it is where the step from the parent's failure leads
  pub fails-root : parent ≡ 0 → 0 ≡ fail_row ks parent c
  fails-root root =
      let rowed = f.filling.tree.rowed in
      let empty : get_or (rows_of forward ks) parent [] ≡ [] = rw root rowed.first in
      rw (empty, behind_one (is_row (rows_of forward ks)) c) (sym (row_of-nil rowed))

  pub fails_up : (parent ≡ 0 → ⊥)
      → {m : Advanced}
      → Moved (rows_of forward ks) (get_or (rows_of forward ks) (get_or ws (row_cells * parent + 3) 0) []) c m
      → m.row ≡ fail_row ks parent c
  fails_up some moved =
      let rowed = f.filling.tree.rowed in
      let s = get_or (rows_of forward ks) parent [] in
      let pos : 1 ≤ parent = omega arith in
      let step = behind_state (is_row (rows_of forward ks)) (closed_row rowed) s c (row_filled rowed parent pos f.within) in
      moved.row ∙ rw up_reads (ap (row_of (rows_of forward ks)) (sym step))

  behind_reads : get_or (rows_of forward ks) (fail_row ks parent c) [] ≡ behind_of ks parent c
  behind_reads =
      let passing = behind_passes (is_row (rows_of forward ks)) (nil_row f.filling.tree.rowed) (string_of ks parent c) in
      (row_of_is (rows_of forward ks) (behind_of ks parent c) passing).1

  behind_short : length (get_or (rows_of forward ks) (fail_row ks parent c) []) ≤ d
  behind_short =
      let filled : 1 ≤ length (string_of ks parent c) = omega (arith, string-length) in
      omega (arith, ap length behind_reads, behind-length (is_row (rows_of forward ks)) (string_of ks parent c) filled, string-length)

  pub fail_within : fail_row ks parent c < length (rows_of forward ks)
  fail_within = row_of_below f.filling.tree.rowed (behind_of ks parent c)

  -- the child's dictionary row: its failure where that has a key, else the failure's own
  key_is : get_or ws (row_cells * fail_row ks parent c + 4) 0 ≡ key_of forward ks (behind_of ks parent c)
  key_is = f.filling.keys (fail_row ks parent c) fail_within ∙ ap (key_of forward ks) behind_reads

  dictionary_is : longest_behind (is_keyword ks) (string_of ks parent c)
      ≡ cond (is_keyword ks (behind_of ks parent c)) (behind_of ks parent c) (longest_behind (is_keyword ks) (behind_of ks parent c))
  dictionary_is = dictionary_failure ks (string_of ks parent c) (behind_of ks parent c) (rw (rows_test f.sound))

  pub dict_keyed : {fail number : ℕ}
      → fail ≡ fail_row ks parent c
      → own (get_or ws (row_cells * fail + 4) 0) ≡ Some number
      → fail ≡ dict_row ks parent c
  unfolding dictionary_cell read_by
  dict_keyed {fail} {number} at key =
      let b = behind_of ks parent c in
      let some = owned (get_or ws (row_cells * fail + 4) 0) number key in
      let keyword : is_keyword ks (behind_of ks parent c) ≡ true =
      passes (is_keyword ks b) (λ t. omega (arith, rw at at some, key_is, no_keyword_no_key forward ks b t)) in
      rw (at, dictionary_is, keyword)

  pub dict_unkeyed : {fail : ℕ}
      → fail ≡ fail_row ks parent c
      → own (get_or ws (row_cells * fail + 4) 0) ≡ None
      → get_or ws (row_cells * fail + 5) 0 ≡ dict_row ks parent c
  unfolding dictionary_cell read_by
  dict_unkeyed {fail} at key =
      let none = unowned (get_or ws (row_cells * fail + 4) 0) key in
      let other : is_keyword ks (behind_of ks parent c) ≡ false =
      no_key_no_keyword forward ks (behind_of ks parent c) (sym key_is ∙ (rw at at none)) in
      rw at (f.filling.dictionaries (fail_row ks parent c) fail_within behind_short ∙ rw (behind_reads, dictionary_is, other))

  pub dict_within : dict_row ks parent c < length (rows_of forward ks)
  unfolding dictionary_cell
  dict_within = row_of_below f.filling.tree.rowed (longest_behind (is_keyword ks) (string_of ks parent c))

  -- both written at the child
  pub child_within : child_row ks parent c < length (rows_of forward ks)
  child_within = row_of_below f.filling.tree.rowed (string_of ks parent c)

  pub filled : {row fail dict : ℕ}
      → row ≡ child_row ks parent c
      → fail ≡ fail_row ks parent c
      → dict ≡ dict_row ks parent c
      → Filled ks parent c row ws (set (set ws (row_cells * row + 3) fail) (row_cells * row + 5) dict)
  filled {row} at fails dicts =
      let reads : get_or (rows_of forward ks) row [] ≡ string_of ks parent c =
      rw at (row_of_is (rows_of forward ks) (string_of ks parent c) f.row).1 in
      record { child = at; written = rw (reads, failure_is f.sound (string_of ks parent c), fails, dicts) }
