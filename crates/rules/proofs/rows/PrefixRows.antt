-- The rows of a length are the first bytes of keywords: because a string is a row exactly where it begins a keyword.
use Prim.Native.Nat.{ℕ, ◌≤◌}
use native.Mathlib.Omega.{arith}
use mathlib.Core.Path.{◌≡◌, sym, ◌∙◌, ap}
use mathlib.Core.Bool.{true}
use mathlib.Core.List.{List, [], ◌∷◌, ◌++◌, Memᴰ}
use lib.ListN.{length, take, drop, take-append-drop, length-append}
use Rattle.rules.specs.sets.Limits.{longest_word}
use Rattle.rules.specs.strings.Strings.{same, begins, any}
use Rattle.rules.specs.sets.Sets.{Keyword}
use Rattle.rules.specs.rows.Rows.{Way, read_by, starts, rows_of}
use Rattle.rules.specs.Beside.{Sound}
use Rattle.rules.proofs.strings.Strings.{or_right, begins_true, begins_by, any_true, any_mem}
use Rattle.rules.proofs.rows.Rows.{rows_are, set_rows_are, read_by-length}

pub prefix_row : (way : Way) (ks : List Keyword) (k : Keyword)
    → Memᴰ k ks
    → (n : ℕ)
    → any (same (take n (read_by way k.word))) (rows_of way ks) ≡ true
unfolding starts
prefix_row way ks k m n =
    let w = read_by way k.word in
    let front : begins (take n (read_by way k.word)) (read_by way k.word) ≡ true =
    begins_by (take n w) w (drop n w) (sym (take-append-drop n w)) in
    set_rows_are way ks (take n w)
    ∙ or_right (same (take n w) []) (any_mem (λ (l : Keyword). begins (take n w) (read_by way l.word)) m front)

-- sets that are not empty
pub filled_rows : (way : Way) (ks : List Keyword) → 1 ≤ length ks → (s : List ℕ) → any (same s) (rows_of way ks) ≡ starts way ks s
filled_rows way [] some s = absurd (omega arith)
filled_rows way (k ∷ ks) some s = rows_are way k ks s

pub row_prefix : (way : Way) {ks : List Keyword}
    → Sound ks
    → (s : List ℕ)
    → any (same s) (rows_of way ks) ≡ true
    → (k : Keyword) × Memᴰ k ks × (r : List ℕ) × (read_by way k.word ≡ s ++ r)
unfolding starts
row_prefix way {ks} sound s row =
    let w = any_true (λ (k : Keyword). begins s (read_by way k.word)) ks (sym (filled_rows way ks sound.some s) ∙ row) in
    let v = begins_true s (read_by way w.0.word) w.2 in
    (w.0, w.1, v.0, v.1)

pub row_short : (way : Way) {ks : List Keyword} → Sound ks → (s : List ℕ) → any (same s) (rows_of way ks) ≡ true → length s ≤ longest_word
row_short way sound s row =
    let w = row_prefix way sound s row in
    omega (arith, sound.short w.0 w.1, read_by-length way w.0.word, ap length w.3, length-append s w.2)
