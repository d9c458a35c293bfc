-- The rows that a keyword adds are its prefixes as it is read, from one byte more than it shares with an earlier
-- keyword on: byte by byte, a prefix is new exactly where no earlier word begins with it.
use Prim.Native.Nat.{ℕ, zero, suc, ◌+◌, ◌≤◌, ◌<◌}
use native.Mathlib.Omega.{arith}
use mathlib.Core.Path.{◌≡◌, refl, sym, ◌∙◌, ap}
use mathlib.Core.List.{List, [], ◌∷◌, ◌++◌, map, append-nil, append_assoc}
use lib.ListN.{length, take, drop, get_or, length-append, length-drop, drop_of_length-le, take-append-drop, get_or-append}
use lib.Seq.{drop-nil, drop-cons, drop-append-le, get_or-drop, get_or-append-add}
use Rattle.rules.specs.strings.Strings.{begins, any}
use Rattle.rules.specs.sets.Sets.{Keyword}
use Rattle.rules.specs.rows.Rows.{Way, read_by, prefixes, meet, meet_words, rows_of}
use Rattle.rules.specs.Beside.{no_keyword, nth, most_common}
use Rattle.rules.proofs.strings.Strings.{either}
use Rattle.rules.proofs.strings.Parts.{get_or-map_within}
use Rattle.rules.proofs.rows.Rows.{by_snoc, any_weaken, begins_closed, prefixes_snoc, length-prefixes, meet_snoc, meet_old, meet-new, rows_of_keeps, read_by-length}
use Rattle.rules.proofs.rows.Count.{most_common_le, most_common_snoc, most_common_whole, met}

pub prefixes_at : (w : List ℕ) (i : ℕ) → i < length w → get_or (prefixes w) i [] ≡ take (suc i) w
unfolding prefixes
prefixes_at [] i h = absurd (omega arith)
prefixes_at (a ∷ w) zero h = refl
prefixes_at (a ∷ w) (suc i) h =
    get_or-map_within (λ (p : List ℕ). a ∷ p) (prefixes w) i [] [] (omega (arith, length-prefixes w))
    ∙ ap (λ (l : List ℕ). a ∷ l) (prefixes_at w i (omega arith))

-- the rows of some words and of one more
pub new_rows : (ws : List (List ℕ)) (w : List ℕ)
    → meet (meet_words ([] ∷ []) ws) (prefixes w) ≡ meet_words ([] ∷ []) ws ++ drop (most_common ws w) (prefixes w)
unfolding meet prefixes
new_rows ws =
    let R = meet_words ([] ∷ []) ws in
    by_snoc (λ (w : List ℕ). meet R (prefixes w) ≡ R ++ drop (most_common ws w) (prefixes w))
    (rw (drop-nil {A = List ℕ} (most_common ws [])) (sym (append-nil R)))
    (λ u c below.
    let w = u ++ (c ∷ []) in
    let M = meet R (prefixes u) in
    let P = prefixes u in
    let size : length P ≡ length u = length-prefixes u in
    let least : most_common ws u ≤ length P = omega (arith, most_common_le ws u) in
    rw (meet_snoc R u c, most_common_snoc ws u c, prefixes_snoc u c)
    (either (any (begins w) ws)
    (λ t.
    let whole : most_common ws u ≡ length u = most_common_whole ws u (any_weaken (begins w) (begins u) ws (begins_closed u (c ∷ [])) t) in
    let none : drop (most_common ws u) P ≡ [] = drop_of_length-le P {i = most_common ws u} (omega arith) in
    let none_more : drop (suc (length u)) (P ++ (w ∷ [])) ≡ [] = drop_of_length-le (P ++ (w ∷ [])) {i = suc (length u)} (omega (arith, length-append P (w ∷ []))) in
    rw (meet_old M w (met ws u c ∙ t), t, none_more, below, none))
    (λ f.
    rw (meet-new M w (met ws u c ∙ f), f, drop-append-le (most_common ws u) P (w ∷ []) least, below)
    (append_assoc R (drop (most_common ws u) P) (w ∷ [])))))

-- the row behind those of the keywords before k and j of its own
pub new_row_at : (way : Way) (ks ls : List Keyword) (k : Keyword) (j : ℕ)
    → j + most_common (map (λ (l : Keyword). read_by way l.word) ks) (read_by way k.word) < length k.word
    → get_or (rows_of way (ks ++ (k ∷ ls))) (length (rows_of way ks) + j) []
    ≡ take (suc (j + most_common (map (λ (l : Keyword). read_by way l.word) ks) (read_by way k.word))) (read_by way k.word)
unfolding rows_of
new_row_at way ks ls k j h =
    let ws : List (List ℕ) = map (λ (l : Keyword). read_by way l.word) ks in
    let w : List ℕ = read_by way k.word in
    let R : List (List ℕ) = rows_of way ks in
    let m : ℕ = most_common ws w in
    let new : List (List ℕ) = drop m (prefixes w) in
    let (more, kept) = rows_of_keeps way ks ls k w [] (sym (append-nil w)) in
    let rows : rows_of way (ks ++ (k ∷ ls)) ≡ R ++ (new ++ more) =
    kept ∙ ap (λ (l : List (List ℕ)). l ++ more) (new_rows ws w) ∙ append_assoc R new more in
    let inside : j < length new = omega (arith, length-drop m (prefixes w), length-prefixes w, read_by-length way k.word) in
    let place : m + j ≡ j + m = omega arith in
    ap (λ (l : List (List ℕ)). get_or l (length R + j) []) rows
    ∙ get_or-append-add R (new ++ more) j []
    ∙ get_or-append new more [] j inside
    ∙ get_or-drop m (prefixes w) j []
    ∙ ap (λ (n : ℕ). get_or (prefixes w) n []) place
    ∙ prefixes_at w (j + m) (omega (arith, read_by-length way k.word))

-- the same for the keyword at a place of a set
pub set_row_at : (way : Way) (ks : List Keyword) (i j : ℕ)
    → i < length ks
    → j + most_common (map (λ (l : Keyword). read_by way l.word) (take i ks)) (read_by way (nth ks i).word) < length (nth ks i).word
    → get_or (rows_of way ks) (length (rows_of way (take i ks)) + j) []
    ≡ take (suc (j + most_common (map (λ (l : Keyword). read_by way l.word) (take i ks)) (read_by way (nth ks i).word))) (read_by way (nth ks i).word)
set_row_at way ks i j h q =
    let around : ks ≡ take i ks ++ (nth ks i ∷ drop (suc i) ks) =
    sym (take-append-drop i ks) ∙ ap (λ (l : List Keyword). take i ks ++ l) (drop-cons ks i no_keyword h) in
    ap (λ (l : List Keyword). get_or (rows_of way l) (length (rows_of way (take i ks)) + j) []) around
    ∙ new_row_at way (take i ks) (drop (suc i) ks) (nth ks i) j q
