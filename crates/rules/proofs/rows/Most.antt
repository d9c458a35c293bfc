-- No set has over 961 rows, read either way: they are row 0 and at most one for each unit of a keyword, and at most 64
-- keywords have at most 15 units each. What a unit is, a byte or wider, is not asked. And some set has 961.
use Prim.Native.Nat.{ℕ, zero, suc, ◌+◌, ◌*◌, ◌≤◌}
use mathlib.Core.Path.{◌≡◌, refl, ap}
use mathlib.Core.Logic.{⊎_elim}
use mathlib.Core.List.Memᴰ
use mathlib.Core.List.{List, [], ◌∷◌, ◌++◌, map, map-append, Memᴰ}
use lib.ListN.{length, replicate, length-append}
use lib.Dec.{eqb}
use native.Mathlib.Omega.{arith}
use borrow.Author.Tests.{ne_eqb}
use Rattle.rules.specs.sets.Limits.{longest_word, most_keywords, most_rows}
use Rattle.rules.specs.strings.Strings.{same, any}
use Rattle.rules.specs.sets.Sets.{Keyword}
use Rattle.rules.specs.rows.Rows.{Way, forward, backward, read_by, prefixes, meet, meet_words, rows_of}
use Rattle.rules.specs.Beside.{Sound, common, most_common}
use Rattle.rules.proofs.strings.Strings.{either}
use Rattle.rules.proofs.rows.Rows.{length-prefixes, read_by-length}
use Rattle.rules.proofs.rows.Count.{most_common-append, rows_of-count}

-- the units of all keywords
unfoldable total : List Keyword → ℕ
total [] = 0
total (k ∷ ks) = length k.word + total ks

total_short : (ks : List Keyword) → ((k : Keyword) → Memᴰ k ks → length k.word ≤ longest_word) → total ks ≤ longest_word * length ks
unfolding total
total_short [] short = omega arith
total_short (k ∷ ks) short =
    omega (arith, short k (Memᴰ.head refl), total_short ks (λ l m. short l (Memᴰ.tail m)))

-- each unit of a word adds at most one row
meet-length : (R ss : List (List ℕ)) → length (meet R ss) ≤ length R + length ss
unfolding meet
meet-length R [] = omega arith
meet-length R (s ∷ ss) =
    either (any (same s) R)
    (λ t. rw t (omega (arith, meet-length R ss)))
    (λ f. rw f (omega (arith, meet-length (R ++ (s ∷ [])) ss, length-append R (s ∷ []))))

words_bound : (way : Way) (R : List (List ℕ)) (ks : List Keyword)
    → length (meet_words R (map (λ (k : Keyword). read_by way k.word) ks)) ≤ length R + total ks
unfolding meet_words total
words_bound way R [] = omega arith
words_bound way R (k ∷ ks) =
    let w = read_by way k.word in
    omega (arith, words_bound way (meet R (prefixes w)) ks, meet-length R (prefixes w), length-prefixes w, read_by-length way k.word)

rows_bound : (way : Way) (ks : List Keyword) → length (rows_of way ks) ≤ 1 + total ks
unfolding rows_of
rows_bound way ks = words_bound way ([] ∷ []) ks

-- The theorem: at most 64 keywords of at most 15 units have at most 961 rows.
pub rows_most : (way : Way) (ks : List Keyword)
    → length ks ≤ most_keywords
    → ((k : Keyword) → Memᴰ k ks → length k.word ≤ longest_word)
    → length (rows_of way ks) ≤ most_rows
rows_most way ks few short = omega (arith, rows_bound way ks, total_short ks short)

-- the same of a set that passed its tests
pub rows_few : (way : Way) (ks : List Keyword) → Sound ks → length (rows_of way ks) ≤ most_rows
rows_few way ks sound = rows_most way ks sound.few sound.short

-- Keywords that share nothing: keyword i is fifteen times the unit i.
abbrev alone : ℕ → Keyword
alone i = record { number = i; word = replicate longest_word i; energy = 0 }

unfoldable apart : ℕ → List Keyword
apart zero = []
apart (suc n) = apart n ++ (alone n ∷ [])

apart-length : (n : ℕ) → length (apart n) ≡ n
unfolding apart
apart-length zero = refl
apart-length (suc n) = omega (arith, length-append (apart n) (alone n ∷ []), apart-length n)

apart_short : (n : ℕ) (k : Keyword) → Memᴰ k (apart n) → length k.word ≤ longest_word
unfolding apart
apart_short zero k m = absurd (Memᴰ.not-nil m)
apart_short (suc n) k m =
    ⊎_elim (λ front. apart_short n k front)
    (λ last.
    let fifteen : length k.word ≡ longest_word = ap (λ (l : Keyword). length l.word) (Memᴰ.eq_of_singleton last) in
    omega arith)
    (Memᴰ.append_cases (apart n) m)

alone_read : (way : Way) (i : ℕ) → read_by way (alone i).word ≡ (alone i).word
unfolding read_by
alone_read forward i = refl
alone_read backward i = refl

apart_shares : (way : Way) (n i : ℕ) → n ≤ i → most_common (map (λ (k : Keyword). read_by way k.word) (apart n)) (alone i).word ≡ 0
unfolding apart most_common common
apart_shares way zero i below = refl
apart_shares way (suc n) i below =
    let other : eqb n i ≡ _ = ne_eqb n i (λ e. omega arith) in
    rw (
      map-append (λ (k : Keyword). read_by way k.word) (apart n) (alone n ∷ []),
      most_common-append (map (λ (k : Keyword). read_by way k.word) (apart n)) (read_by way (alone n).word ∷ []) (alone i).word,
      apart_shares way n i (omega arith),
      alone_read way n,
      other,
    )

apart_rows : (way : Way) (n : ℕ) → length (rows_of way (apart n)) ≡ 1 + longest_word * n
unfolding apart rows_of meet_words
apart_rows way zero = refl
apart_rows way (suc n) =
    let shares = apart_shares way n n (omega arith) in
    rw (rows_of-count way (apart n) (alone n), alone_read way n, shares, apart_rows way n) (omega arith)

-- So the bound is reached: 64 of them have 961 rows.
pub rows_reached : (way : Way)
    → (ks : List Keyword)
    × (length ks ≤ most_keywords)
    × ((k : Keyword) → Memᴰ k ks → length k.word ≤ longest_word)
    × (length (rows_of way ks) ≡ most_rows)
rows_reached way =
    (apart most_keywords, omega (arith, apart-length most_keywords), apart_short most_keywords, apart_rows way most_keywords)
