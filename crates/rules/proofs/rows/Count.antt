-- A word adds as many rows as it has bytes behind the longest beginning that it shares with an earlier word: byte by
-- byte, a prefix is new exactly where no earlier word begins with it.
use Prim.Native.Nat.{ℕ, suc, ◌+◌, ◌-◌, ◌≤◌, ◌<◌, max}
use mathlib.Core.Path.{◌≡◌, refl, sym, ◌∙◌, ap}
use mathlib.Core.Bool.{true, false, cond, and-true, or-false}
use mathlib.Core.List.{List, [], ◌∷◌, ◌++◌, map}
use lib.ListN.{length, length-append}
use lib.Dec.{eqb}
use borrow.Author.Tests.{eqb-true, eq-eqb}
use native.Mathlib.Omega.{arith}
use Rattle.rules.specs.strings.Strings.{same, begins, any}
use Rattle.rules.specs.sets.Sets.{Keyword}
use Rattle.rules.specs.rows.Rows.{Way, read_by, prefixes, meet, meet_words, rows_of}
use Rattle.rules.specs.Beside.{common, most_common}
use Rattle.rules.proofs.strings.Strings.{either, fails, same_outcome, same_true, begins_true}
use Rattle.rules.proofs.rows.Rows.{by_snoc, any_weaken, begins_closed, meet_snoc, meet_old, meet-new, meet-prefixes_has, words_are, rows_of_snoc, read_by-length, rowed-nil, rowed_words, root_row}

pub common-nil : (a : List ℕ) → common a [] ≡ 0
unfolding common
common-nil [] = refl
common-nil (x ∷ a) = refl

pub common_le : (a b : List ℕ) → common a b ≤ length b
unfolding common
common_le [] b = omega arith
common_le (x ∷ a) [] = omega arith
common_le (x ∷ a) (y ∷ b) = either (eqb x y) (λ t. rw t (omega (arith, common_le a b))) (λ f. rw f (omega arith))

pub most_common_le : (ws : List (List ℕ)) (w : List ℕ) → most_common ws w ≤ length w
unfolding most_common
most_common_le [] w = omega arith
most_common_le (v ∷ ws) w = omega (arith, common_le v w, most_common_le ws w)

-- one word more, and words with one beginning
pub most_common-append : (vs ws : List (List ℕ)) (w : List ℕ) → most_common (vs ++ ws) w ≡ max (most_common vs w) (most_common ws w)
unfolding most_common
most_common-append [] ws w = omega arith
most_common-append (v ∷ vs) ws w = omega (arith, most_common-append vs ws w)

-- one byte more is common where the whole begins the other word
eqb_sym : (x y : ℕ) → eqb x y ≡ eqb y x
eqb_sym x y = same_outcome (eqb x y) (eqb y x) (λ h. eq-eqb y x (sym (eqb-true x y h))) (λ h. eq-eqb x y (sym (eqb-true y x h)))

pub common_snoc : (a u : List ℕ) (c : ℕ) → common a (u ++ (c ∷ [])) ≡ cond (begins (u ++ (c ∷ [])) a) (suc (length u)) (common a u)
unfolding common begins
common_snoc [] [] c = refl
common_snoc [] (y ∷ u) c = refl
common_snoc (x ∷ a) [] c = rw (eqb_sym x c, and-true (eqb c x), common-nil a)
common_snoc (x ∷ a) (y ∷ u) c =
    rw (eqb_sym x y, common_snoc a u c)
    (either (eqb y x)
    (λ t. rw t (either (begins (u ++ (c ∷ [])) a) (λ t'. rw t') (λ f. rw f)))
    (λ f. rw f))

pub most_common_snoc : (ws : List (List ℕ)) (u : List ℕ) (c : ℕ)
    → most_common ws (u ++ (c ∷ [])) ≡ cond (any (begins (u ++ (c ∷ []))) ws) (suc (length u)) (most_common ws u)
unfolding most_common any
most_common_snoc [] u c = refl
most_common_snoc (v ∷ ws) u c =
    rw (common_snoc v u c, most_common_snoc ws u c)
    (either (begins (u ++ (c ∷ [])) v)
    (λ t. rw t (either (any (begins (u ++ (c ∷ []))) ws) (λ t'. rw t' (omega arith)) (λ f. rw f (omega (arith, most_common_le ws u)))))
    (λ f. rw f (either (any (begins (u ++ (c ∷ []))) ws) (λ t'. rw t' (omega (arith, common_le v u))) (λ g. rw g))))

-- a word that begins one of the words is common to its end
pub most_common_whole : (ws : List (List ℕ)) (u : List ℕ) → any (begins u) ws ≡ true → most_common ws u ≡ length u
most_common_whole ws =
    by_snoc (λ (u : List ℕ). any (begins u) ws ≡ true → most_common ws u ≡ length u)
    (λ h. omega (arith, most_common_le ws []))
    (λ u c below h. rw (most_common_snoc ws u c, h) (omega (arith, length-append u (c ∷ []))))

-- a prefix is new where none of the words begins with it: it is longer than all that is met before it
begins_less : (p s : List ℕ) → length s < length p → begins p s ≡ false
begins_less p s q =
    fails (begins p s)
    (λ h. let (r, e) = begins_true p s h in omega (arith, ap length e, length-append p r))

pub met : (ws : List (List ℕ)) (u : List ℕ) (c : ℕ)
    → any (same (u ++ (c ∷ []))) (meet (meet_words ([] ∷ []) ws) (prefixes u)) ≡ any (begins (u ++ (c ∷ []))) ws
met ws u c =
    let w = u ++ (c ∷ []) in
    let R = meet_words ([] ∷ []) ws in
    let longer : length u < length w = omega (arith, length-append u (c ∷ [])) in
    let unread : begins w u ≡ false = begins_less w u longer in
    let unempty : same w [] ≡ false =
    fails (same w []) (λ h. omega (arith, ap length (same_true w [] h), longer)) in
    meet-prefixes_has R u w (root_row (rowed_words rowed-nil ws))
    ∙ (rw (unread, or-false (any (same w) R), words_are ws w, unempty))

pub rows-count : (ws : List (List ℕ)) (w : List ℕ)
    → length (meet (meet_words ([] ∷ []) ws) (prefixes w)) ≡ length (meet_words ([] ∷ []) ws) + (length w - most_common ws w)
unfolding meet prefixes
rows-count ws =
    let R = meet_words ([] ∷ []) ws in
    by_snoc (λ (w : List ℕ). length (meet R (prefixes w)) ≡ length R + (length w - most_common ws w))
    (omega arith)
    (λ u c below.
    let w = u ++ (c ∷ []) in
    let M = meet R (prefixes u) in
    let longer : length w ≡ suc (length u) = omega (arith, length-append u (c ∷ [])) in
    rw (meet_snoc R u c, most_common_snoc ws u c, longer)
    (either (any (begins w) ws)
    (λ t.
    let whole : most_common ws u ≡ length u = most_common_whole ws u (any_weaken (begins w) (begins u) ws (begins_closed u (c ∷ [])) t) in
    rw (meet_old M w (met ws u c ∙ t), t) (omega arith))
    (λ f. rw (meet-new M w (met ws u c ∙ f), f) (omega (arith, length-append M (w ∷ []), most_common_le ws u)))))

-- the same for a keyword behind a set
pub rows_of-count : (way : Way) (ks : List Keyword) (k : Keyword)
    → length (rows_of way (ks ++ (k ∷ [])))
    ≡ length (rows_of way ks) + (length k.word - most_common (map (λ (l : Keyword). read_by way l.word) ks) (read_by way k.word))
unfolding rows_of
rows_of-count way ks k =
    rw (rows_of_snoc way ks k, ← (read_by-length way k.word))
    (rows-count (map (λ (l : Keyword). read_by way l.word) ks) (read_by way k.word))
