-- A row's key number is 0 exactly where the row's string is no keyword: by recursion along the keywords, the first
-- that is read as the row has the say.
use Prim.Native.Nat.{ℕ, suc, ◌≤◌}
use native.Mathlib.Omega.{arith}
use mathlib.Core.Path.{◌≡◌, refl, sym, ◌∙◌, ap}
use mathlib.Core.Bool.{Bool, true, false, cond}
use mathlib.Core.List.{List, [], ◌∷◌, ◌++◌, reverse-reverse, Memᴰ}
use lib.ListN.{length}
use Rattle.rules.specs.strings.Strings.{same, any}
use Rattle.rules.specs.sets.Sets.{Keyword, is_keyword}
use Rattle.rules.specs.rows.Rows.{Way, forward, backward, read_by, rows_of, key_of}
use Rattle.rules.proofs.strings.Strings.{either, never, fails, same_outcome, same_true, same_refl, eq-same, or_fails_left, or_fails_right}
use Rattle.rules.proofs.rows.Rows.{keyword_row}
use Rattle.rules.proofs.scans.Dictionary.{is_keyword_true, is_keyword-nil}

-- what is read twice is as it was, so w is read as r where r is read as w
pub read_twice : (way : Way) (w : List ℕ) → read_by way (read_by way w) ≡ w
unfolding read_by
read_twice forward w = refl
read_twice backward w = reverse-reverse w

pub same_read : (way : Way) (w r : List ℕ) → same (read_by way w) r ≡ same w (read_by way r)
same_read way w r =
    same_outcome (same (read_by way w) r) (same w (read_by way r))
    (λ h. eq-same w (read_by way r) (sym (read_twice way w) ∙ ap (read_by way) (same_true (read_by way w) r h)))
    (λ h. eq-same (read_by way w) r (ap (read_by way) (same_true w (read_by way r) h) ∙ read_twice way r))

pub no_keyword_no_key : (way : Way) (ks : List Keyword) (r : List ℕ) → is_keyword ks (read_by way r) ≡ false → key_of way ks r ≡ 0
unfolding is_keyword key_of any
no_keyword_no_key way [] r h = refl
no_keyword_no_key way (k ∷ ks) r h =
    let here = or_fails_left (same k.word (read_by way r)) (is_keyword ks (read_by way r)) h in
    let behind = or_fails_right (same k.word (read_by way r)) (is_keyword ks (read_by way r)) h in
    rw (same_read way k.word r ∙ here) (no_keyword_no_key way ks r behind)

pub no_key_no_keyword : (way : Way) (ks : List Keyword) (r : List ℕ) → key_of way ks r ≡ 0 → is_keyword ks (read_by way r) ≡ false
unfolding is_keyword key_of any
no_key_no_keyword way [] r h = refl
no_key_no_keyword way (k ∷ ks) r h =
    either (same (read_by way k.word) r)
    (λ t. let own : suc k.number ≡ 0 = (rw t at h) in absurd (omega arith))
    (λ f. rw (sym (same_read way k.word r) ∙ f) (no_key_no_keyword way ks r (rw f at h)))

-- so it is 0 where the string is no row, where its keyword is new, and at row 0, since words are not empty
pub key_of-new : (way : Way) (ks : List Keyword) (r : List ℕ) → any (same r) (rows_of way ks) ≡ false → key_of way ks r ≡ 0
key_of-new way ks r new =
    no_keyword_no_key way ks r
    (fails (is_keyword ks (read_by way r))
    (λ t.
    let w = is_keyword_true ks (read_by way r) t in
    never (rw (ap (read_by way) w.2 ∙ read_twice way r) at (keyword_row way ks w.0 w.1)) new))

pub key_of_fresh : (way : Way) (ks : List Keyword) (w : List ℕ) → is_keyword ks w ≡ false → key_of way ks (read_by way w) ≡ 0
key_of_fresh way ks w fresh = no_keyword_no_key way ks (read_by way w) (ap (is_keyword ks) (read_twice way w) ∙ fresh)

pub key-nil : (way : Way) (ks : List Keyword) → ((k : Keyword) → Memᴰ k ks → 1 ≤ length k.word) → key_of way ks [] ≡ 0
unfolding read_by
key-nil forward ks filled = no_keyword_no_key forward ks [] (is_keyword-nil ks filled)
key-nil backward ks filled = no_keyword_no_key backward ks [] (is_keyword-nil ks filled)

-- a keyword behind the others: it has its row, and the other rows keep theirs
pub key_of_own : (way : Way) (ks : List Keyword) (k : Keyword)
    → key_of way ks (read_by way k.word) ≡ 0
    → key_of way (ks ++ (k ∷ [])) (read_by way k.word) ≡ suc k.number
unfolding key_of
key_of_own way [] k h = rw (same_refl (read_by way k.word))
key_of_own way (l ∷ ks) k h = go (same (read_by way l.word) (read_by way k.word)) h (key_of_own way ks k)
  where
    row : List ℕ
    row = read_by way k.word

    go : (b : Bool)
        → cond b (suc l.number) (key_of way ks row) ≡ 0
        → (key_of way ks row ≡ 0 → key_of way (ks ++ (k ∷ [])) row ≡ suc k.number)
        → cond b (suc l.number) (key_of way (ks ++ (k ∷ [])) row) ≡ suc k.number
    go true z below = absurd (omega arith)
    go false z below = below z

pub key_of-kept : (way : Way) (ks : List Keyword) (k : Keyword) (r : List ℕ)
    → (read_by way k.word ≡ r → ⊥)
    → key_of way (ks ++ (k ∷ [])) r ≡ key_of way ks r
unfolding key_of
key_of-kept way [] k r other = rw (fails (same (read_by way k.word) r) (λ t. other (same_true (read_by way k.word) r t)))
key_of-kept way (l ∷ ks) k r other = rw (key_of-kept way ks k r other)
