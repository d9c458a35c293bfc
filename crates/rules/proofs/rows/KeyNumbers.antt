-- A row that is read as a keyword has that keyword's number: because the words are distinct, the first keyword that
-- is read as the row is the only one.
use Prim.Native.Nat.{ℕ, suc, ◌<◌}
use native.Mathlib.Omega.{arith}
use mathlib.Core.Path.{◌≡◌, refl, sym, ◌∙◌, ap}
use mathlib.Core.Bool.{true}
use mathlib.Core.List.{List, [], ◌∷◌, Memᴰ}
use borrow.Author.Tests.{eq-eqb, ne_eqb}
use Rattle.rules.specs.strings.Strings.{same, any, first_or}
use Rattle.rules.specs.sets.Sets.{Keyword, keywords_that_are, is_keyword}
use Rattle.rules.specs.rows.Rows.{Way, read_by, key_of}
use Rattle.rules.specs.scans.Audit.{Ordered, none, next}
use Rattle.rules.specs.Beside.{Sound, numbered}
use Rattle.rules.proofs.strings.Strings.{either, never, passes, same_true, eq-same, any_mem}
use Rattle.rules.proofs.scans.Dictionary.{is_keyword_true, keywords_that_are_none, keywords_that_are_one}
use Rattle.rules.proofs.rows.Keys.{read_twice, no_keyword_no_key, no_key_no_keyword}

-- the first keyword that is read as r has the say
pub key_some : (way : Way) (ks : List Keyword) (r : List ℕ)
    → any (λ (k : Keyword). same (read_by way k.word) r) ks ≡ true
    → (k : Keyword) × Memᴰ k ks × (read_by way k.word ≡ r) × (key_of way ks r ≡ suc k.number)
unfolding any key_of
key_some way [] r h = never {b = true} refl (sym h)
key_some way (k ∷ ks) r h =
    either (same (read_by way k.word) r)
    (λ t. (k, Memᴰ.head refl, same_true (read_by way k.word) r t, rw t))
    (λ f.
    let w = key_some way ks r (rw f at h) in
    (w.0, Memᴰ.tail w.1, w.2, rw f w.3))

-- no keyword is read as r
pub key_none : (way : Way) (ks : List Keyword) (r : List ℕ) → key_of way ks r ≡ 0 → keywords_that_are (read_by way r) ks ≡ []
key_none way ks r z = keywords_that_are_none ks (read_by way r) (no_key_no_keyword way ks r z)

-- the keyword k of the set is read as r, and no other
pub record KeyAt (way : Way) (ks : List Keyword) (r : List ℕ) (k : Keyword) : Type 0 where
  pub listed : Memᴰ k ks
  pub number : key_of way ks r ≡ suc k.number
  pub alone : keywords_that_are (read_by way r) ks ≡ k ∷ []

pub key_at : (way : Way) {ks : List Keyword} (r : List ℕ) → Sound ks → (key_of way ks r ≡ 0 → ⊥) → (k : Keyword) × KeyAt way ks r k
key_at way {ks} r sound some =
    let is : is_keyword ks (read_by way r) ≡ true =
    passes (is_keyword ks (read_by way r)) (λ f. some (no_keyword_no_key way ks r f)) in
    let read = is_keyword_true ks (read_by way r) is in
    let here : same (read_by way read.0.word) r ≡ true =
    eq-same (read_by way read.0.word) r (ap (read_by way) read.2 ∙ read_twice way r) in
    let w = key_some way ks r (any_mem (λ (k : Keyword). same (read_by way k.word) r) read.1 here) in
    let word : w.0.word ≡ read_by way r = sym (read_twice way w.0.word) ∙ ap (read_by way) w.2 in
    (w.0, record { listed = w.1; number = w.3; alone = rw word at (keywords_that_are_one sound.distinct w.0 w.1) })

-- a keyword's number names it: numbers rise, so no earlier keyword has it
pub numbered_is : {ks : List Keyword} {k : Keyword}
    → Ordered (λ (l m : Keyword). l.number < m.number) ks
    → Memᴰ k ks
    → numbered ks k.number ≡ k
unfolding numbered first_or
numbered_is {k = k} none m = elim m [ ]
numbered_is {k = k} (next {a = l} first rest) (Memᴰ.head e) =
    let same_number : l.number ≡ k.number = ap (λ (m : Keyword). m.number) (sym e) in
    rw (eq-eqb l.number k.number same_number) (sym e)
numbered_is {k = k} (next {a = l} first rest) (Memᴰ.tail m) =
    let other : l.number ≡ k.number → ⊥ = λ e. omega (arith, first k m) in
    rw (ne_eqb l.number k.number other) (numbered_is rest m)
