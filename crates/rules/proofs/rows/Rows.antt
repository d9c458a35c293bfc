-- A set's rows are the empty string and each keyword's prefixes as it is read, each once and behind its parent: because
-- strings are added one at a time, and a string is added only behind rows that have its parent and not it.
use Prim.Native.Nat.{ℕ, zero, suc, ◌+◌, ◌≤◌, ◌<◌}
use mathlib.Core.Path.{◌≡◌, refl, sym, ◌∙◌, ap}
use mathlib.Core.Logic.{◌⊎◌, inl, inr}
use mathlib.Core.Bool.{Bool, true, false, ◌&&◌, ◌||◌, cond, or_assoc, or_comm, or-false, and-or_distrib_left}
use mathlib.Core.List.{List, [], ◌∷◌, ◌++◌, map, map-append, map-map, append_assoc, append-nil, append_cancel_left, Memᴰ}
use lib.ListN.{length, get_or, length-append, length-map, length-reverse, get_or-append}
use lib.Seq.{get_or-append_seam}
use lib.Dec.{eqb, ltb}
use native.Mathlib.Nat.{zero-add}
use native.Mathlib.Omega.{arith}
use borrow.Author.Tests.{eqb-true, eqb-false, ltb-true, ltb-false}
use Rattle.rules.specs.strings.Strings.{same, begins, any}
use Rattle.rules.specs.sets.Sets.{Keyword}
use Rattle.rules.specs.rows.Rows.{Way, forward, backward, read_by, starts, prefixes, meet, meet_words, rows_of, place_from, row_of, parent}
use Rattle.rules.specs.Beside.{Rowed}
use Rattle.rules.proofs.strings.Searched.{any_at}
use Rattle.rules.proofs.strings.Strings.{either, never, or_cases, or_left, or_right, or_fails_left, or_fails_right, same_true, same_refl, eq-same, begins_true, begins_by, begins_refl, any_true, any_mem, any_append}

-- one byte more, one prefix more; over an append the later prefixes stand behind the first string
map_same : (l : List (List ℕ)) → map (λ p. p) l ≡ l
map_same [] = refl
map_same (a ∷ l) = ap (λ (r : List (List ℕ)). a ∷ r) (map_same l)

pub prefixes-append : (u v : List ℕ) → prefixes (u ++ v) ≡ prefixes u ++ map (λ p. u ++ p) (prefixes v)
unfolding prefixes
prefixes-append [] v = sym (map_same (prefixes v))
prefixes-append (a ∷ u) v = simp (prefixes-append u v, map-append, map-map)

pub prefixes_snoc : (u : List ℕ) (c : ℕ) → prefixes (u ++ (c ∷ [])) ≡ prefixes u ++ ((u ++ (c ∷ [])) ∷ [])
unfolding prefixes
prefixes_snoc u c = prefixes-append u (c ∷ [])

pub length-prefixes : (w : List ℕ) → length (prefixes w) ≡ length w
unfolding prefixes
length-prefixes [] = refl
length-prefixes (a ∷ w) = ap suc (length-map (prefixes w) (λ (p : List ℕ). a ∷ p) ∙ length-prefixes w)

pub meet-append : (R a b : List (List ℕ)) → meet R (a ++ b) ≡ meet (meet R a) b
unfolding meet
meet-append R [] b = refl
meet-append R (s ∷ a) b = meet-append (cond (any (same s) R) R (R ++ (s ∷ []))) a b

pub meet_words-append : (R a b : List (List ℕ)) → meet_words R (a ++ b) ≡ meet_words (meet_words R a) b
unfolding meet_words
meet_words-append R [] b = refl
meet_words-append R (w ∷ a) b = meet_words-append (meet R (prefixes w)) a b

-- a keyword behind a set: its prefixes behind the rows
pub rows_of_snoc : (way : Way) (ks : List Keyword) (k : Keyword) → rows_of way (ks ++ (k ∷ [])) ≡ meet (rows_of way ks) (prefixes (read_by way k.word))
unfolding rows_of meet_words
rows_of_snoc way ks k =
    let read : Keyword → List ℕ = (λ (k : Keyword). read_by way k.word) in
    rw (map-append read ks (k ∷ [])) (meet_words-append ([] ∷ []) (map read ks) (read k ∷ []))

-- one string met: it is a row already, or it is the last row now
pub meet_old : (R : List (List ℕ)) (s : List ℕ) → any (same s) R ≡ true → meet R (s ∷ []) ≡ R
unfolding meet
meet_old R s h = rw h

pub meet-new : (R : List (List ℕ)) (s : List ℕ) → any (same s) R ≡ false → meet R (s ∷ []) ≡ R ++ (s ∷ [])
unfolding meet
meet-new R s h = rw h

-- a word is met byte by byte
pub meet_snoc : (R : List (List ℕ)) (u : List ℕ) (c : ℕ)
    → meet R (prefixes (u ++ (c ∷ []))) ≡ meet (meet R (prefixes u)) ((u ++ (c ∷ [])) ∷ [])
meet_snoc R u c = rw (prefixes_snoc u c) (meet-append R (prefixes u) ((u ++ (c ∷ [])) ∷ []))

-- tests over a list
pub any-map {ℓ κ} : {A : Type ℓ} {B : Type κ} (p : B → Bool) (f : A → B) (l : List A) → any p (map f l) ≡ any (λ a. p (f a)) l
unfolding any
any-map p f [] = refl
any-map p f (a ∷ l) = rw (any-map p f l)

pub any_and {ℓ} : {A : Type ℓ} (b : Bool) (p : A → Bool) (l : List A) → any (λ a. b && p a) l ≡ (b && any p l)
unfolding any
any_and true p l = refl
any_and false p [] = refl
any_and false p (a ∷ l) = any_and false p l

pub any_weaken {ℓ} : {A : Type ℓ} (p q : A → Bool) (l : List A) → ((a : A) → p a ≡ true → q a ≡ true) → any p l ≡ true → any q l ≡ true
any_weaken p q l f h = let w = any_true p l h in any_mem q w.1 (f w.0 w.2)

-- a test that a second one implies adds nothing to it
or_absorb : (a b : Bool) → (b ≡ true → a ≡ true) → (a || b) ≡ a
or_absorb true b f = refl
or_absorb false true f = sym (f refl)
or_absorb false false f = refl

-- Membership: a string is a row where it was one or is met.
pub snoc_has : (R : List (List ℕ)) (t s : List ℕ) → any (same s) (R ++ (t ∷ [])) ≡ (any (same s) R || same s t)
unfolding any
snoc_has R t s = any_append (same s) R (t ∷ []) ∙ ap (λ (b : Bool). any (same s) R || b) (or-false (same s t))

meet_one_has : (R : List (List ℕ)) (t s : List ℕ) → any (same s) (meet R (t ∷ [])) ≡ (any (same s) R || same s t)
meet_one_has R t s =
    either (any (same t) R)
    (λ h. rw (meet_old R t h) (sym (or_absorb (any (same s) R) (same s t) (λ e. rw (same_true s t e) h))))
    (λ h. rw (meet-new R t h) (snoc_has R t s))

pub meet_has : (R ss : List (List ℕ)) (s : List ℕ) → any (same s) (meet R ss) ≡ (any (same s) R || any (same s) ss)
unfolding meet any
meet_has R [] s = sym (or-false (any (same s) R))
meet_has R (t ∷ ss) s =
    meet_has (meet R (t ∷ [])) ss s
    ∙ ap (λ (b : Bool). b || any (same s) ss) (meet_one_has R t s)
    ∙ or_assoc (any (same s) R) (same s t) (any (same s) ss)

-- the empty string and the prefixes of w are the strings that begin w
pub prefixes_are : (w s : List ℕ) → (same s [] || any (same s) (prefixes w)) ≡ begins s w
unfolding same begins any prefixes
prefixes_are w [] = refl
prefixes_are [] (x ∷ s) = refl
prefixes_are (y ∷ w) (x ∷ s) =
    rw (any-map (same (x ∷ s)) (λ (p : List ℕ). y ∷ p) (prefixes w), any_and (eqb x y) (same s) (prefixes w), ← (prefixes_are w s))
    (sym (and-or_distrib_left (eqb x y) (same s []) (any (same s) (prefixes w))))

-- rows with a word's prefixes, and with those of many words, are the rows and the strings that begin a word
pub meet-prefixes_has : (R : List (List ℕ)) (w s : List ℕ)
    → any (same []) R ≡ true
    → any (same s) (meet R (prefixes w)) ≡ (any (same s) R || begins s w)
meet-prefixes_has R w s root =
    let old : (any (same s) R || same s []) ≡ any (same s) R = or_absorb (any (same s) R) (same s []) (λ e. rw (same_true s [] e) root) in
    meet_has R (prefixes w) s
    ∙ ap (λ (b : Bool). b || any (same s) (prefixes w)) (sym old)
    ∙ or_assoc (any (same s) R) (same s []) (any (same s) (prefixes w))
    ∙ ap (λ (b : Bool). any (same s) R || b) (prefixes_are w s)

pub meet_reads : (R : List (List ℕ)) (w : List ℕ) → any (same []) R ≡ true → any (same w) (meet R (prefixes w)) ≡ true
meet_reads R w root = meet-prefixes_has R w w root ∙ or_right (any (same w) R) (begins_refl w)

pub meet_words_has : (R ws : List (List ℕ)) (s : List ℕ)
    → any (same []) R ≡ true
    → any (same s) (meet_words R ws) ≡ (any (same s) R || any (begins s) ws)
unfolding meet_words any
meet_words_has R [] s root = sym (or-false (any (same s) R))
meet_words_has R (w ∷ ws) s root =
    meet_words_has (meet R (prefixes w)) ws s (meet_has R (prefixes w) [] ∙ or_left (any (same []) (prefixes w)) root)
    ∙ ap (λ (b : Bool). b || any (begins s) ws) (meet-prefixes_has R w s root)
    ∙ or_assoc (any (same s) R) (begins s w) (any (begins s) ws)

-- the rows of some words, of a set and of a set that is not empty
pub words_are : (ws : List (List ℕ)) (s : List ℕ) → any (same s) (meet_words ([] ∷ []) ws) ≡ (same s [] || any (begins s) ws)
unfolding any same
words_are ws s = meet_words_has ([] ∷ []) ws s refl ∙ ap (λ (b : Bool). b || any (begins s) ws) (or-false (same s []))

pub set_rows_are : (way : Way) (ks : List Keyword) (s : List ℕ) → any (same s) (rows_of way ks) ≡ (same s [] || starts way ks s)
unfolding rows_of starts
set_rows_are way ks s =
    words_are (map (λ (k : Keyword). read_by way k.word) ks) s
    ∙ ap (λ (b : Bool). same s [] || b) (any-map (begins s) (λ (k : Keyword). read_by way k.word) ks)

pub rows_are : (way : Way) (k : Keyword) (ks : List Keyword) (s : List ℕ) → any (same s) (rows_of way (k ∷ ks)) ≡ starts way (k ∷ ks) s
unfolding starts any begins
rows_are way k ks s =
    set_rows_are way (k ∷ ks) s
    ∙ or_comm (same s []) (starts way (k ∷ ks) s)
    ∙ or_absorb (starts way (k ∷ ks) s) (same s []) (λ e. rw (same_true s [] e))

-- every keyword as it is read begins a keyword and is a row
pub keyword-starts : (way : Way) (ks : List Keyword) (k : Keyword) → Memᴰ k ks → starts way ks (read_by way k.word) ≡ true
unfolding starts
keyword-starts way ks k m =
    any_mem (λ (l : Keyword). begins (read_by way k.word) (read_by way l.word)) m (begins_refl (read_by way k.word))

pub keyword_row : (way : Way) (ks : List Keyword) (k : Keyword) → Memᴰ k ks → any (same (read_by way k.word)) (rows_of way ks) ≡ true
keyword_row way ks k m =
    set_rows_are way ks (read_by way k.word) ∙ or_right (same (read_by way k.word) []) (keyword-starts way ks k m)

-- what begins is begun by its own beginnings
pub begins_closed : (s r w : List ℕ) → begins (s ++ r) w ≡ true → begins s w ≡ true
begins_closed s r w h =
    let found : (e : List ℕ) × (w ≡ s ++ r ++ e) = begins_true (s ++ r) w h in
    begins_by s w (r ++ found.0) (found.1 ∙ append_assoc s r found.0)

pub starts_closed : (way : Way) (ks : List Keyword) (s r : List ℕ) → starts way ks (s ++ r) ≡ true → starts way ks s ≡ true
unfolding starts
starts_closed way ks s r h =
    any_weaken (λ (k : Keyword). begins (s ++ r) (read_by way k.word)) (λ (k : Keyword). begins s (read_by way k.word)) ks
    (λ k. begins_closed s r (read_by way k.word)) h

-- The place of the first that passes, in a list of rows that are numbered from n on.
pub place_from_none : (n : ℕ) (p : List ℕ → Bool) (L : List (List ℕ)) → any p L ≡ false → place_from n p L ≡ 0
unfolding place_from any
place_from_none n p [] h = refl
place_from_none n p (r ∷ L) h =
    rw (or_fails_left (p r) (any p L) h) (place_from_none (suc n) p L (or_fails_right (p r) (any p L) h))

pub place_from-append : (n : ℕ) (p : List ℕ → Bool) (L M : List (List ℕ))
    → place_from n p (L ++ M) ≡ cond (any p L) (place_from n p L) (place_from (n + length L) p M)
unfolding place_from any
place_from-append n p [] M = let at : n ≡ n + 0 = omega arith in ap (λ (m : ℕ). place_from m p M) at
place_from-append n p (r ∷ L) M =
    either (p r) (λ t. rw t) (λ f.
    let at : suc n + length L ≡ n + suc (length L) = omega arith in
    rw f (place_from-append (suc n) p L M ∙ ap (λ (m : ℕ). cond (any p L) (place_from (suc n) p L) (place_from m p M)) at))

-- where one passes: its place, that it passes, and that none before it does
pub record Placed (n : ℕ) (p : List ℕ → Bool) (L : List (List ℕ)) (i : ℕ) : Type 0 where
  pub within : i < length L
  pub place : place_from n p L ≡ n + i
  pub passing : p (get_or L i []) ≡ true
  pub before : (j : ℕ) → j < i → p (get_or L j []) ≡ false

pub placed : (n : ℕ) (p : List ℕ → Bool) (L : List (List ℕ)) → any p L ≡ true → (i : ℕ) × Placed n p L i
unfolding place_from any
placed n p [] h = never {b = true} refl (sym h)
placed n p (r ∷ L) h = either (p r) here (λ f. behind f (placed (suc n) p L (rw f at h)))
  where
    here : p r ≡ true → (i : ℕ) × Placed n p (r ∷ L) i
    here t =
        let at : n ≡ n + 0 = omega arith in
        (0, record { within = omega arith; place = rw t at; passing = t; before = λ j q. absurd (omega arith) })

    earlier : p r ≡ false → (i : ℕ) → ((j : ℕ) → j < i → p (get_or L j []) ≡ false) → (j : ℕ) → j < suc i → p (get_or (r ∷ L) j []) ≡ false
    earlier f i g zero q = f
    earlier f i g (suc j) q = g j (omega arith)

    behind : p r ≡ false → (i : ℕ) × Placed (suc n) p L i → (i : ℕ) × Placed n p (r ∷ L) i
    behind f (i, w) =
        let at : suc n + i ≡ n + suc i = omega arith in
        (suc i, record { within = omega arith; place = rw f (w.place ∙ at); passing = w.passing; before = earlier f i w.before })

-- the row of a string: its place where it is one, else 0
pub row_of_is : (R : List (List ℕ)) (s : List ℕ) → any (same s) R ≡ true → (row_of R s < length R) × (get_or R (row_of R s) [] ≡ s)
unfolding row_of
row_of_is R s h =
    let (i, w) = placed 0 (same s) R h in
    let at : row_of R s ≡ i = w.place ∙ zero-add i in
    (rw at w.within, rw at (sym (same_true s (get_or R i []) w.passing)))

pub row_of_none : (R : List (List ℕ)) (s : List ℕ) → any (same s) R ≡ false → row_of R s ≡ 0
unfolding row_of
row_of_none R s h = place_from_none 0 (same s) R h

pub row_of_snoc : (R : List (List ℕ)) (w s : List ℕ) → row_of (R ++ (w ∷ [])) s ≡ cond (any (same s) R) (row_of R s) (cond (same s w) (length R) 0)
unfolding row_of place_from
row_of_snoc R w s = rw (place_from-append 0 (same s) R (w ∷ []), zero-add (length R))

-- an old row keeps its number whatever comes behind, and a new one has the last
pub row_of_old : (R M : List (List ℕ)) (s : List ℕ) → any (same s) R ≡ true → row_of (R ++ M) s ≡ row_of R s
unfolding row_of
row_of_old R M s h = rw (place_from-append 0 (same s) R M, h)

pub row_of-new : (R : List (List ℕ)) (w : List ℕ) → any (same w) R ≡ false → row_of (R ++ (w ∷ [])) w ≡ length R
row_of-new R w h = rw (row_of_snoc R w w, h, same_refl w)

-- what stands at a place is a row
pub row_at : (R : List (List ℕ)) (i : ℕ) (s : List ℕ) → i < length R → get_or R i [] ≡ s → any (same s) R ≡ true
row_at R i s q e = any_at (same s) R i [] q (eq-same s (get_or R i []) (sym e))

-- a place of a list with one more element is an old one or the last
pub data Stands {ℓ} {A : Type ℓ} (L : List A) (w d : A) (i : ℕ) : Type ℓ where
  old_place : i < length L → get_or (L ++ (w ∷ [])) i d ≡ get_or L i d → Stands L w d i
  new_place : i ≡ length L → get_or (L ++ (w ∷ [])) i d ≡ w → Stands L w d i

pub at_snoc {ℓ} : {A : Type ℓ} (L : List A) (w d : A) (i : ℕ) → i < length (L ++ (w ∷ [])) → Stands L w d i
at_snoc L w d i q =
    either (ltb i (length L))
    (λ t. let old : i < length L = ltb-true i (length L) t in old_place old (get_or-append L (w ∷ []) d i old))
    (λ f.
    let last : i ≡ length L = omega (arith, ltb-false i (length L) f, length-append L (w ∷ [])) in
    new_place last (rw last (get_or-append_seam L w [] d)))

-- a string that is not empty is its parent and one byte, in one way
pub parent_snoc : (s : List ℕ) (c : ℕ) → parent (s ++ (c ∷ [])) ≡ s
unfolding parent
parent_snoc [] c = refl
parent_snoc (a ∷ []) c = refl
parent_snoc (a ∷ b ∷ s) c = ap (λ (l : List ℕ). a ∷ l) (parent_snoc (b ∷ s) c)

pub snoc_parts : (s t : List ℕ) (c d : ℕ) → s ++ (c ∷ []) ≡ t ++ (d ∷ []) → (s ≡ t) × (c ≡ d)
snoc_parts s t c d e =
    let fronts : s ≡ t = sym (parent_snoc s c) ∙ ap parent e ∙ parent_snoc t d in
    let bytes : (c ∷ []) ≡ (d ∷ []) = append_cancel_left t (c ∷ []) (d ∷ []) (rw fronts at e) in
    (fronts, cc)

-- what holds of the empty string and passes on to one more byte holds of every string
pub by_snoc {ℓ} : (P : List ℕ → Type ℓ) → P [] → ((u : List ℕ) (c : ℕ) → P u → P (u ++ (c ∷ []))) → (w : List ℕ) → P w
by_snoc P base more w = go [] w base
  where
    go : (u v : List ℕ) → P u → P (u ++ v)
    go u [] h = rw (append-nil u) h
    go u (c ∷ v) h = rw (append_assoc u (c ∷ []) v) at (go (u ++ (c ∷ [])) v (more u c h))

-- rows as they are while they are built
module _ {R : List (List ℕ)} (rowed : Rowed R) where
  pub root_row : any (same []) R ≡ true
  root_row = row_at R 0 [] rowed.some rowed.first

  pub row_of_at : (i : ℕ) → i < length R → row_of R (get_or R i []) ≡ i
  row_of_at i q =
      let (within, reads) = row_of_is R (get_or R i []) (row_at R i (get_or R i []) q refl) in
      rowed.distinct (row_of R (get_or R i [])) i within q reads

  pub row_of-nil : row_of R [] ≡ 0
  row_of-nil = rw rowed.first at (row_of_at 0 rowed.some)

  -- a row that is not empty is not row 0, and its number is above its parent's
  pub row_of_pos : (s : List ℕ) → 1 ≤ length s → any (same s) R ≡ true → 1 ≤ row_of R s
  row_of_pos s filled h =
      either (eqb (row_of R s) 0)
      (λ z.
      let zeroth : row_of R s ≡ 0 = eqb-true (row_of R s) 0 z in
      let empty : [] ≡ s = sym rowed.first ∙ (rw zeroth at (row_of_is R s h).1) in
      absurd (omega (arith, ap length empty)))
      (λ f. omega (arith, eqb-false (row_of R s) 0 f))

-- row 0 alone
filled : {C : Type 0} (s : List ℕ) (c : ℕ) → s ++ (c ∷ []) ≡ [] → C
filled s c e = absurd (omega (arith, length-append s (c ∷ []), ap length e))

pub rowed-nil : Rowed ([] ∷ [])
unfolding any
rowed-nil =
    record {
      some = omega arith;
      first = refl;
      distinct = λ i j p q e. omega arith;
      closed = λ s c h. filled s c (same_true (s ++ (c ∷ [])) [] (sym (or-false (same (s ++ (c ∷ [])) [])) ∙ h));
      parents = λ i s c q e. let zeroth : i ≡ 0 = omega arith in filled s c (sym (rw zeroth at e));
    }

-- One row more, behind rows that have its parent and not it: each field on its own.
distinct_more : {R : List (List ℕ)} → Rowed R → (w : List ℕ)
    → any (same w) R ≡ false
    → (i j : ℕ)
    → i < length (R ++ (w ∷ []))
    → j < length (R ++ (w ∷ []))
    → get_or (R ++ (w ∷ [])) i [] ≡ get_or (R ++ (w ∷ [])) j []
    → i ≡ j
distinct_more {R} rowed w new i j p q e = go (at_snoc R w [] i p) (at_snoc R w [] j q)
  where
    go : Stands R w [] i → Stands R w [] j → i ≡ j
    go (old_place a u) (old_place b v) = rowed.distinct i j a b (sym u ∙ e ∙ v)
    go (old_place a u) (new_place b v) = never (row_at R i w a (sym u ∙ e ∙ v)) new
    go (new_place a u) (old_place b v) = never (row_at R j w b (sym v ∙ sym e ∙ u)) new
    go (new_place a u) (new_place b v) = a ∙ sym b

module _ {R : List (List ℕ)} (rowed : Rowed R) (s : List ℕ) (c : ℕ) (old : any (same s) R ≡ true) where
  closed_more : (t : List ℕ) (d : ℕ)
      → any (same (t ++ (d ∷ []))) (R ++ ((s ++ (c ∷ [])) ∷ [])) ≡ true
      → any (same t) (R ++ ((s ++ (c ∷ [])) ∷ [])) ≡ true
  closed_more t d h =
      let w = s ++ (c ∷ []) in
      let child = t ++ (d ∷ []) in
      let cases = or_cases (any (same child) R) (same child w) (sym (snoc_has R w child) ∙ h) in
      snoc_has R w t ∙ or_left (same t w) (go cases)
    where
      go : (any (same (t ++ (d ∷ []))) R ≡ true) ⊎ (same (t ++ (d ∷ [])) (s ++ (c ∷ [])) ≡ true) → any (same t) R ≡ true
      go (inl a) = rowed.closed t d a
      go (inr b) = rw (snoc_parts t s d c (same_true (t ++ (d ∷ [])) (s ++ (c ∷ [])) b)).0 old

  parents_more : (i : ℕ) (t : List ℕ) (d : ℕ)
      → i < length (R ++ ((s ++ (c ∷ [])) ∷ []))
      → get_or (R ++ ((s ++ (c ∷ [])) ∷ [])) i [] ≡ t ++ (d ∷ [])
      → row_of (R ++ ((s ++ (c ∷ [])) ∷ [])) t < i
  parents_more i t d q e = go (at_snoc R (s ++ (c ∷ [])) [] i q)
    where
      go : Stands R (s ++ (c ∷ [])) [] i → row_of (R ++ ((s ++ (c ∷ [])) ∷ [])) t < i
      go (old_place a u) =
          let here : get_or R i [] ≡ t ++ (d ∷ []) = sym u ∙ e in
          let parent-old : any (same t) R ≡ true = rowed.closed t d (row_at R i (t ++ (d ∷ [])) a here) in
          rw (row_of_old R ((s ++ (c ∷ [])) ∷ []) t parent-old) (rowed.parents i t d a here)
      go (new_place a u) =
          let parent_is : t ≡ s = (snoc_parts t s d c (sym e ∙ u)).0 in
          rw (parent_is, row_of_old R ((s ++ (c ∷ [])) ∷ []) s old, a) (row_of_is R s old).0

pub rowed_more : {R : List (List ℕ)}
    → Rowed R
    → (s : List ℕ) (c : ℕ)
    → any (same s) R ≡ true
    → any (same (s ++ (c ∷ []))) R ≡ false
    → Rowed (R ++ ((s ++ (c ∷ [])) ∷ []))
rowed_more {R} rowed s c old new =
    let w = s ++ (c ∷ []) in
    record {
      some = omega (arith, length-append R (w ∷ []), rowed.some);
      first = get_or-append R (w ∷ []) [] 0 rowed.some ∙ rowed.first;
      distinct = distinct_more rowed w new;
      closed = closed_more rowed s c old;
      parents = parents_more rowed s c old;
    }

-- a string one byte behind a row, met
pub rowed_step : {R : List (List ℕ)} → Rowed R → (s : List ℕ) (c : ℕ) → any (same s) R ≡ true → Rowed (meet R ((s ++ (c ∷ [])) ∷ []))
rowed_step {R} rowed s c old =
    let w = s ++ (c ∷ []) in
    either (any (same w) R)
    (λ h. rw (meet_old R w h) rowed)
    (λ h. rw (meet-new R w h) (rowed_more rowed s c old h))

pub rowed-meet : {R : List (List ℕ)} → Rowed R → (w : List ℕ) → Rowed (meet R (prefixes w))
unfolding meet prefixes
rowed-meet {R} rowed w =
    by_snoc (λ (u : List ℕ). Rowed (meet R (prefixes u))) rowed
    (λ u c below. rw (meet_snoc R u c) (rowed_step below u c (meet_reads R u (root_row rowed))))
    w

pub rowed_words : {R : List (List ℕ)} → Rowed R → (ws : List (List ℕ)) → Rowed (meet_words R ws)
unfolding meet_words
rowed_words {R = R} rowed [] = rowed
rowed_words {R = R} rowed (w ∷ ws) = rowed_words {R = meet R (prefixes w)} (rowed-meet rowed w) ws

pub rowed_rows : (way : Way) (ks : List Keyword) → Rowed (rows_of way ks)
unfolding rows_of
rowed_rows way ks = rowed_words rowed-nil (map (λ (k : Keyword). read_by way k.word) ks)

-- rows stay, with their numbers, while more is met: so there are never more than in the end
pub meet_keeps : (R ss : List (List ℕ)) → (more : List (List ℕ)) × (meet R ss ≡ R ++ more)
unfolding meet
meet_keeps R [] = ([], sym (append-nil R))
meet_keeps R (s ∷ ss) =
    either (any (same s) R)
    (λ t. rw t (meet_keeps R ss))
    (λ f. rw f (let (more, e) = meet_keeps (R ++ (s ∷ [])) ss in ((s ∷ []) ++ more, e ∙ append_assoc R (s ∷ []) more)))

pub meet_words_keeps : (R ws : List (List ℕ)) → (more : List (List ℕ)) × (meet_words R ws ≡ R ++ more)
unfolding meet_words
meet_words_keeps R [] = ([], sym (append-nil R))
meet_words_keeps R (w ∷ ws) =
    let (a, e) = meet_keeps R (prefixes w) in
    let (b, g) = meet_words_keeps (meet R (prefixes w)) ws in
    (a ++ b, g ∙ ap (λ (l : List (List ℕ)). l ++ b) e ∙ append_assoc R a b)

pub rows_of_keeps : (way : Way) (ks ls : List Keyword) (k : Keyword) (u v : List ℕ)
    → read_by way k.word ≡ u ++ v
    → (more : List (List ℕ)) × (rows_of way (ks ++ (k ∷ ls)) ≡ meet (rows_of way ks) (prefixes u) ++ more)
unfolding rows_of meet_words
rows_of_keeps way ks ls k u v e =
    let read : Keyword → List ℕ = (λ (k : Keyword). read_by way k.word) in
    let R = rows_of way ks in
    let (a, f) = meet_keeps (meet R (prefixes u)) (map (λ (p : List ℕ). u ++ p) (prefixes v)) in
    let (b, g) = meet_words_keeps (meet R (prefixes (read k))) (map read ls) in
    let word : meet R (prefixes (read k)) ≡ meet R (prefixes u) ++ a =
    rw (e, prefixes-append u v) (meet-append R (prefixes u) (map (λ (p : List ℕ). u ++ p) (prefixes v)) ∙ f) in
    let all : rows_of way (ks ++ (k ∷ ls)) ≡ meet_words (meet R (prefixes (read k))) (map read ls) =
    rw (map-append read ks (k ∷ ls)) (meet_words-append ([] ∷ []) (map read ks) (read k ∷ map read ls)) in
    (a ++ b, all ∙ g ∙ ap (λ (l : List (List ℕ)). l ++ b) word ∙ append_assoc (meet R (prefixes u)) a b)

pub rows_below : (way : Way) (ks ls : List Keyword) (k : Keyword) (u v : List ℕ)
    → read_by way k.word ≡ u ++ v
    → length (meet (rows_of way ks) (prefixes u)) ≤ length (rows_of way (ks ++ (k ∷ ls)))
rows_below way ks ls k u v e =
    let (more, kept) = rows_of_keeps way ks ls k u v e in
    omega (arith, ap length kept, length-append (meet (rows_of way ks) (prefixes u)) more)

-- more keywords have no fewer rows
pub rows_grow : (way : Way) (ks ls : List Keyword) → length (rows_of way ks) ≤ length (rows_of way (ks ++ ls))
unfolding meet prefixes
rows_grow way ks [] = rw (append-nil ks) (omega arith)
rows_grow way ks (k ∷ ls) = rows_below way ks ls k [] (read_by way k.word) refl

-- a word is as long, whichever way it is read
pub read_by-length : (way : Way) (s : List ℕ) → length (read_by way s) ≡ length s
unfolding read_by
read_by-length forward s = refl
read_by-length backward s = length-reverse s
