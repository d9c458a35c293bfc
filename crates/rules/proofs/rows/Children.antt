-- A row's child and sibling numbers are one list of places, the rows with that parent in order: the child is its
-- head, and each sibling the head of what is left behind a place; so a walk along siblings visits every child once,
-- and a new row is linked by one number.
use Prim.Native.Nat.{ℕ, suc, ◌+◌, ◌-◌, ◌≤◌, ◌<◌}
use mathlib.Core.Path.{◌≡◌, refl, sym, ◌∙◌, ap}
use mathlib.Core.Logic.{◌⊎◌, inl, inr}
use mathlib.Core.Bool.{Bool, true, false, ◌&&◌, cond, and-true, and-false}
use mathlib.Core.List.{List, [], ◌∷◌, ◌++◌, append_assoc, Memᴰ}
use lib.ListN.{length, get_or, take, drop, length-append, length-take, length-drop, drop_of_length-le}
use lib.Seq.{split_at, length-take-le, drop-append-le, drop-cons, get_or-append_seam, get_or-take, get_or-drop, drop-drop}
use lib.Dec.{eqb, eqb-zero-suc}
use native.Mathlib.Nat.{zero-add}
use native.Mathlib.Omega.{arith}
use borrow.Author.Tests.{eqb-true, eq-eqb, ne_eqb}
use Rattle.rules.specs.strings.Strings.{same, begins, any}
use Rattle.rules.specs.rows.Rows.{place_from, row_of, child_of, parent, sibling_after}
use Rattle.rules.specs.Beside.{Rowed}
use Rattle.rules.proofs.strings.Strings.{either, never, fails, same_outcome, and_left, and_right, and_both, or_fails_left, or_fails_right, same_true, same_refl, eq-same, begins_true, begins-append, any_true, any_mem, any_append}
use Rattle.rules.proofs.rows.Rows.{by_snoc, row_at, parent_snoc, snoc_parts, Placed, placed, place_from_none, place_from-append, row_of_is, row_of_at}

-- the numbers of the rows that pass, counted from n on
unfoldable pub places : ℕ → (List ℕ → Bool) → List (List ℕ) → List ℕ
places n p [] = []
places n p (r ∷ L) = cond (p r) (n ∷ places (suc n) p L) (places (suc n) p L)

pub place_from-head : (n : ℕ) (p : List ℕ → Bool) (L : List (List ℕ)) → place_from n p L ≡ get_or (places n p L) 0 0
unfolding place_from places
place_from-head n p [] = refl
place_from-head n p (r ∷ L) = either (p r) (λ t. rw t) (λ f. rw f (place_from-head (suc n) p L))

pub places-append : (n : ℕ) (p : List ℕ → Bool) (L M : List (List ℕ)) → places n p (L ++ M) ≡ places n p L ++ places (n + length L) p M
unfolding places
places-append n p [] M = let at : n ≡ n + 0 = omega arith in ap (λ (m : ℕ). places m p M) at
places-append n p (r ∷ L) M =
    let at : suc n + length L ≡ n + suc (length L) = omega arith in
    let below : places (suc n) p (L ++ M) ≡ places (suc n) p L ++ places (n + suc (length L)) p M =
    places-append (suc n) p L M ∙ ap (λ (m : ℕ). places (suc n) p L ++ places m p M) at in
    either (p r) (λ t. rw (t, below)) (λ f. rw (f, below))

-- behind a row that passes the list goes on with its place
pub places_split : (n : ℕ) (p : List ℕ → Bool) (L : List (List ℕ)) (i : ℕ)
    → i < length L
    → p (get_or L i []) ≡ true
    → places n p L ≡ places n p (take i L) ++ ((n + i) ∷ places (suc (n + i)) p (drop (suc i) L))
unfolding places
places_split n p L i q t =
    let before : length (take i L) ≡ i = length-take-le i L (omega arith) in
    ap (places n p) (split_at L i [] q) ∙ places-append n p (take i L) (get_or L i [] ∷ drop (suc i) L) ∙ rw (before, t)

-- the places are those of the rows that pass: `index` is counted from the list's own start
pub record Passing (n : ℕ) (p : List ℕ → Bool) (L : List (List ℕ)) (i : ℕ) : Type 0 where
  pub index : ℕ
  pub placing : i ≡ n + index
  pub within : index < length L
  pub passing : p (get_or L index []) ≡ true

pub places_mem : (n : ℕ) (p : List ℕ → Bool) (L : List (List ℕ)) (i : ℕ) → Memᴰ i (places n p L) → Passing n p L i
unfolding places
places_mem n p [] i m = absurd (mathlib.Core.List.Memᴰ.not-nil m)
places_mem n p (r ∷ L) i m = go (p r) refl m (places_mem (suc n) p L i)
  where
    behind : Passing (suc n) p L i → Passing n p (r ∷ L) i
    behind w = record { index = suc w.index; placing = omega arith; within = omega arith; passing = w.passing }

    here : p r ≡ true → (i ≡ n) ⊎ Memᴰ i (places (suc n) p L) → (Memᴰ i (places (suc n) p L) → Passing (suc n) p L i) → Passing n p (r ∷ L) i
    here t (inl e) below = record { index = 0; placing = omega arith; within = omega arith; passing = t }
    here t (inr m') below = behind (below m')

    go : (b : Bool)
        → p r ≡ b
        → Memᴰ i (cond b (n ∷ places (suc n) p L) (places (suc n) p L))
        → (Memᴰ i (places (suc n) p L) → Passing (suc n) p L i)
        → Passing n p (r ∷ L) i
    go true t m' below = here t (mathlib.Core.List.Memᴰ.cases_cons m') below
    go false f m' below = behind (below m')

pub mem-places : (n : ℕ) (p : List ℕ → Bool) (L : List (List ℕ)) (i : ℕ) → i < length L → p (get_or L i []) ≡ true → Memᴰ (n + i) (places n p L)
mem-places n p L i q t = rw (places_split n p L i q t) (mathlib.Core.List.Memᴰ.append_right (places n p (take i L)) (mathlib.Core.List.Memᴰ.head refl))

-- no place where none passes, and one where one does; a place above 0 tells which
pub places_none : (n : ℕ) (p : List ℕ → Bool) (L : List (List ℕ)) → any p L ≡ false → places n p L ≡ []
unfolding any places
places_none n p [] h = refl
places_none n p (r ∷ L) h = rw (or_fails_left (p r) (any p L) h) (places_none (suc n) p L (or_fails_right (p r) (any p L) h))

pub place_from_pos : (n : ℕ) (p : List ℕ → Bool) (L : List (List ℕ)) → 1 ≤ n → any p L ≡ true → 1 ≤ place_from n p L
place_from_pos n p L pos h = let (i, w) = placed n p L h in omega (arith, w.place)

pub places_end : (n : ℕ) (p : List ℕ → Bool) (L : List (List ℕ)) → 1 ≤ n → place_from n p L ≡ 0 → places n p L ≡ []
places_end n p L pos h = places_none n p L (fails (any p L) (λ t. omega (arith, place_from_pos n p L pos t)))

-- what is left behind the m first rows goes on with the next number
pub record Next (m : ℕ) (p : List ℕ → Bool) (R : List (List ℕ)) (i : ℕ) : Type 0 where
  pub beyond : m ≤ i
  pub within : i < length R
  pub passing : p (get_or R i []) ≡ true
  pub left : places m p (drop m R) ≡ i ∷ places (suc i) p (drop (suc i) R)

pub places_first : (n : ℕ) (p : List ℕ → Bool) (L : List (List ℕ)) (i : ℕ)
    → Placed n p L i
    → places n p L ≡ (n + i) ∷ places (suc (n + i)) p (drop (suc i) L)
places_first n p L i w =
    let unpassed : any p (take i L) ≡ false =
    fails (any p (take i L))
    (λ h.
    let (j, v) = placed 0 p (take i L) h in
    let earlier : j < i = omega (arith, v.within, length-take i L) in
    never (rw (get_or-take i L j [] earlier) at v.passing) (w.before j earlier)) in
    places_split n p L i w.within w.passing
    ∙ ap (λ (l : List ℕ). l ++ ((n + i) ∷ places (suc (n + i)) p (drop (suc i) L))) (places_none n p (take i L) unpassed)

pub places_next : (m : ℕ) (p : List ℕ → Bool) (R : List (List ℕ)) → 1 ≤ place_from m p (drop m R) → Next m p R (place_from m p (drop m R))
places_next m p R pos =
    either (any p (drop m R))
    (λ t. let (j, w) = placed m p (drop m R) t in rw w.place (found j w))
    (λ f. absurd (omega (arith, place_from_none m p (drop m R) f)))
  where
    found : (j : ℕ) → Placed m p (drop m R) j → Next m p R (m + j)
    found j w =
        let on : m + suc j ≡ suc (m + j) = omega arith in
        record {
          beyond = omega arith;
          within = omega (arith, w.within, length-drop m R);
          passing = rw (get_or-drop m R j []) at w.passing;
          left =
              places_first m p (drop m R) j w
              ∙ ap (λ (l : List (List ℕ)). (m + j) ∷ places (suc (m + j)) p l) (drop-drop (suc j) m R ∙ ap (λ (k : ℕ). drop k R) on);
        }

-- a row more behind a list: its number is taken where there was none
pub place_from_more : (n : ℕ) (p : List ℕ → Bool) (L : List (List ℕ)) (w : List ℕ)
    → 1 ≤ n
    → place_from n p (L ++ (w ∷ [])) ≡ cond (p w && eqb (place_from n p L) 0) (n + length L) (place_from n p L)
unfolding place_from
place_from_more n p L w pos =
    rw (place_from-append n p L (w ∷ []))
    (either (any p L)
    (λ t. rw (t, ne_eqb (place_from n p L) 0 (λ e. omega (arith, place_from_pos n p L pos t)), and-false (p w)))
    (λ f. rw (f, place_from_none n p L f, and-true (p w))))

-- Children: one byte behind.
pub child_of-nil : (s : List ℕ) → child_of s [] ≡ false
unfolding child_of
child_of-nil s = rw (eqb-zero-suc (length s)) (and-false (begins s []))

pub child_of_true : (s r : List ℕ) → child_of s r ≡ true → (c : ℕ) × (r ≡ s ++ (c ∷ []))
unfolding child_of
child_of_true s r h =
    let (e, cut) = begins_true s r (and_left (begins s r) (eqb (length r) (suc (length s))) h) in
    let longer : length r ≡ suc (length s) = eqb-true (length r) (suc (length s)) (and_right (begins s r) (eqb (length r) (suc (length s))) h) in
    one e cut (omega (arith, ap length cut, length-append s e))
  where
    one : (e : List ℕ) → r ≡ s ++ e → length e ≡ 1 → (c : ℕ) × (r ≡ s ++ (c ∷ []))
    one [] cut l = absurd (omega arith)
    one (c ∷ []) cut l = (c, cut)
    one (c ∷ d ∷ e) cut l = absurd (omega arith)

pub child_of_own : (s : List ℕ) (c : ℕ) → child_of s (s ++ (c ∷ [])) ≡ true
unfolding child_of
child_of_own s c = and_both (begins-append s (c ∷ [])) (eq-eqb (length (s ++ (c ∷ []))) (suc (length s)) (omega (arith, length-append s (c ∷ []))))

pub child_of_snoc : (s t : List ℕ) (c : ℕ) → child_of s (t ++ (c ∷ [])) ≡ same s t
child_of_snoc s t c =
    same_outcome (child_of s (t ++ (c ∷ []))) (same s t)
    (λ h. let (d, e) = child_of_true s (t ++ (c ∷ [])) h in eq-same s t (sym (snoc_parts t s c d e).0))
    (λ h. rw (same_true s t h) (child_of_own t c))

pub child_of-parent : (s r : List ℕ) → child_of s r ≡ true → parent r ≡ s
child_of-parent s r h = let (c, e) = child_of_true s r h in ap parent e ∙ parent_snoc s c

-- The cells. Row 0 is nobody's child, so a child's number is never 0.
pub root_split : {R : List (List ℕ)} → Rowed R → R ≡ [] ∷ drop 1 R
root_split {R} rowed = drop-cons R 0 [] rowed.some ∙ ap (λ (r : List ℕ). r ∷ drop 1 R) rowed.first

pub children_first : {R : List (List ℕ)} → Rowed R → (s : List ℕ) → places 0 (child_of s) R ≡ places 1 (child_of s) (drop 1 R)
unfolding places
children_first {R} rowed s = ap (places 0 (child_of s)) (root_split rowed) ∙ rw (child_of-nil s)

pub child_first : {R : List (List ℕ)} → Rowed R → (s : List ℕ) → place_from 0 (child_of s) R ≡ place_from 1 (child_of s) (drop 1 R)
child_first {R} rowed s =
    place_from-head 0 (child_of s) R
    ∙ ap (λ (l : List ℕ). get_or l 0 0) (children_first rowed s)
    ∙ sym (place_from-head 1 (child_of s) (drop 1 R))

pub children_none : {R : List (List ℕ)} → Rowed R → (s : List ℕ) → place_from 0 (child_of s) R ≡ 0 → places 0 (child_of s) R ≡ []
children_none {R} rowed s h =
    children_first rowed s ∙ places_end 1 (child_of s) (drop 1 R) (omega arith) (sym (child_first rowed s) ∙ h)

-- the sibling of a row whose parent is s
pub sibling_cell : (R : List (List ℕ)) (s : List ℕ) (i : ℕ)
    → child_of s (get_or R i []) ≡ true
    → sibling_after R i (get_or R i []) ≡ place_from (suc i) (child_of s) (drop (suc i) R)
unfolding sibling_after
sibling_cell R s i h = rw (child_of-parent s (get_or R i []) h)

-- A row more, w with the parent s: its number is taken by s where s had no child, and by the row of s's children that
-- had no sibling; it has neither itself.
pub child_more : {R : List (List ℕ)} → Rowed R → (s : List ℕ) (c : ℕ) (r : List ℕ)
    → place_from 0 (child_of r) (R ++ ((s ++ (c ∷ [])) ∷ []))
    ≡ cond (same r s && eqb (place_from 0 (child_of r) R) 0) (length R) (place_from 0 (child_of r) R)
unfolding place_from
child_more {R} rowed s c r =
    let w = s ++ (c ∷ []) in
    let L = drop 1 R in
    let all : 1 + length L ≡ length R = omega (arith, ap length (root_split rowed)) in
    ap (λ (l : List (List ℕ)). place_from 0 (child_of r) (l ++ (w ∷ []))) (root_split rowed)
    ∙ (rw (child_of-nil r, child_first rowed r, ← all, ← (child_of_snoc r s c)) (place_from_more 1 (child_of r) L w (omega arith)))

pub sibling_more : (R : List (List ℕ)) (s : List ℕ) (c i : ℕ) (r : List ℕ)
    → i < length R
    → sibling_after (R ++ ((s ++ (c ∷ [])) ∷ [])) i r
    ≡ cond (same (parent r) s && eqb (sibling_after R i r) 0) (length R) (sibling_after R i r)
unfolding sibling_after
sibling_more R s c i r q =
    let w = s ++ (c ∷ []) in
    let all : suc i + length (drop (suc i) R) ≡ length R = omega (arith, length-drop (suc i) R) in
    rw (drop-append-le (suc i) R (w ∷ []) q, ← (child_of_snoc (parent r) s c), ← all)
    (place_from_more (suc i) (child_of (parent r)) (drop (suc i) R) w (omega arith))

pub new_child : {R : List (List ℕ)} → Rowed R → (w : List ℕ) → any (same w) R ≡ false → place_from 0 (child_of w) (R ++ (w ∷ [])) ≡ 0
unfolding any
new_child {R} rowed w new =
    let unborn : any (child_of w) R ≡ false =
    fails (any (child_of w) R)
    (λ h.
    let (r, m, t) = any_true (child_of w) R h in
    let (d, e) = child_of_true w r t in
    never (rowed.closed w d (any_mem (same (w ++ (d ∷ []))) m (eq-same (w ++ (d ∷ [])) r (sym e)))) new) in
    let unlike : child_of w w ≡ false =
    fails (child_of w w) (λ h. let (d, e) = child_of_true w w h in omega (arith, ap length e, length-append w (d ∷ []))) in
    place_from_none 0 (child_of w) (R ++ (w ∷ [])) (any_append (child_of w) R (w ∷ []) ∙ rw (unborn, unlike))

pub new_sibling : (R : List (List ℕ)) (w r : List ℕ) → sibling_after (R ++ (w ∷ [])) (length R) r ≡ 0
unfolding sibling_after place_from
new_sibling R w r =
    let all : length (R ++ (w ∷ [])) ≤ suc (length R) = omega (arith, length-append R (w ∷ [])) in
    rw (drop_of_length-le (R ++ (w ∷ [])) all)

-- The walk along the children of s: it meets each by its last byte.
abbrev pub last_byte : List ℕ → ℕ
last_byte r = get_or r (length r - 1) 0

pub last_byte_snoc : (s : List ℕ) (c : ℕ) → last_byte (s ++ (c ∷ [])) ≡ c
last_byte_snoc s c =
    let at : length (s ++ (c ∷ [])) - 1 ≡ length s = omega (arith, length-append s (c ∷ [])) in
    rw at (get_or-append_seam s c [] 0)

-- a place that is listed, and the list behind it
pub places_at : (p : List ℕ → Bool) (R : List (List ℕ)) (i : ℕ) → Memᴰ i (places 0 p R) → (i < length R) × (p (get_or R i []) ≡ true)
places_at p R i m =
    let w = places_mem 0 p R i m in
    let at : i ≡ w.index = w.placing ∙ zero-add w.index in
    (rw at w.within, rw at w.passing)

pub at_places : (p : List ℕ → Bool) (R : List (List ℕ)) (i : ℕ) → i < length R → p (get_or R i []) ≡ true → Memᴰ i (places 0 p R)
at_places p R i q t = rw (zero-add i) at (mem-places 0 p R i q t)

pub places_behind : (p : List ℕ → Bool) (R : List (List ℕ)) (i : ℕ)
    → Memᴰ i (places 0 p R)
    → places 0 p R ≡ places 0 p (take i R) ++ (i ∷ places (suc i) p (drop (suc i) R))
places_behind p R i m = let (q, t) = places_at p R i m in rw (zero-add i) at (places_split 0 p R i q t)

-- the child with the byte c is listed, and what is listed with the byte c is that child
pub child_listed : (R : List (List ℕ)) (s : List ℕ) (c : ℕ)
    → any (same (s ++ (c ∷ []))) R ≡ true
    → Memᴰ (row_of R (s ++ (c ∷ []))) (places 0 (child_of s) R) × (last_byte (get_or R (row_of R (s ++ (c ∷ []))) []) ≡ c)
child_listed R s c h =
    let (q, e) = row_of_is R (s ++ (c ∷ [])) h in
    (at_places (child_of s) R (row_of R (s ++ (c ∷ []))) q (rw e (child_of_own s c)), rw e (last_byte_snoc s c))

module _ {R : List (List ℕ)} (rowed : Rowed R) (s : List ℕ) where
  pub listed_child : (i c : ℕ)
      → Memᴰ i (places 0 (child_of s) R)
      → last_byte (get_or R i []) ≡ c
      → (get_or R i [] ≡ s ++ (c ∷ [])) × (any (same (s ++ (c ∷ []))) R ≡ true) × (row_of R (s ++ (c ∷ [])) ≡ i)
  listed_child i c m l =
      let (q, t) = places_at (child_of s) R i m in
      let (d, e) = child_of_true s (get_or R i []) t in
      let byte : d ≡ c = sym (last_byte_snoc s d) ∙ ap last_byte (sym e) ∙ l in
      let here : get_or R i [] ≡ s ++ (c ∷ []) = rw byte at e in
      (here, row_at R i (s ++ (c ∷ [])) q here, rw here at (row_of_at rowed i q))

  pub child-asked : (c : ℕ) → any (λ i. eqb (last_byte (get_or R i [])) c) (places 0 (child_of s) R) ≡ any (same (s ++ (c ∷ []))) R
  child-asked c =
      let with_byte : ℕ → Bool = (λ (i : ℕ). eqb (last_byte (get_or R i [])) c) in
      same_outcome (any with_byte (places 0 (child_of s) R)) (any (same (s ++ (c ∷ []))) R)
      (λ h.
      let (i, m, t) = any_true with_byte (places 0 (child_of s) R) h in
      (listed_child i c m (eqb-true (last_byte (get_or R i [])) c t)).1)
      (λ h.
      let (m, l) = child_listed R s c h in
      any_mem with_byte m (eq-eqb (last_byte (get_or R (row_of R (s ++ (c ∷ []))) [])) c l))

-- a list that ends with i has nothing behind an i that is below all that stands behind it
ends_once : (a b : List ℕ) (i : ℕ) (rest : List ℕ) → a ++ (i ∷ []) ≡ b ++ (i ∷ rest) → ((j : ℕ) → Memᴰ j rest → i < j) → rest ≡ []
ends_once a b i =
    by_snoc (λ (rest : List ℕ). a ++ (i ∷ []) ≡ b ++ (i ∷ rest) → ((j : ℕ) → Memᴰ j rest → i < j) → rest ≡ [])
    (λ e above. refl)
    (λ u c below e above.
    let last : i ≡ c = (snoc_parts a (b ++ (i ∷ u)) i c (e ∙ sym (append_assoc b (i ∷ u) (c ∷ [])))).1 in
    absurd (omega (arith, above c (mathlib.Core.List.Memᴰ.append_right u (mathlib.Core.List.Memᴰ.head refl)))))

-- The last child of s is the one whose sibling number is 0.
module _ (R : List (List ℕ)) (s : List ℕ) where
  pub last_child : (i : ℕ)
      → Memᴰ i (places 0 (child_of s) R)
      → sibling_after R i (get_or R i []) ≡ 0
      → places 0 (child_of s) R ≡ places 0 (child_of s) (take i R) ++ (i ∷ [])
  last_child i m h =
      let left : List (List ℕ) = drop (suc i) R in
      let end : place_from (suc i) (child_of s) left ≡ 0 = sym (sibling_cell R s i (places_at (child_of s) R i m).1) ∙ h in
      places_behind (child_of s) R i m
      ∙ ap (λ (l : List ℕ). places 0 (child_of s) (take i R) ++ (i ∷ l)) (places_end (suc i) (child_of s) left (omega arith) end)

  pub last-only : (i j : ℕ)
      → Memᴰ i (places 0 (child_of s) R)
      → Memᴰ j (places 0 (child_of s) R)
      → sibling_after R i (get_or R i []) ≡ 0
      → sibling_after R j (get_or R j []) ≡ 0
      → i ≡ j
  last-only i j m n h g =
      (snoc_parts (places 0 (child_of s) (take i R)) (places 0 (child_of s) (take j R)) i j (sym (last_child i m h) ∙ last_child j n g)).1

  pub child_last : (front : List ℕ) (i : ℕ) → places 0 (child_of s) R ≡ front ++ (i ∷ []) → sibling_after R i (get_or R i []) ≡ 0
  child_last front i e =
      let p = child_of s in
      let m : Memᴰ i (places 0 p R) = rw e (mathlib.Core.List.Memᴰ.append_right front (mathlib.Core.List.Memᴰ.head refl)) in
      let rest = places (suc i) p (drop (suc i) R) in
      let none_left : rest ≡ [] =
      ends_once front (places 0 p (take i R)) i rest (sym e ∙ places_behind p R i m)
      (λ j n. omega (arith, (places_mem (suc i) p (drop (suc i) R) j n).placing)) in
      sibling_cell R s i (places_at p R i m).1
      ∙ place_from-head (suc i) p (drop (suc i) R)
      ∙ ap (λ (l : List ℕ). get_or l 0 0) none_left

-- a row but row 0 is its parent and its last byte
pub parent_last : (s : List ℕ) → 1 ≤ length s → s ≡ parent s ++ (last_byte s ∷ [])
parent_last =
    by_snoc (λ (s : List ℕ). 1 ≤ length s → s ≡ parent s ++ (last_byte s ∷ []))
    (λ h. absurd (omega arith))
    (λ u c below h. rw (parent_snoc u c, last_byte_snoc u c))

pub row_filled : {R : List (List ℕ)} → Rowed R → (i : ℕ) → 1 ≤ i → i < length R → 1 ≤ length (get_or R i [])
row_filled {R} rowed i pos q = go (get_or R i []) refl
  where
    go : (r : List ℕ) → get_or R i [] ≡ r → 1 ≤ length r
    go [] e = absurd (omega (arith, rowed.distinct i 0 q rowed.some (e ∙ sym rowed.first)))
    go (a ∷ r) e = omega arith

pub row_child : {R : List (List ℕ)} → Rowed R → (i : ℕ) → 1 ≤ i → i < length R → child_of (parent (get_or R i [])) (get_or R i []) ≡ true
row_child {R} rowed i pos q =
    let r = get_or R i [] in
    ap (child_of (parent r)) (parent_last r (row_filled rowed i pos q)) ∙ child_of_own (parent r) (last_byte r)

-- two tests that do not both pass
and_fails : (a b : Bool) → (a ≡ true → b ≡ true → ⊥) → (a && b) ≡ false
and_fails a b f = fails (a && b) (λ h. f (and_left a b h) (and_right a b h))

-- Where a new row w with the parent s is linked: at s where it has no child, else at its last child, and nowhere else.
module _ {R : List (List ℕ)} (rowed : Rowed R) (s : List ℕ) (c : ℕ) where
  pub child_linked : place_from 0 (child_of s) R ≡ 0 → place_from 0 (child_of s) (R ++ ((s ++ (c ∷ [])) ∷ [])) ≡ length R
  child_linked h = rw (child_more rowed s c s, same_refl s, h)

  pub child-kept : (r : List ℕ)
      → (r ≡ s → place_from 0 (child_of r) R ≡ 0 → ⊥)
      → place_from 0 (child_of r) (R ++ ((s ++ (c ∷ [])) ∷ [])) ≡ place_from 0 (child_of r) R
  child-kept r other =
      let cell = place_from 0 (child_of r) R in
      rw (child_more rowed s c r, and_fails (same r s) (eqb cell 0) (λ e z. other (same_true r s e) (eqb-true cell 0 z)))

  pub sibling_linked : (i : ℕ)
      → Memᴰ i (places 0 (child_of s) R)
      → sibling_after R i (get_or R i []) ≡ 0
      → sibling_after (R ++ ((s ++ (c ∷ [])) ∷ [])) i (get_or R i []) ≡ length R
  sibling_linked i m h =
      let (q, t) = places_at (child_of s) R i m in
      rw (sibling_more R s c i (get_or R i []) q, h, child_of-parent s (get_or R i []) t, same_refl s)

  pub sibling-kept : (i : ℕ)
      → 1 ≤ i
      → i < length R
      → (Memᴰ i (places 0 (child_of s) R) → sibling_after R i (get_or R i []) ≡ 0 → ⊥)
      → sibling_after (R ++ ((s ++ (c ∷ [])) ∷ [])) i (get_or R i []) ≡ sibling_after R i (get_or R i [])
  sibling-kept i pos q other =
      let r = get_or R i [] in
      let cell = sibling_after R i r in
      let unlinked : (same (parent r) s && eqb cell 0) ≡ false =
      and_fails (same (parent r) s) (eqb cell 0)
      (λ e z. other (at_places (child_of s) R i q (rw (same_true (parent r) s e) at (row_child rowed i pos q))) (eqb-true cell 0 z)) in
      rw (sibling_more R s c i r q, unlinked)

-- The question "which child of s has the byte c", put to the children behind the row `last`, the next of which is `at`.
pub record Asking (R : List (List ℕ)) (s : List ℕ) (c last at : ℕ) : Type 0 where
  pub cell : at ≡ place_from (suc last) (child_of s) (drop (suc last) R)
  pub undecided : any (λ i. eqb (last_byte (get_or R i [])) c) (places (suc last) (child_of s) (drop (suc last) R)) ≡ any (same (s ++ (c ∷ []))) R

pub asking-start : {R : List (List ℕ)} → Rowed R → (s : List ℕ) (c : ℕ) → Asking R s c 0 (place_from 0 (child_of s) R)
asking-start {R} rowed s c =
    record {
      cell = child_first rowed s;
      undecided = ap (any (λ (i : ℕ). eqb (last_byte (get_or R i [])) c)) (sym (children_first rowed s)) ∙ child-asked rowed s c;
    }

pub asking_none : {R : List (List ℕ)} {s : List ℕ} {c last : ℕ} → Asking R s c last 0 → any (same (s ++ (c ∷ []))) R ≡ false
unfolding any
asking_none {R} {s} {c} {last} a =
    sym a.undecided
    ∙ ap (any (λ (i : ℕ). eqb (last_byte (get_or R i [])) c)) (places_end (suc last) (child_of s) (drop (suc last) R) (omega arith) (sym a.cell))

pub asking_at : {R : List (List ℕ)} {s : List ℕ} {c last at : ℕ} → Asking R s c last at → 1 ≤ at → Next (suc last) (child_of s) R at
asking_at {R} {s} {c} {last} {at} a pos = rw a.cell (places_next (suc last) (child_of s) R (rw a.cell at pos))

pub asking-found : {R : List (List ℕ)} {s : List ℕ} {c last at : ℕ}
    → Rowed R
    → Asking R s c last at
    → 1 ≤ at
    → last_byte (get_or R at []) ≡ c
    → (any (same (s ++ (c ∷ []))) R ≡ true) × (row_of R (s ++ (c ∷ [])) ≡ at)
asking-found {R} {s} {c} {last} {at} rowed a pos h =
    let w = asking_at a pos in
    let (here, is, row) = listed_child rowed s at c (at_places (child_of s) R at w.within w.passing) h in
    (is, row)

pub asking_on : {R : List (List ℕ)} {s : List ℕ} {c last at : ℕ}
    → Asking R s c last at
    → 1 ≤ at
    → (last_byte (get_or R at []) ≡ c → ⊥)
    → Asking R s c at (sibling_after R at (get_or R at []))
unfolding any
asking_on {R} {s} {c} {last} {at} a pos other =
    let w = asking_at a pos in
    let with_byte : ℕ → Bool = (λ (i : ℕ). eqb (last_byte (get_or R i [])) c) in
    let rest = places (suc at) (child_of s) (drop (suc at) R) in
    let passed : any with_byte rest ≡ any with_byte (at ∷ rest) = rw (ne_eqb (last_byte (get_or R at [])) c other) in
    record {
      cell = sibling_cell R s at w.passing;
      undecided = passed ∙ ap (any with_byte) (sym w.left) ∙ a.undecided;
    }
