-- The rows that pass are those at the places that `places` lists, one by one: so the list of places says what is
-- kept, and a walk over the places goes over the rows.
use Prim.Native.Nat.{ℕ, suc, ◌+◌, ◌≤◌}
use native.Mathlib.Omega.{arith}
use mathlib.Core.Path.{◌≡◌, refl, sym, ◌∙◌, ap}
use mathlib.Core.Bool.{Bool}
use mathlib.Core.List.{List, [], ◌∷◌, map}
use lib.ListN.{get_or, drop}
use lib.Seq.{get_or-drop}
use Rattle.rules.specs.strings.Strings.{keep}
use Rattle.rules.specs.rows.Rows.{place_from, child_of}
use Rattle.rules.specs.Beside.{Rowed}
use Rattle.rules.proofs.strings.Strings.{either}
use Rattle.rules.proofs.rows.Children.{places, Next, places_end, children_first}

-- what is kept, by any way to read a row from its place
pub keep-places : (n : ℕ) (p : List ℕ → Bool) (L : List (List ℕ)) (read : ℕ → List ℕ)
    → ((i : ℕ) → read (n + i) ≡ get_or L i [])
    → keep p L ≡ map read (places n p L)
unfolding keep places
keep-places n p [] read reads = refl
keep-places n p (r ∷ L) read reads =
    let first : n ≡ n + 0 = omega arith in
    let here : read n ≡ r = ap read first ∙ reads 0 in
    let below : keep p L ≡ map read (places (suc n) p L) =
    keep-places (suc n) p L read
    (λ i. let at : suc n + i ≡ n + suc i = omega arith in ap read at ∙ reads (suc i)) in
    either (p r) (λ t. rw (t, below, here)) (λ f. rw (f, below))

-- what is left behind the m first rows: it goes on with the next row, or there is none
module _ (p : List ℕ → Bool) (R : List (List ℕ)) where
  pub keep_dropped : (m : ℕ) → keep p (drop m R) ≡ map (λ i. get_or R i []) (places m p (drop m R))
  keep_dropped m = keep-places m p (drop m R) (λ i. get_or R i []) (λ i. sym (get_or-drop m R i []))

  pub keep_next : (m i : ℕ) → Next m p R i → keep p (drop m R) ≡ get_or R i [] ∷ keep p (drop (suc i) R)
  keep_next m i w = rw (keep_dropped m, w.left, keep_dropped (suc i))

  pub keep_end : (m : ℕ) → 1 ≤ m → place_from m p (drop m R) ≡ 0 → keep p (drop m R) ≡ []
  keep_end m pos h = rw (keep_dropped m, places_end m p (drop m R) pos h)

-- row 0 is nobody's child
pub keep_first : {R : List (List ℕ)} → Rowed R → (s : List ℕ) → keep (child_of s) R ≡ keep (child_of s) (drop 1 R)
keep_first {R} rowed s = rw (keep_dropped (child_of s) R 0, children_first rowed s, keep_dropped (child_of s) R 1)
