-- Facts about lists that the library lacks: each by recursion along the list, or by a cut at a place.
use Prim.Native.Nat.{ℕ, suc, ◌-◌, ◌<◌}
use native.Mathlib.Omega.{arith}
use mathlib.Core.Path.{◌≡◌, ◌∙◌, ap}
use mathlib.Core.List.{List, ◌∷◌, ◌++◌, reverse, reverse-cons, reverse-append}
use lib.ListN.{length, get_or, take, drop, length-reverse, length-drop}
use lib.Seq.{get_or_at, append_snoc, split_at}

-- what stands before n elements stands behind n of the list turned round
pub get_or_turned {ℓ} : {A : Type ℓ} (a : List A) (x : A) (b : List A) (d : A) (n : ℕ) → length b ≡ n → get_or (reverse (a ++ x ∷ b)) n d ≡ x
get_or_turned {A = A} a x b d n e =
    let turned : reverse (a ++ x ∷ b) ≡ reverse b ++ x ∷ reverse a =
    reverse-append a (x ∷ b)
    ∙ ap (λ (l : List A). l ++ reverse a) (reverse-cons x b)
    ∙ append_snoc (reverse b) x (reverse a) in
    ap (λ (l : List A). get_or l n d) turned ∙ get_or_at (reverse b) x (reverse a) d n (length-reverse b ∙ e)

pub get_or_reverse {ℓ} : {A : Type ℓ} (l : List A) (k : ℕ) (d : A) → k < length l → get_or (reverse l) k d ≡ get_or l (length l - suc k) d
get_or_reverse {A = A} l k d h =
    let j : ℕ = length l - suc k in
    let below : length l - suc k < length l = omega arith in
    let behind : length (drop (suc j) l) ≡ k = omega (arith, length-drop (suc j) l) in
    ap (λ (m : List A). get_or (reverse m) k d) (split_at l j d below)
    ∙ get_or_turned (take j l) (get_or l j d) (drop (suc j) l) d k behind
