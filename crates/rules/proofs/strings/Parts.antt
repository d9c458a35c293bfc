-- What is left of a front is a front of what is left, and a string ends another where it is its last part.
use Prim.Native.Nat.{ℕ, zero, suc, ◌-◌, ◌≤◌, ◌<◌}
use native.Mathlib.Omega.{arith}
use native.Mathlib.Nat.{sub-zero, zero-sub, suc-sub-suc}
use mathlib.Core.Path.{◌≡◌, refl, sym, ◌∙◌, ap}
use mathlib.Core.Bool.{false}
use mathlib.Core.List.{List, [], ◌∷◌, ◌++◌, map, reverse, reverse-append, reverse-reverse}
use lib.ListN.{length, take, drop, get_or, length-append, length-drop, length-reverse, take-append-drop}
use lib.Seq.{take-nil, drop_at, take_at}
use Rattle.rules.specs.strings.Strings.{same, ends}
use lib.Dec.{eqb, ltb}
use lib.Pointwise.{pointwise, pointwise_long}
use borrow.Author.Tests.{ltb-true, ltb-false}
use Rattle.rules.proofs.strings.Strings.{either, fails, same_listed, same_outcome, same_true, eq-same, same_sym, ends_true, ends_by}

-- what is left of a front is a front of what is left
pub drop-take {ℓ} : {A : Type ℓ} (m n : ℕ) (l : List A) → drop m (take n l) ≡ take (n - m) (drop m l)
drop-take zero n l = rw (sub-zero n)
drop-take (suc m) zero l = rw (zero-sub (suc m))
drop-take (suc m) (suc n) [] = sym (take-nil (suc n - suc m))
drop-take (suc m) (suc n) (x ∷ l) = rw (suc-sub-suc n m) (drop-take m n l)

-- the last n elements, read from the list turned round
pub reverse-take {ℓ} : {A : Type ℓ} (l : List A) (n : ℕ) → n ≤ length l → reverse (take n (reverse l)) ≡ drop (length l - n) l
reverse-take {A = A} l n h =
    let m : ℕ = length l - n in
    let turned : reverse l ≡ reverse (drop m l) ++ reverse (take m l) =
    ap reverse (sym (take-append-drop m l)) ∙ reverse-append (take m l) (drop m l) in
    let long : length (reverse (drop m l)) ≡ n = omega (arith, length-reverse (drop m l), length-drop m l) in
    ap (λ (k : List A). reverse (take n k)) turned
    ∙ ap reverse (take_at (reverse (drop m l)) (reverse (take m l)) n long)
    ∙ reverse-reverse (drop m l)

-- an element of a mapped list
pub get_or-map_within {ℓ κ} : {A : Type ℓ} {B : Type κ} (f : A → B) (l : List A) (i : ℕ) (d : A) (e : B) → i < length l → get_or (map f l) i e ≡ f (get_or l i d)
get_or-map_within f [] i d e h = absurd (omega arith)
get_or-map_within f (x ∷ l) zero d e h = refl
get_or-map_within f (x ∷ l) (suc i) d e h = get_or-map_within f l i d e (omega arith)

-- e ends s where it is as much of it, counted from its end, as e is long
pub ends_part : (e s : List ℕ) → length e ≤ length s → ends e s ≡ same e (drop (length s - length e) s)
ends_part e s h =
    let m : ℕ = length s - length e in
    same_outcome (ends e s) (same e (drop m s))
    (λ t.
    let w = ends_true e s t in
    let front : length w.0 ≡ m = omega (arith, ap length w.1, length-append w.0 e) in
    eq-same e (drop m s) (sym (ap (drop m) w.1 ∙ drop_at w.0 e m front)))
    (λ t. ends_by e s (take m s) (sym (take-append-drop m s) ∙ ap (λ (l : List ℕ). take m s ++ l) (sym (same_true e (drop m s) t))))

-- no longer string ends it
pub ends-longer : (e s : List ℕ) → length s < length e → ends e s ≡ false
ends-longer e s h =
    fails (ends e s)
    (λ t. let w = ends_true e s t in omega (arith, ap length w.1, length-append w.0 e))

-- it is the library's `ends_with`
pub ends_listed : (e s : List ℕ) → ends e s ≡ pointwise eqb e (drop (length s - length e) s)
ends_listed e s =
    either (ltb (length s) (length e))
    (λ t.
    let longer : length s < length e = ltb-true (length s) (length e) t in
    ends-longer e s longer
    ∙ sym (fails (pointwise eqb e (drop (length s - length e) s)) (λ u. omega (arith, pointwise_long eqb e (drop (length s - length e) s) u, length-drop (length s - length e) s))))
    (λ f. ends_part e s (ltb-false (length s) (length e) f) ∙ same_listed e (drop (length s - length e) s))

-- of its own length only the string itself
pub ends_same : (s e : List ℕ) → length s ≡ length e → ends e s ≡ same s e
ends_same s e h =
    let none : length s - length e ≡ 0 = omega arith in
    ends_part e s (omega arith) ∙ rw none (same_sym e s)
