-- The least number that passes is found by counting up from 1, and what was counted over did not pass.
use Prim.Native.Nat.{ℕ, zero, suc, ◌+◌, ◌-◌, ◌≤◌, ◌<◌, min}
use native.Mathlib.Nat.{eq-or-lt_of_le}
use native.Mathlib.Omega.{arith}
use mathlib.Core.Path.{◌≡◌, refl}
use mathlib.Core.Logic.{◌⊎◌, inl, inr}
use mathlib.Core.Bool.{Bool, true, false, cond}
use mathlib.Core.List.Memᴰ
use mathlib.Core.List.{List, [], ◌∷◌, ◌++◌, Memᴰ}
use lib.ListN.{length}
use lib.Dec.{leb}
use borrow.Author.Tests.{leb-true, leb-false}
use Rattle.rules.specs.sets.Limits.{longest_word}
use Rattle.rules.specs.sets.Sets.{Keyword, shortest}
use Rattle.rules.specs.skips.Skips.{least_from, least}
use Rattle.rules.specs.Beside.{Sound}
use Rattle.rules.proofs.strings.Strings.{either, never}

-- counting up from n
from_low : (left n : ℕ) (p : ℕ → Bool) → n ≤ least_from left n p
unfolding least_from
from_low zero n p = omega arith
from_low (suc left) n p =
    let below : suc n ≤ least_from left (suc n) p = from_low left (suc n) p in
    either (p n) (λ t. rw t (omega arith)) (λ f. rw f (omega arith))

from_high : (left n : ℕ) (p : ℕ → Bool) → least_from left n p ≤ n + left
unfolding least_from
from_high zero n p = omega arith
from_high (suc left) n p =
    let below : least_from left (suc n) p ≤ suc n + left = from_high left (suc n) p in
    either (p n) (λ t. rw t (omega arith)) (λ f. rw f (omega arith))

from_below : (left n : ℕ) (p : ℕ → Bool) (i : ℕ) → n ≤ i → i < least_from left n p → p i ≡ false
unfolding least_from
from_below zero n p i low high = absurd (omega arith)
from_below (suc left) n p i low high = go (p n) refl high (eq-or-lt_of_le low) (from_below left (suc n) p i)
  where
    go : (t : Bool)
        → p n ≡ t
        → i < cond t n (least_from left (suc n) p)
        → (n ≡ i) ⊎ (suc n ≤ i)
        → (suc n ≤ i → i < least_from left (suc n) p → p i ≡ false)
        → p i ≡ false
    go true q h s below = absurd (omega arith)
    go false q h (inl e) below = rw (← e) q
    go false q h (inr l) below = below l h

from_passes : (left n : ℕ) (p : ℕ → Bool) → least_from left n p < n + left → p (least_from left n p) ≡ true
unfolding least_from
from_passes zero n p h = absurd (omega arith)
from_passes (suc left) n p h = go (p n) refl h (from_passes left (suc n) p)
  where
    go : (t : Bool)
        → p n ≡ t
        → cond t n (least_from left (suc n) p) < n + suc left
        → (least_from left (suc n) p < suc n + left → p (least_from left (suc n) p) ≡ true)
        → p (cond t n (least_from left (suc n) p)) ≡ true
    go true q l below = q
    go false q l below = below (omega arith)

-- from 1 up, capped at m
pub least_pos : (m : ℕ) (p : ℕ → Bool) → 1 ≤ least m p
unfolding least
least_pos m p = from_low (m - 1) 1 p

pub least_cap : (m : ℕ) (p : ℕ → Bool) → 1 ≤ m → least m p ≤ m
unfolding least
least_cap m p h = omega (arith, from_high (m - 1) 1 p)

pub least_below : (m : ℕ) (p : ℕ → Bool) (n : ℕ) → 1 ≤ n → n < least m p → p n ≡ false
unfolding least
least_below m p n low high = from_below (m - 1) 1 p n low high

pub least_passes : (m : ℕ) (p : ℕ → Bool) → least m p < m → p (least m p) ≡ true
unfolding least
least_passes m p h = from_passes (m - 1) 1 p (omega arith)

-- what passes is not below the least
pub least_le : (m : ℕ) (p : ℕ → Bool) (n : ℕ) → 1 ≤ n → p n ≡ true → least m p ≤ n
least_le m p n low q =
    either (leb (least m p) n)
    (leb-true (least m p) n)
    (λ f. never q (least_below m p n low (leb-false (least m p) n f)))

-- the shortest with one keyword more
pub shortest_more : (ks : List Keyword) (k : Keyword) → 1 ≤ length ks → shortest (ks ++ (k ∷ [])) ≡ min (shortest ks) (length k.word)
unfolding shortest
shortest_more [] k h = absurd (omega arith)
shortest_more (l ∷ []) k h = refl
shortest_more (l ∷ m ∷ ks) k h = omega (arith, shortest_more (m ∷ ks) k (omega arith))

-- no keyword is shorter than the shortest
pub shortest_le : {k : Keyword} (ks : List Keyword) → Memᴰ k ks → shortest ks ≤ length k.word
unfolding shortest
shortest_le [] m = absurd (Memᴰ.not-nil m)
shortest_le (l ∷ []) m = let e = Memᴰ.eq_of_singleton m in rw e (omega arith)
shortest_le {k} (l ∷ j ∷ ks) m = go (Memᴰ.cases_cons m) (shortest_le (j ∷ ks))
  where
    go : (k ≡ l) ⊎ Memᴰ k (j ∷ ks)
        → (Memᴰ k (j ∷ ks) → shortest (j ∷ ks) ≤ length k.word)
        → shortest (l ∷ j ∷ ks) ≤ length k.word
    go (inl e) below = rw e (omega arith)
    go (inr n) below = let rest : shortest (j ∷ ks) ≤ length k.word = below n in omega arith

pub shortest_filled : (k : Keyword) (ks : List Keyword) → ((l : Keyword) → Memᴰ l (k ∷ ks) → 1 ≤ length l.word) → 1 ≤ shortest (k ∷ ks)
unfolding shortest
shortest_filled k [] filled = filled k (Memᴰ.head refl)
shortest_filled k (l ∷ ks) filled =
    let here : 1 ≤ length k.word = filled k (Memᴰ.head refl) in
    let rest : 1 ≤ shortest (l ∷ ks) = shortest_filled l ks (λ j m. filled j (Memᴰ.tail m)) in
    omega arith

-- a good set has a first keyword, and its shortest has from 1 to 15 bytes
pub first_of : {ks : List Keyword} → Sound ks → (k : Keyword) × Memᴰ k ks
first_of {ks} sound = go ks sound.some
  where
    go : (ks : List Keyword) → 1 ≤ length ks → (k : Keyword) × Memᴰ k ks
    go [] some = absurd (omega arith)
    go (k ∷ ks) some = (k, Memᴰ.head refl)

pub shortest_pos : {ks : List Keyword} → Sound ks → 1 ≤ shortest ks
shortest_pos {ks} sound = go ks sound.some sound.filled
  where
    go : (ks : List Keyword) → 1 ≤ length ks → ((k : Keyword) → Memᴰ k ks → 1 ≤ length k.word) → 1 ≤ shortest ks
    go [] some filled = absurd (omega arith)
    go (k ∷ ks) some filled = shortest_filled k ks filled

pub shortest_short : {ks : List Keyword} → Sound ks → shortest ks ≤ longest_word
shortest_short {ks} sound =
    let first : (k : Keyword) × Memᴰ k ks = first_of sound in
    omega (arith, shortest_le ks first.1, sound.short first.0 first.1)
