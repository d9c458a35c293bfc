-- A far number is the lowest of the distances at which a keyword holds the byte: a number that is not above any of
-- them, and is one of them or the cap, is the least that passes.
use Prim.Native.Nat.{ℕ, suc, ◌-◌, ◌≤◌, ◌<◌}
use native.Mathlib.Omega.{arith}
use mathlib.Core.Path.{◌≡◌, ◌∙◌}
use mathlib.Core.Logic.{◌⊎◌, inl, inr}
use mathlib.Core.Bool.{Bool, true, and-true}
use mathlib.Core.List.{List, [], ◌∷◌}
use lib.ListN.{length, get_or}
use lib.Seq.{drop-cons}
use lib.Dec.{eqb, leb}
use borrow.Author.Tests.{leb-true, leb-false}
use Rattle.rules.specs.strings.Strings.{same}
use Rattle.rules.specs.skips.Skips.{least, holds_before}
use Rattle.rules.proofs.strings.Strings.{either}
use Rattle.rules.proofs.skips.Least.{least_pos, least_cap, least_passes, least_le}
use Rattle.rules.proofs.skips.Distances.{holds_part}

pub least_is : (m : ℕ) (p : ℕ → Bool) (e : ℕ) → 1 ≤ e → e ≤ m → ((n : ℕ) → 1 ≤ n → p n ≡ true → e ≤ n) → (e ≡ m) ⊎ (p e ≡ true) → e ≡ least m p
least_is m p e pos cap below met =
    let high : e ≤ least m p =
    either (leb m (least m p))
    (λ t. omega (arith, leb-true m (least m p) t))
    (λ f. below (least m p) (least_pos m p) (least_passes m p (leb-false m (least m p) f))) in
    omega (arith, low met)
  where
    low : (e ≡ m) ⊎ (p e ≡ true) → least m p ≤ e
    low (inl q) = omega (arith, least_cap m p (omega arith))
    low (inr q) = least_le m p e pos q

-- a word has one byte with d bytes after it
pub holds_byte : (a d : ℕ) (w : List ℕ) → d < length w → holds_before (a ∷ []) d w ≡ eqb a (get_or w (length w - suc d) 0)
unfolding same
holds_byte a d w h =
    let at : length w - d - 1 ≡ length w - suc d = omega arith in
    holds_part (a ∷ []) w d (omega arith)
    ∙ rw (at, drop-cons w (length w - suc d) 0 (omega arith)) (and-true (eqb a (get_or w (length w - suc d) 0)))
