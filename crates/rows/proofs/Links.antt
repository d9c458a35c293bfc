-- A number that names a row or a keyword says what it names, and what is named says the number.
use Prim.Native.Nat.{ℕ, zero, suc, ◌+◌, ◌-◌, ◌≤◌}
use native.Mathlib.Omega.{arith}
use mathlib.Core.Path.{◌≡◌, refl, ap}
use Rattle.std.specs.Prelude.{Option, Some, None, SomeIff, unwrap_or}
use Rattle.rows.specs.Tree.{link, own}

-- what a number names
pub link_some : (n : ℕ) → (n ≡ 0 → ⊥) → link n ≡ Some n
unfolding link
link_some zero some = absurd (some refl)
link_some (suc n) some = refl

pub linked : (n i : ℕ) → link n ≡ Some i → (n ≡ i) × (1 ≤ i)
unfolding link
linked zero i e = absurd (cc)
linked (suc n) i e = (cc, let at : suc n ≡ i = cc in omega arith)

pub unlinked : (n : ℕ) → link n ≡ None → n ≡ 0
unfolding link
unlinked zero e = refl
unlinked (suc n) e = absurd (cc)

pub unwrap_or-link : (n : ℕ) → unwrap_or (link n) 0 ≡ n
unfolding link
unwrap_or-link zero = refl
unwrap_or-link (suc n) = refl

-- the same of a keyword
pub owned : (n k : ℕ) → own n ≡ Some k → n ≡ k + 1
unfolding own
owned zero k e = absurd (cc)
owned (suc n) k e = let at : n ≡ k = cc in omega arith

pub unowned : (n : ℕ) → own n ≡ None → n ≡ 0
unfolding own
unowned zero e = refl
unowned (suc n) e = absurd (cc)

pub own_less : (o : Option ℕ) (n : ℕ) → SomeIff o (1 ≤ n) (n - 1) → o ≡ own n
unfolding own
own_less None zero less = refl
own_less None (suc n) less = absurd (less (omega arith))
own_less (Some k) zero less = absurd (omega (arith, less.0))
own_less (Some k) (suc n) less = let at : k ≡ n = omega (arith, less.1) in ap Some at
