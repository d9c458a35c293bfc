-- A search that counts up: no number passed before the one that is tried, so the first that passes is the least.
use Prim.Native.Nat.{ℕ, suc, ◌+◌, ◌-◌, ◌≤◌, ◌<◌}
use native.Mathlib.Omega.{arith}
use native.Mathlib.Numerals.{add-one}
use mathlib.Core.Path.{◌≡◌, refl, sym, ◌∙◌}
use mathlib.Core.Bool.{Bool, true, false}
use Rattle.rules.specs.skips.Skips.{least_from, least}

-- no number from 1 up to n, which is m at most, passes
pub record Searched (m : ℕ) (p : ℕ → Bool) (n : ℕ) : Type 0 where
  pub low : 1 ≤ n
  pub high : n ≤ m
  pub known : least m p ≡ least_from (m - n) n p

pub searched_none : (m : ℕ) (p : ℕ → Bool) → 1 ≤ m → Searched m p 1
unfolding least
searched_none m p h = record { low = omega arith; high = h; known = refl }

module _ {m : ℕ} {p : ℕ → Bool} {n : ℕ} (so : Searched m p n) where
  pub searched_all : m ≤ n → n ≡ least m p
  unfolding least_from
  searched_all h = let none : m - n ≡ 0 = omega arith in sym (so.known ∙ rw none)

  module _ (h : n < m) where
    more : m - n ≡ suc (m - suc n)
    more = omega arith

    pub searched_stop : p n ≡ true → n ≡ least m p
    unfolding least_from
    searched_stop t = sym (so.known ∙ rw (more, t))

    pub searched_more : p n ≡ false → Searched m p (n + 1)
    unfolding least_from
    searched_more f =
        record {
          low = omega arith;
          high = omega arith;
          known = so.known ∙ rw (add-one n, more, f);
        }
