-- The tests of inner and edge ask whether one string ends another: what is left of the keyword without its last n
-- bytes, and the suffix.
use Prim.Native.Nat.{ℕ, ◌+◌, ◌-◌, ◌≤◌, ◌<◌}
use native.Mathlib.Omega.{arith}
use mathlib.Core.Path.{◌≡◌, ◌∙◌}
use mathlib.Core.Bool.{true, false}
use mathlib.Core.List.{List}
use lib.ListN.{length, take, drop}
use lib.Seq.{length-take-le}
use lib.Dec.{leb}
use borrow.Author.Tests.{leb-true, leb-false, le-leb, lt-leb}
use Rattle.rules.specs.strings.Strings.{same, ends}
use Rattle.rules.specs.skips.Skips.{holds_before, ends_within}
use Rattle.rules.proofs.strings.Strings.{either}
use Rattle.rules.proofs.strings.Parts.{drop-take, ends_part, ends-longer}

module _ (v w : List ℕ) (n : ℕ) where
  -- w has v with n bytes after it
  holds_none : length w < n → holds_before v n w ≡ false
  unfolding holds_before
  holds_none h = rw (lt-leb n (length w) h)

  pub holds-front : n ≤ length w → holds_before v n w ≡ ends v (take (length w - n) w)
  unfolding holds_before
  holds-front h = rw (le-leb n (length w) h)

  -- v and n further bytes end with w
  pub ends_whole : length w ≤ n → ends_within v n w ≡ true
  unfolding ends_within
  ends_whole h = rw (le-leb (length w) n h)

  pub ends-front : n < length w → ends_within v n w ≡ ends (take (length w - n) w) v
  unfolding ends_within
  ends-front h = rw (lt-leb (length w) n h)

  -- what is left of w is compared with v at one place
  front : n ≤ length w → length (take (length w - n) w) ≡ length w - n
  front h = length-take-le (length w - n) w (omega arith)

  pub holds_short : length w < n + length v → holds_before v n w ≡ false
  holds_short h =
      either (leb n (length w))
      (λ t.
      let fits : n ≤ length w = leb-true n (length w) t in
      holds-front fits ∙ ends-longer v (take (length w - n) w) (omega (arith, front fits)))
      (λ f. holds_none (leb-false n (length w) f))

  pub holds_part : n + length v ≤ length w → holds_before v n w ≡ same v (take (length v) (drop (length w - n - length v) w))
  holds_part h =
      let left : length w - n - (length w - n - length v) ≡ length v = omega arith in
      let fits : n ≤ length w = omega arith in
      holds-front fits
      ∙ ends_part v (take (length w - n) w) (omega (arith, front fits))
      ∙ rw (front fits, drop-take (length w - n - length v) (length w - n) w, left)
