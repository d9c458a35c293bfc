-- Two strings compared one unit at a time: what they share is decided behind the units passed.
use Prim.Native.Nat.{ℕ, suc, ◌+◌, ◌≤◌, ◌<◌, min}
use native.Mathlib.Omega.{arith}
use native.Mathlib.Numerals.{add-one}
use mathlib.Core.Path.{◌≡◌}
use mathlib.Core.Bool.{cond}
use mathlib.Core.List.{List}
use lib.ListN.{length, get_or, drop, drop_of_length-le}
use lib.Seq.{drop-cons}
use lib.Dec.{eqb, ltb}
use borrow.Author.Tests.{eq-eqb, ne_eqb, ltb-true, ltb-false}
use Rattle.rules.proofs.strings.Strings.{either}
use Rattle.rules.specs.Beside.{common}
use Rattle.rules.proofs.rows.Count.{common-nil}

-- the strings a and b agree on their first k units
pub record Agreed (a b : List ℕ) (k : ℕ) : Type 0 where
  pub low : k ≤ length a
  pub high : k ≤ length b
  pub known : common a b ≡ k + common (drop k a) (drop k b)

pub agreed_none : (a b : List ℕ) → Agreed a b 0
agreed_none a b = record { low = omega arith; high = omega arith; known = omega arith }

module _ {a b : List ℕ} {k : ℕ} (so : Agreed a b k) where
  -- one of them has no unit more
  pub agreed_left : length a ≤ k → k ≡ common a b
  unfolding common
  agreed_left h =
      let out : common (drop k a) (drop k b) ≡ 0 = rw (drop_of_length-le a {i = k} h) in
      omega (arith, so.known)

  pub agreed_right : length b ≤ k → k ≡ common a b
  agreed_right h =
      let out : common (drop k a) (drop k b) ≡ 0 = rw (drop_of_length-le b {i = k} h) (common-nil (drop k a)) in
      omega (arith, so.known)

  -- the shorter one is passed
  pub agreed_end : {n : ℕ} → n ≡ min (length a) (length b) → n ≤ k → n ≡ common a b
  agreed_end least h =
      either (ltb (length b) (length a))
      (λ t. omega (arith, agreed_right (omega (arith, ltb-true (length b) (length a) t)), so.low, so.high, ltb-true (length b) (length a) t))
      (λ f. omega (arith, agreed_left (omega (arith, ltb-false (length b) (length a) f)), so.low, so.high, ltb-false (length b) (length a) f))

  -- both have one more
  module _ (in_a : k < length a) (in_b : k < length b) where
    next_unit : common (drop k a) (drop k b) ≡ cond (eqb (get_or a k 0) (get_or b k 0)) (suc (common (drop (suc k) a) (drop (suc k) b))) 0
    unfolding common
    next_unit = rw (drop-cons a k 0 in_a, drop-cons b k 0 in_b)

    pub agreed_stop : (get_or a k 0 ≡ get_or b k 0 → ⊥) → k ≡ common a b
    agreed_stop differ =
        let out : common (drop k a) (drop k b) ≡ 0 = rw (next_unit, ne_eqb _ _ differ) in
        omega (arith, so.known)

    pub agreed_more : get_or a k 0 ≡ get_or b k 0 → Agreed a b (k + 1)
    agreed_more alike =
        let more : common (drop k a) (drop k b) ≡ suc (common (drop (suc k) a) (drop (suc k) b)) =
        rw (next_unit, eq-eqb _ _ alike) in
        record { low = omega arith; high = omega arith; known = rw (add-one k) (omega (arith, so.known)) }
