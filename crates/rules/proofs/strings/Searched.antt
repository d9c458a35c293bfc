-- A search through a list, one element after the other: none that is passed passes the test, so one that does decides,
-- and none does where all are passed.
use Prim.Native.Nat.{ℕ, zero, suc, ◌+◌, ◌≤◌, ◌<◌}
use native.Mathlib.Omega.{arith}
use native.Mathlib.Numerals.{add-one}
use mathlib.Core.Path.{◌≡◌, refl}
use mathlib.Core.Bool.{Bool, true, false}
use mathlib.Core.List.{List, [], ◌∷◌}
use lib.ListN.{length, take, get_or, length-take}
use lib.Seq.{take-suc, take_all, get_or-take}
use Rattle.rules.specs.strings.Strings.{any}
use Rattle.rules.proofs.strings.Strings.{or_left, or_right, any_append}

-- what stands at a place and passes
pub any_at {ℓ} : {A : Type ℓ} (p : A → Bool) (l : List A) (i : ℕ) (d : A) → i < length l → p (get_or l i d) ≡ true → any p l ≡ true
unfolding any
any_at p [] i d h q = absurd (omega arith)
any_at p (x ∷ l) zero d h q = or_left (any p l) q
any_at p (x ∷ l) (suc i) d h q = or_right (p x) (any_at p l i d (omega arith) q)

module _ {A : Type 0} (p : A → Bool) (l : List A) where
  pub none_passed : any p (take 0 l) ≡ false
  unfolding any
  none_passed = refl

  pub none_more : (d : A) (n : ℕ) → n < length l → any p (take n l) ≡ false → p (get_or l n d) ≡ false
      → any p (take (n + 1) l) ≡ false
  unfolding any
  none_more d n h old new = rw (add-one n, take-suc l n d h, any_append p (take n l) (get_or l n d ∷ []), old, new)

  pub one_passes : (d : A) (n m : ℕ) → n < m → n < length l → p (get_or l n d) ≡ true → any p (take m l) ≡ true
  one_passes d n m below h q = any_at p (take m l) n d (omega (arith, length-take m l)) (rw (get_or-take m l n d below) q)

  pub none_at_all : (n : ℕ) → length l ≤ n → any p (take n l) ≡ false → any p l ≡ false
  none_at_all n h q = rw (take_all n l h) at q
