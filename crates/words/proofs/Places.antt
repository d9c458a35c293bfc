-- Numbers rise with the places, so a keyword stands no later than its number says, and two with one number are one.
use Prim.Native.Nat.{ℕ, zero, suc, ◌≤◌, ◌<◌}
use native.Mathlib.Omega.{arith}
use mathlib.Core.Path.{◌≡◌, sym, ◌∙◌, ap}
use mathlib.Core.List.{List, Memᴰ}
use lib.ListN.{length}
use lib.Dec.{ltb}
use borrow.Author.Tests.{ltb-true, ltb-false}
use Rattle.rules.specs.sets.Sets.{Keyword}
use Rattle.rules.specs.Beside.{Sound, no_keyword, nth}
use Rattle.rules.proofs.strings.Strings.{either}
use Rattle.rules.proofs.strings.Orders.{ordered_at, mem_at}

module _ {ks : List Keyword} (sound : Sound ks) where
  -- the number at a place is no lower than the place
  pub place_below : (i : ℕ) → i < length ks → i ≤ (nth ks i).number
  place_below zero h = omega arith
  place_below (suc i) h =
      omega (arith, place_below i (omega arith), ordered_at sound.numbered no_keyword i (suc i) (omega arith) h)

  -- places with one number are one
  pub place_once : (i j : ℕ) → i < length ks → j < length ks → (nth ks i).number ≡ (nth ks j).number → i ≡ j
  place_once i j p q e =
      either (ltb i j)
      (λ t. absurd (omega (arith, ordered_at sound.numbered no_keyword i j (ltb-true i j t) q)))
      (λ f.
      either (ltb j i)
      (λ t. absurd (omega (arith, ordered_at sound.numbered no_keyword j i (ltb-true j i t) p)))
      (λ g. omega (arith, ltb-false i j f, ltb-false j i g)))

  -- the keyword at a place is the one with its number
  pub place_names : (i : ℕ) → i < length ks → (k : Keyword) → Memᴰ k ks → k.number ≡ (nth ks i).number → nth ks i ≡ k
  place_names i h k m e =
      let (j, within, is) = mem_at m in
      let same : i ≡ j = place_once i j h within (sym e ∙ ap (λ (l : Keyword). l.number) (sym (is no_keyword))) in
      ap (nth ks) same ∙ is no_keyword
