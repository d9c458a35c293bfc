-- The padding is a part of the record: its bytes behind the keyword, up to the energy.
use Prim.Native.Nat.{ℕ, ◌+◌, ◌-◌}
use native.Mathlib.Omega.{arith}
use mathlib.Core.Path.{◌≡◌, ◌∙◌, ap}
use mathlib.Core.Bool.{not}
use mathlib.Core.List.{List}
use lib.ListN.{take, drop}
use lib.Dec.{eqb}
use Rattle.std.specs.List.{list_any}
use Rattle.rules.specs.sets.Limits.{longest_word}
use Rattle.rules.proofs.strings.Strings.{any_listed}
use Rattle.sets.specs.Reading.{Stated, padding_fault}

pub padding_listed : (r : List ℕ) (n : ℕ) → Stated r n → padding_fault r n ≡ list_any (λ b. not (eqb b 0)) (take (16 - (1 + n)) (drop (1 + n) r))
unfolding padding_fault
padding_listed r n ok =
    let long : longest_word - n ≡ 16 - (1 + n) = omega (arith, ok.short) in
    any_listed _ _ ∙ ap (λ (m : ℕ). list_any (λ b. not (eqb b 0)) (take m (drop (1 + n) r))) long
