-- No input has two outcomes under a promise: each field says that something left is a function of the inputs, and an
-- answer's numbers say which answer it was.
use Prim.Native.Nat.{ℕ}
use mathlib.Core.Path.{◌≡◌}
use mathlib.Core.List.{List}
use Rattle.std.specs.Prelude.{Result}
use Rattle.rules.specs.declared.Totals.{Totals}
use Rattle.rules.specs.declared.Refusal.{Refusal}
use Rattle.rules.specs.sets.Sets.{Keyword}
use Rattle.rules.specs.answers.Refusals.{Verdict}
use Rattle.rules.specs.answers.Answers.{told, told_counted}
use Rattle.rules.specs.answers.Promises.{ForwardOf, BackwardOf, MakeOf, CheckOf, Host}
use Rattle.rules.proofs.answers.Answers.{told_injective, told_counted_injective}

-- what the tests said is a function of the inputs too, so each holds of every verdict v
module _ {v : Verdict} {ks : List Keyword} where
  pub forward_determined : {t ws hs : List ℕ} (r q : Result Totals Refusal) {ws' ws'' hs' hs'' : List ℕ}
      → ForwardOf v ks t ws hs (told r) ws' hs'
      → ForwardOf v ks t ws hs (told q) ws'' hs''
      → (r ≡ q) × (ws' ≡ ws'') × (hs' ≡ hs'')
  forward_determined r q f g = (told_injective r q (cc), cc, cc)

  pub backward_determined : {t rowf bytef ws hs : List ℕ} (r q : Result Totals Refusal) {ws' ws'' hs' hs'' : List ℕ}
      → BackwardOf v ks t rowf bytef ws hs (told r) ws' hs'
      → BackwardOf v ks t rowf bytef ws hs (told q) ws'' hs''
      → (r ≡ q) × (ws' ≡ ws'') × (hs' ≡ hs'')
  backward_determined r q f g = (told_injective r q (cc), cc, cc)

  pub make_determined : {ws rowb byteb : List ℕ} (r q : Result ℕ Refusal) {ws' ws'' rowb' rowb'' byteb' byteb'' : List ℕ}
      → MakeOf v ks ws rowb byteb (told_counted r) ws' rowb' byteb'
      → MakeOf v ks ws rowb byteb (told_counted q) ws'' rowb'' byteb''
      → (r ≡ q) × (ws' ≡ ws'') × (rowb' ≡ rowb'') × (byteb' ≡ byteb'')
  make_determined r q f g = (told_counted_injective r q (cc), cc, cc, cc)

  pub check_determined : {rowf bytef ws : List ℕ} (r q : Result ℕ Refusal) {ws' ws'' : List ℕ}
      → CheckOf v ks rowf bytef ws (told_counted r) ws'
      → CheckOf v ks rowf bytef ws (told_counted q) ws''
      → (r ≡ q) × (ws' ≡ ws'')
  check_determined r q f g = (told_counted_injective r q (cc), cc)

-- the host call's result is a number, and its answer is bytes
pub host_determined : {s t answer : List ℕ} {r q : ℕ} {answer' answer'' : List ℕ} → Host s t answer r answer' → Host s t answer q answer'' → (r ≡ q) × (answer' ≡ answer'')
host_determined f g = (cc, cc)
