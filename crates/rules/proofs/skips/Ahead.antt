-- The ends ahead of a run, one at a time: every window moves, so as many as the trace has bytes are always enough.
use Prim.Native.Nat.{ℕ, suc, ◌+◌, ◌-◌, ◌≤◌, ◌<◌}
use native.Mathlib.Omega.{arith}
use mathlib.Core.Path.{◌≡◌, ◌∙◌, ap}
use mathlib.Core.List.{List, [], ◌∷◌}
use lib.ListN.{length}
use Rattle.rules.specs.skips.Runs.{visits_from}
use Rattle.rules.proofs.skips.Runs.{next_end, visits_none, visits_more, visits_fuel}

-- the ends that are visited from e on
abbrev pub ahead : List (List ℕ) → List ℕ → List ℕ → List ℕ → ℕ → List ℕ
ahead rows rowf bytef t e = visits_from (length t) rows rowf bytef t e

module _ (rows : List (List ℕ)) (rowf bytef t : List ℕ) where
  pub ahead_none : (e : ℕ) → length t < e → ahead rows rowf bytef t e ≡ []
  ahead_none e beyond = visits_none rows rowf bytef t (length t) e beyond

  pub ahead_more : ((e : ℕ) → e ≤ length t → e < next_end rows rowf bytef t e)
      → (e : ℕ)
      → 1 ≤ e
      → e ≤ length t
      → ahead rows rowf bytef t e ≡ e ∷ ahead rows rowf bytef t (next_end rows rowf bytef t e)
  ahead_more moves e some inside =
      let left : ℕ = length t - 1 in
      let fuel : length t ≡ suc (length t - 1) = omega arith in
      let further : ℕ = next_end rows rowf bytef t e in
      let low : length t < left + further = omega (arith, moves e inside) in
      let high : length t < length t + further = omega (arith, moves e inside) in
      ap (λ (n : ℕ). visits_from n rows rowf bytef t e) fuel
      ∙ visits_more rows rowf bytef t left e inside
      ∙ ap (λ (es : List ℕ). e ∷ es) (visits_fuel rows rowf bytef t moves left (length t) further low high)
