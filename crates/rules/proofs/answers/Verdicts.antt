-- How the tests of a job join: by cases on each verdict.
use Prim.Native.Nat.{ℕ}
use mathlib.Core.Path.{◌≡◌, refl, ◌∙◌}
use mathlib.Core.Logic.{◌⊎◌, inl, inr, ◌↔◌}
use mathlib.Core.Bool.{Bool, true, false}
use native.Mathlib.Omega.{arith}
use Rattle.rules.specs.answers.Refusals.{Verdict, pass, refuse, refuse_if, or_else}

-- a verdict is a pass or some refusal, and never both
pub verdict-cases : (v : Verdict) → (v ≡ pass) ⊎ ((n : ℕ) × (p : ℕ) × (v ≡ refuse n p))
verdict-cases pass = inl refl
verdict-cases (refuse n p) = inr (n, p, refl)

pub refuse_no_pass : {n p : ℕ} → refuse n p ≡ pass → ⊥
refuse_no_pass e = let z : ◌≡◌ {A = ℕ} 0 1 = cc in omega arith

-- or_else: both pass where the whole does; the first refusal is the whole's
pub or_else_pass : (v w : Verdict) → or_else v w ≡ pass → (v ≡ pass) × (w ≡ pass)
unfolding or_else
or_else_pass pass w e = (refl, e)
or_else_pass (refuse n p) w e = absurd (refuse_no_pass e)

pub pass-or_else : {v : Verdict} (w : Verdict) → v ≡ pass → or_else v w ≡ w
unfolding or_else
pass-or_else w e = rw e

pub refuse-or_else : {v : Verdict} {n p : ℕ} (w : Verdict) → v ≡ refuse n p → or_else v w ≡ refuse n p
unfolding or_else
refuse-or_else w e = rw e

pub or_else_assoc : (u v w : Verdict) → or_else (or_else u v) w ≡ or_else u (or_else v w)
unfolding or_else
or_else_assoc pass v w = refl
or_else_assoc (refuse n p) v w = refl

pub or_else_right : (v : Verdict) → or_else v pass ≡ v
unfolding or_else
or_else_right pass = refl
or_else_right (refuse n p) = refl

-- a later test matters only where the earlier one passes
pub or_else_behind : (u : Verdict) {v w : Verdict} → (u ≡ pass → v ≡ w) → or_else u v ≡ or_else u w
unfolding or_else
or_else_behind pass e = e refl
or_else_behind (refuse n p) e = refl

-- refuse_if: a refusal exactly where the test shows a fault
pub refuse_if_true : {b : Bool} (n p : ℕ) → b ≡ true → refuse_if b n p ≡ refuse n p
unfolding refuse_if
refuse_if_true n p e = rw e

pub refuse_if_false : {b : Bool} (n p : ℕ) → b ≡ false → refuse_if b n p ≡ pass
unfolding refuse_if
refuse_if_false n p e = rw e

pub refuse_if_pass : {b : Bool} (n p : ℕ) → refuse_if b n p ≡ pass → b ≡ false
unfolding refuse_if
refuse_if_pass {b = true} n p e = absurd (refuse_no_pass e)
refuse_if_pass {b = false} n p e = refl

-- as equivalences: a whole passes exactly where each of its tests does
pub or_else_exactly : (v w : Verdict) → (or_else v w ≡ pass) ↔ ((v ≡ pass) × (w ≡ pass))
or_else_exactly v w = (or_else_pass v w, λ h. pass-or_else w h.0 ∙ h.1)

pub test_exactly : (fault : Bool) (n p : ℕ) (w : Verdict) → (or_else (refuse_if fault n p) w ≡ pass) ↔ ((fault ≡ false) × (w ≡ pass))
test_exactly fault n p w = (
  λ h.
      let both = or_else_pass (refuse_if fault n p) w h in
      (refuse_if_pass n p both.0, both.1),
  λ h. pass-or_else w (refuse_if_false n p h.0) ∙ h.1,
)
