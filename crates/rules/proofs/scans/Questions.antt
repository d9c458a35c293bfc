-- Each question at a byte but its last takes a byte or more from the state, and a byte adds at most one: so there are
-- at most two questions a byte, less one, since what the last byte adds is never taken.
use Prim.Native.Nat.{ℕ, ◌+◌, ◌*◌, ◌≤◌}
use native.Mathlib.Omega.{arith}
use mathlib.Core.Path.{◌≡◌, refl, ap}
use mathlib.Core.List.{List, [], ◌∷◌, ◌++◌, append_assoc, append-nil}
use lib.ListN.{length}
use Rattle.rules.specs.strings.Strings.{longest}
use Rattle.rules.specs.sets.Sets.{Keyword}
use Rattle.rules.specs.rows.Rows.{forward, starts}
use Rattle.rules.specs.scans.Questions.{questions_at, questions_after, questions, most_questions}
use Rattle.rules.proofs.rows.Rows.{starts_closed}
use Rattle.rules.proofs.scans.State.{asked_by, asked_le, asked_grow, longest-nil}

-- the questions at a byte are those of its state
pub questions-asked : (ks : List Keyword) (u : List ℕ) (c : ℕ) → questions_at ks u c ≡ asked_by (starts forward ks) u c
unfolding questions_at asked_by
questions-asked ks u c = refl

-- a trace in two parts
pub questions-append : (ks : List Keyword) (u a b : List ℕ) → questions_after ks u (a ++ b) ≡ questions_after ks u a + questions_after ks (u ++ a) b
unfolding questions_after
questions-append ks u [] b = rw append-nil (omega arith)
questions-append ks u (c ∷ a) b =
    omega (arith, rw append_assoc at (questions-append ks (u ++ (c ∷ [])) a b))

pub questions_more : (ks : List Keyword) (u : List ℕ) (c : ℕ) → questions ks (u ++ (c ∷ [])) ≡ questions ks u + questions_at ks u c
unfolding questions questions_after
questions_more ks u c = omega (arith, questions-append ks [] u (c ∷ []))

-- behind u, whose state can still be taken from
bound_behind : (ks : List Keyword) (u : List ℕ) (c : ℕ) (t : List ℕ)
    → questions_after ks u (c ∷ t) + 1 ≤ length (longest (starts forward ks) u) + 2 * length (c ∷ t)
unfolding questions_after
bound_behind ks u c [] = omega (arith, questions-asked ks u c, asked_le (starts forward ks) u c)
bound_behind ks u c (d ∷ t) =
    let grow = asked_grow (starts forward ks) (λ s d. starts_closed forward ks s (d ∷ [])) u c in
    omega (arith, questions-asked ks u c, grow, bound_behind ks (u ++ (c ∷ [])) d t)

-- demand 3's bound: at the front the state is empty
pub questions_bound : (ks : List Keyword) (t : List ℕ) → questions ks t ≤ most_questions (length t)
unfolding questions questions_after
questions_bound ks [] = omega arith
questions_bound ks (c ∷ t) = omega (arith, bound_behind ks [] c t, ap length (longest-nil (starts forward ks)))
