-- A byte's numbers are lowered one after another from the front: each turn is one more of `lowered`.
use Prim.Native.Nat.{ℕ, zero, suc, ◌+◌, ◌-◌, ◌≤◌, ◌<◌, min}
use native.Mathlib.Omega.{arith}
use native.Mathlib.Numerals.{add-one}
use native.Mathlib.Nat.{suc-sub-suc, sub-zero}
use mathlib.Core.Path.{◌≡◌, refl, ap}
use mathlib.Core.List.{List, [], ◌∷◌, ◌++◌}
use lib.ListN.{length, take, drop, set, get_or, take-append-drop, length-drop}
use lib.Seq.{drop-cons}
use Rattle.skips.specs.Fars.{lowered, lowered_by}

-- each number: those before depth d are at most the bytes between, those behind stay
pub lowered-length : (ns : List ℕ) (d : ℕ) → length (lowered ns d) ≡ length ns
unfolding lowered
lowered-length [] d = refl
lowered-length (n ∷ ns) zero = refl
lowered-length (n ∷ ns) (suc d) = ap suc (lowered-length ns d)

pub lowered_before : (ns : List ℕ) (d z : ℕ) → z < length ns → z < d → get_or (lowered ns d) z 0 ≡ min (get_or ns z 0) (d - z)
unfolding lowered
lowered_before [] d z q h = absurd (omega arith)
lowered_before (n ∷ ns) zero z q h = absurd (omega arith)
lowered_before (n ∷ ns) (suc d) zero q h = rw (sub-zero (suc d))
lowered_before (n ∷ ns) (suc d) (suc z) q h = rw (suc-sub-suc d z) (lowered_before ns d z (omega arith) (omega arith))

pub lowered_behind : (ns : List ℕ) (d z : ℕ) → d ≤ z → get_or (lowered ns d) z 0 ≡ get_or ns z 0
unfolding lowered
lowered_behind [] d z h = refl
lowered_behind (n ∷ ns) zero z h = refl
lowered_behind (n ∷ ns) (suc d) zero h = absurd (omega arith)
lowered_behind (n ∷ ns) (suc d) (suc z) h = lowered_behind ns d z (omega arith)

-- the numbers, those up to depth z lowered
unfoldable pub partly : List ℕ → ℕ → ℕ → List ℕ
partly ns d z = take z (lowered ns d) ++ drop z ns

pub partly_none : (ns : List ℕ) (d : ℕ) → ns ≡ partly ns d 0
unfolding partly
partly_none ns d = refl

pub partly_more : (ns : List ℕ) (d z : ℕ) → z < d → z < length ns → set (partly ns d z) z (min (get_or (partly ns d z) z 0) (d - z)) ≡ partly ns d (suc z)
unfolding partly lowered
partly_more [] d z h q = absurd (omega arith)
partly_more (n ∷ ns) zero z h q = absurd (omega arith)
partly_more (n ∷ ns) (suc d) zero h q = rw (sub-zero (suc d))
partly_more (n ∷ ns) (suc d) (suc z) h q = rw (suc-sub-suc d z) (ap (λ (l : List ℕ). min n (suc d) ∷ l) (partly_more ns d z (omega arith) (omega arith)))

pub partly_all : (ns : List ℕ) (d z : ℕ) → d ≤ z → partly ns d z ≡ lowered ns d
unfolding partly lowered
partly_all [] d zero h = refl
partly_all [] d (suc z) h = refl
partly_all (n ∷ ns) zero zero h = refl
partly_all (n ∷ ns) zero (suc z) h = ap (λ (l : List ℕ). n ∷ l) (take-append-drop z ns)
partly_all (n ∷ ns) (suc d) zero h = absurd (omega arith)
partly_all (n ∷ ns) (suc d) (suc z) h = ap (λ (l : List ℕ). min n (suc d) ∷ l) (partly_all ns d z (omega arith))

-- the byte at place k of a keyword, and those behind it
pub lowered_next : (w : List ℕ) (far : List (List ℕ)) (k : ℕ) → k < length w
    → lowered_by (drop k w) far ≡ lowered_by (drop (k + 1) w) (set far (get_or w k 0) (lowered (get_or far (get_or w k 0) []) (length w - 1 - k)))
unfolding lowered_by
lowered_next w far k h =
    let behind : length (drop (suc k) w) ≡ length w - 1 - k = omega (arith, length-drop (suc k) w) in
    rw (drop-cons w k 0 h, add-one k, ← behind)
