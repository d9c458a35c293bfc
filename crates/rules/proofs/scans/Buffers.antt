-- Numbers laid over the front of a buffer one after another are the list laid over it at once: each further one is a
-- store behind those before it.
use Prim.Native.Nat.{ℕ, suc, ◌+◌, ◌*◌, ◌/◌, ◌≤◌, ◌<◌}
use native.Mathlib.Omega.{arith}
use native.Mathlib.Numerals.{add-one}
use native.Mathlib.Nat.{not-suc-le-zero, le_of_suc-le-suc}
use mathlib.Core.Path.{◌≡◌, refl, sym, ◌∙◌, ap}
use mathlib.Core.List.{List, [], ◌∷◌, ◌++◌, append_assoc, append-nil}
use lib.ListN.{length, take, drop, set, length-append, length-take, length-drop, take-append-drop}
use lib.Seq.{take_all, take-nil, take-append-le, take-append_seam, drop-append_seam, sets}
use Rattle.rules.specs.scans.Hits.{Hit, pairs, over, hit_buffer}
use Rattle.rules.proofs.scans.Hits.{pairs-append, pairs-length}

pub over-length : (new old : List ℕ) → length new ≤ length old → length (over new old) ≡ length old
unfolding over
over-length new old h = simp (length-append, length-drop) (omega arith)

-- no number, one more, several more (each at the place behind the last), and as many as the buffer has
pub over_none : (old : List ℕ) → over [] old ≡ old
unfolding over
over_none old = refl

pub over_more : (new old : List ℕ) (x : ℕ) → length new < length old → over (new ++ (x ∷ [])) old ≡ set (over new old) (length new) x
unfolding over
over_more new [] x h = absurd (not-suc-le-zero h)
over_more [] (o ∷ old) x h = refl
over_more (y ∷ new) (o ∷ old) x h = ap (λ (l : List ℕ). y ∷ l) (over_more new old x (le_of_suc-le-suc h))

pub over_sets : (new more old : List ℕ) → length new + length more ≤ length old → over (new ++ more) old ≡ sets (over new old) (length new) more
over_sets new [] old h = rw append-nil
over_sets new (x ∷ more) old h =
    let size : length (new ++ (x ∷ [])) ≡ suc (length new) = omega (arith, length-append new (x ∷ [])) in
    let first : over (new ++ (x ∷ [])) old ≡ set (over new old) (length new) x = over_more new old x (omega arith) in
    ap (λ (l : List ℕ). over l old) (sym (append_assoc new (x ∷ []) more)) ∙ over_sets (new ++ (x ∷ [])) more old (omega arith) ∙ rw (first, size)

-- the front and the rest
pub over-front : (new old : List ℕ) → take (length new) (over new old) ≡ new
unfolding over
over-front new old = take-append_seam new (drop (length new) old)

pub over_rest : (new old : List ℕ) → drop (length new) (over new old) ≡ drop (length new) old
unfolding over
over_rest new old = drop-append_seam new (drop (length new) old)

pub over_by : (new old l : List ℕ) → take (length new) l ≡ new → drop (length new) l ≡ drop (length new) old → l ≡ over new old
unfolding over
over_by new old l p q = sym (take-append-drop (length new) l) ∙ cc

-- hit buffers
pub hit_buffer-length : (hs : List Hit) (old : List ℕ) → length (hit_buffer hs old) ≡ length old
unfolding hit_buffer
hit_buffer-length hs old =
    let first : List Hit = take (length old / 2) hs in
    over-length (pairs first) old (omega (arith, pairs-length first, length-take (length old / 2) hs))

pub hit_buffer_none : (old : List ℕ) → hit_buffer [] old ≡ old
unfolding hit_buffer pairs
hit_buffer_none old = rw take-nil (over_none old)

pub hit_buffer_more : (hs : List Hit) (h : Hit) (old : List ℕ) → length hs < length old / 2
    → hit_buffer (hs ++ (h ∷ [])) old ≡ set (set (hit_buffer hs old) (2 * length hs) h.end) (2 * length hs + 1) h.keyword.number
unfolding hit_buffer pairs
hit_buffer_more hs h old room =
    let all : take (length old / 2) (hs ++ (h ∷ [])) ≡ hs ++ (h ∷ []) = take_all (length old / 2) (hs ++ (h ∷ [])) (omega (arith, length-append hs (h ∷ []))) in
    let before : take (length old / 2) hs ≡ hs = take_all (length old / 2) hs (omega arith) in
    let stored : over (pairs hs ++ pairs (h ∷ [])) old ≡ sets (over (pairs hs) old) (length (pairs hs)) (pairs (h ∷ [])) =
    over_sets (pairs hs) (pairs (h ∷ [])) old (omega (arith, pairs-length hs)) in
    rw (all, before, pairs-append, add-one, ← pairs-length) stored

pub hit_buffer_full : (hs more : List Hit) (old : List ℕ) → length old / 2 ≤ length hs → hit_buffer (hs ++ more) old ≡ hit_buffer hs old
unfolding hit_buffer
hit_buffer_full hs more old full = rw take-append-le
