-- A row's record is filled from the front: the suffix's length, its first k bytes, zeros behind, and at the end the
-- two numbers.
use Prim.Native.Nat.{ℕ, suc, ◌+◌, ◌-◌, ◌≤◌, ◌<◌}
use native.Mathlib.Omega.{arith}
use native.Mathlib.Numerals.{add-one}
use mathlib.Core.Path.{◌≡◌, sym, ◌∙◌, ap}
use mathlib.Core.List.{List, [], ◌∷◌, ◌++◌, append_assoc}
use lib.ListN.{length, take, get_or, set, replicate, length-append, replicate-append-replicate}
use lib.Seq.{take-suc, take_all, length-take-le, set_at, append_snoc}
use Rattle.rules.specs.sets.Limits.{longest_word}
use Rattle.rules.specs.skips.Skips.{named}
use Rattle.rules.proofs.skips.Tables.{named-length}

-- the length of v and its first k bytes stand in the record
pub record Spelled (v numbers : List ℕ) (k : ℕ) : Type 0 where
  pub short : length v ≤ longest_word
  pub low : k ≤ length v
  pub known : numbers ≡ length v ∷ take k v ++ replicate (17 - k) 0

-- a name and two places more
named_more : (v : List ℕ) → length v ≤ longest_word → length v ∷ v ++ replicate (17 - length v) 0 ≡ named v ++ (0 ∷ 0 ∷ [])
unfolding named
named_more v h =
    let rest : 17 - length v ≡ longest_word - length v + 2 = omega arith in
    rw (rest, ← (replicate-append-replicate {A = ℕ} (longest_word - length v) 2 0))
    (sym (append_assoc (length v ∷ v) (replicate (longest_word - length v) 0) (0 ∷ 0 ∷ [])))

pub spelled_none : (v : List ℕ) (z : ℕ) → length v ≡ z → length v ≤ longest_word → Spelled v (z ∷ replicate 17 0) 0
spelled_none v z e h = record { short = h; low = omega arith; known = rw e }

module _ {v numbers : List ℕ} {k : ℕ} (so : Spelled v numbers k) where
  pub spelled_more : (b : ℕ) → b ≡ get_or v k 0 → k < length v → Spelled v (set numbers (1 + k) b) (k + 1)
  spelled_more b e h =
      let short : length v ≤ longest_word = so.short in
      let room : 17 - k ≡ suc (17 - suc k) = omega arith in
      let place : 1 + k ≡ suc k = omega arith in
      let front : length (length v ∷ take k v) ≡ suc k = ap suc (length-take-le k v (omega arith)) in
      record {
        short = so.short;
        low = omega arith;
        known =
            rw (so.known, room, place, add-one k, take-suc v k 0 h, append_snoc (take k v) (get_or v k 0) (replicate (17 - suc k) 0), e)
            (set_at (length v ∷ take k v) 0 (replicate (17 - suc k) 0) (get_or v k 0) (suc k) front);
      }

  pub spelled_all : length v ≤ k → (a b : ℕ) → set (set numbers 16 a) 17 b ≡ named v ++ (a ∷ b ∷ [])
  spelled_all h a b =
      let short : length v ≤ longest_word = so.short in
      let all : k ≡ length v = omega (arith, so.low) in
      let size : length (named v) ≡ 16 = named-length v short in
      let more : length (named v ++ (a ∷ [])) ≡ 17 = omega (arith, length-append (named v) (a ∷ [])) in
      let spelled : numbers ≡ named v ++ (0 ∷ 0 ∷ []) =
      so.known ∙ rw (all, take_all (length v) v (omega arith)) (named_more v short) in
      rw spelled
      (ap (λ (l : List ℕ). set l 17 b) (set_at (named v) 0 (0 ∷ []) a 16 size ∙ sym (append_snoc (named v) a (0 ∷ [])))
      ∙ set_at (named v ++ (a ∷ [])) 0 [] b 17 more
      ∙ append_snoc (named v) a (b ∷ []))
