-- What a record states stands at its places, in the record and in the set, and record i of a set is the i'th twenty
-- bytes.
use Prim.Native.Nat.{ℕ, ◌+◌, ◌-◌, ◌*◌, ◌≤◌, ◌<◌}
use native.Mathlib.Omega.{arith}
use mathlib.Core.Path.{◌≡◌, ◌∙◌, ap}
use mathlib.Core.List.{List}
use lib.ListN.{length, get_or, take, drop, length-take, length-drop}
use lib.Seq.{get_or-take, get_or-drop}
use Rattle.rules.specs.sets.Limits.{record_size}
use Rattle.rules.specs.sets.Sets.{keyword_of}
use Rattle.rules.specs.Beside.{record_at, keyword_at}
use Rattle.sets.specs.Reading.{Stated}

pub record_is : (s : List ℕ) (i : ℕ) → take (record_size * i + record_size - record_size * i) (drop (record_size * i) s) ≡ record_at s i
unfolding record_at
record_is s i = let long : record_size * i + record_size - record_size * i ≡ record_size = omega arith in ap (λ (m : ℕ). take m (drop (record_size * i) s)) long

-- the number that the two bytes of the set s from place k on state, the low byte first
abbrev pub half_at : List ℕ → ℕ → ℕ
half_at s k = get_or s k 0 + 256 * get_or s (k + 1) 0

-- an energy is the two halves that its four bytes state, the low half first
module _ (s : List ℕ) (i : ℕ) (whole : record_size * i + record_size ≤ length s) where
  pub record-at : (k : ℕ) → k < record_size → get_or (record_at s i) k 0 ≡ get_or s (record_size * i + k) 0
  unfolding record_at
  record-at k h = get_or-take record_size (drop (record_size * i) s) k 0 h ∙ get_or-drop (record_size * i) s k 0

  half-at : (k : ℕ) → k + 1 < record_size
      → half_at s (record_size * i + k) ≡ get_or (record_at s i) k 0 + 256 * get_or (record_at s i) (k + 1) 0
  half-at k h =
      let next : record_size * i + (k + 1) ≡ record_size * i + k + 1 = omega arith in
      omega (arith, record-at k (omega arith), rw next at (record-at (k + 1) h))

  pub energy_at : (keyword_at s i).energy ≡ half_at s (record_size * i + 16) + 65536 * half_at s (record_size * i + 18)
  unfolding keyword_at keyword_of
  energy_at = omega (arith, half-at 16 (omega arith), half-at 18 (omega arith))

module _ (r : List ℕ) (i n : ℕ) (ok : Stated r n) where
  pub word-length : length (keyword_of i r).word ≡ n
  unfolding keyword_of
  word-length = omega (arith, ok.short, ok.stated, ok.whole, length-take (get_or r 0 0) (drop 1 r), length-drop 1 r)

  pub word_at : (k : ℕ) → k < n → get_or (keyword_of i r).word k 0 ≡ get_or r (1 + k) 0
  unfolding keyword_of
  word_at k h = get_or-take (get_or r 0 0) (drop 1 r) k 0 (omega (arith, ok.stated)) ∙ get_or-drop 1 r k 0
