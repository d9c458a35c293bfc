-- The far numbers as a value: 256 records of sixteen.
use Rattle.std.specs.Prelude.{ℕ, zero, suc, ◌≤◌, ◌<◌, min, List, [], ◌∷◌, length, get_or, set, map}
use Rattle.rules.specs.sets.Limits.{longest_word, depths, opcodes}
use Rattle.rules.specs.sets.Sets.{Keyword}
use Rattle.rules.specs.skips.Skips.{far, count}

-- a byte's numbers, lowered by one place where it has d bytes after it: at depth z by d - z, where that is 1 or more
unfoldable pub lowered : List ℕ → ℕ → List ℕ
lowered [] d = []
lowered (n ∷ ns) zero = n ∷ ns
lowered (n ∷ ns) (suc d) = min n (suc d) ∷ lowered ns d

-- a keyword as the list holds it: bytes, and no more than a suffix has
pub record Bytes (w : List ℕ) : Type 0 where
  pub short : length w ≤ longest_word
  pub small : (k : ℕ) → k < length w → get_or w k 0 < opcodes

-- the numbers of all bytes, lowered by each place that a keyword has for one
unfoldable pub lowered_by : List ℕ → List (List ℕ) → List (List ℕ)
lowered_by [] far = far
lowered_by (a ∷ w) far = lowered_by w (set far a (lowered (get_or far a []) (length w)))

-- the far numbers of the definition
unfoldable pub far_table : List Keyword → List (List ℕ)
far_table ks = map (λ a. map (far ks a) (count 0 depths)) (count 0 opcodes)
