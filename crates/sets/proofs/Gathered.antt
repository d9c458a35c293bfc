-- A keyword's units are filled one by one: those passed are the keyword's, the others are still zero.
use Prim.Native.Nat.{ℕ, suc, ◌+◌, ◌-◌, ◌≤◌, ◌<◌}
use native.Mathlib.Omega.{arith}
use native.Mathlib.Numerals.{add-one}
use mathlib.Core.Path.{◌≡◌, refl, sym, ◌∙◌, ap}
use mathlib.Core.List.{List, [], ◌∷◌, ◌++◌}
use lib.ListN.{length, get_or, take, replicate, set}
use lib.Seq.{take-suc, take_all, take_at, length-take-le, set_at, append_snoc}
use Rattle.rules.specs.sets.Limits.{longest_word}

-- the first k units of the word v stand in the array
pub record Gathered (v units : List ℕ) (k : ℕ) : Type 0 where
  pub short : length v ≤ longest_word
  pub low : k ≤ length v
  pub known : units ≡ take k v ++ replicate (longest_word - k) 0

pub gathered_none : (v : List ℕ) → length v ≤ longest_word → Gathered v (replicate longest_word 0) 0
gathered_none v short = record { short = short; low = omega arith; known = refl }

module _ {v units : List ℕ} {k : ℕ} (so : Gathered v units k) where
  pub gathered_more : (b : ℕ) → b ≡ get_or v k 0 → k < length v → Gathered v (set units k b) (k + 1)
  gathered_more b e h =
      let short : length v ≤ longest_word = so.short in
      let room : longest_word - k ≡ suc (longest_word - suc k) = omega arith in
      let front : length (take k v) ≡ k = length-take-le k v (omega arith) in
      let here : take (suc k) v ≡ take k v ++ (get_or v k 0 ∷ []) = take-suc v k 0 h in
      record {
        short = short;
        low = omega arith;
        known =
            rw (so.known, room, add-one k, here, append_snoc (take k v) (get_or v k 0) (replicate (longest_word - suc k) 0), e)
            (set_at (take k v) 0 (replicate (longest_word - suc k) 0) (get_or v k 0) k front);
      }

  pub gathered_all : {n : ℕ} → n ≡ length v → n ≤ k → take n units ≡ v
  gathered_all {n} long h =
      let all : k ≡ n = omega (arith, so.low) in
      let whole : take n v ≡ v = take_all n v (omega arith) in
      ap (take n) (so.known ∙ ap (λ (m : ℕ). take m v ++ replicate (longest_word - m) 0) all)
      ∙ ap (λ (w : List ℕ). take n (w ++ replicate (longest_word - n) 0)) whole
      ∙ take_at v (replicate (longest_word - n) 0) n (sym long)
