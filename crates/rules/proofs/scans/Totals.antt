-- The most that a scan of the longest trace can count and charge: from the fifteenth byte on each has at most fifteen
-- hits more, and each hit at most the most energy.
use Prim.Native.Nat.{ℕ, zero, suc, ◌+◌, ◌*◌, ◌-◌, ◌≤◌}
use native.Mathlib.Omega.{arith}
use mathlib.Core.Path.{◌≡◌, refl, ap}
use mathlib.Core.List.{List}
use lib.ListN.{length}
use lib.Dec.{ltb}
use borrow.Author.Tests.{ltb-true, ltb-false}
use Rattle.rules.specs.sets.Limits.{longest_word, most_energy, longest_trace, most_hits, most_total}
use Rattle.rules.specs.sets.Sets.{Keyword}
use Rattle.rules.specs.scans.Hits.{hits, energy}
use Rattle.rules.specs.Beside.{Sound}
use Rattle.rules.proofs.strings.Strings.{either}
use Rattle.rules.proofs.scans.Hits.{most_in, most_in_few, hits-most_in, hits_occur, energy_most}

-- the first fourteen ends have 1 to 14, and each later one fifteen
most_in-long : (n : ℕ) → most_in (14 + n) ≡ 105 + longest_word * n
unfolding most_in
most_in-long zero = refl
most_in-long (suc n) =
    let next : 14 + suc n ≡ suc (14 + n) = omega arith in
    rw next (omega (arith, most_in-long n))

most_in_most : (n : ℕ) → n ≤ longest_trace → most_in n ≤ most_hits
most_in_most n near =
    either (ltb n 14)
    (λ few. omega (arith, most_in_few n, ltb-true n 14 few))
    (λ many.
    let rest : 14 + (n - 14) ≡ n = omega (arith, ltb-false n 14 many) in
    omega (arith, ap most_in rest, most_in-long (n - 14)))

module _ {ks : List Keyword} (sound : Sound ks) (t : List ℕ) (near : length t ≤ longest_trace) where
  pub hits_most : length (hits ks t) ≤ most_hits
  hits_most = omega (arith, hits-most_in sound t, most_in_most (length t) near)

  pub total_most : energy (hits ks t) ≤ most_total
  total_most =
      let charge : energy (hits ks t) ≤ most_energy * length (hits ks t) =
      energy_most (hits ks t) (λ h m. sound.figures h.keyword (hits_occur ks t h m).listed) in
      omega (arith, hits_most)
