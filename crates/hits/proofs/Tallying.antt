-- One hit more is counted and charged, and listed where the buffer has room: by the laws of the hit buffer.
use Prim.Native.Nat.{ℕ, ◌+◌, ◌*◌, ◌/◌, ◌≤◌, ◌<◌}
use native.Mathlib.Omega.{arith}
use mathlib.Core.Path.{◌≡◌, refl, sym, ◌∙◌, ap}
use mathlib.Core.List.{List, [], ◌∷◌, ◌++◌, Memᴰ}
use lib.ListN.{length, set, length-append}
use Rattle.rules.specs.sets.Limits.{most_energy}
use Rattle.rules.specs.sets.Sets.{Keyword}
use Rattle.rules.specs.scans.Hits.{Hit, energy, hit_buffer}
use Rattle.rules.specs.Beside.{Sound, nth, numbered}
use Rattle.rules.proofs.scans.Hits.{energy-append}
use Rattle.rules.proofs.rows.KeyNumbers.{numbered_is}
use Rattle.rules.proofs.scans.Buffers.{hit_buffer_none, hit_buffer_more, hit_buffer_full, hit_buffer-length}
use Rattle.words.specs.Items.{keywords_in}
use Rattle.hits.specs.declared.Tally.{Tally}
use Rattle.hits.specs.Tallies.{Tallied, Hitting, hit_of}

-- nothing found
pub tallied_none : (old : List ℕ) → Tallied [] old (record { count = 0; energy = 0; listed = 0 }) old
unfolding energy
tallied_none old = record { counted = refl; charged = refl; listed = omega arith; buffer = sym (hit_buffer_none old) }

-- the buffer is as long as it was
pub tallied-length : {done : List Hit} {old : List ℕ} {tally : Tally} {hs : List ℕ} → Tallied done old tally hs → length hs ≡ length old
tallied-length {done} {old} tallied = ap length tallied.buffer ∙ hit_buffer-length done old

-- one hit more, h, that r has counted and charged
module _ {done : List Hit} {old : List ℕ} {tally : Tally} {hs : List ℕ} (tallied : Tallied done old tally hs)
    (h : Hit) (r : Tally) (count : r.count ≡ tally.count + 1) (charge : r.energy ≡ tally.energy + h.keyword.energy) where
  size : length hs ≡ length old
  size = tallied-length tallied

  counts : r.count ≡ length (done ++ (h ∷ []))
  counts = omega (arith, tallied.counted, length-append done (h ∷ []))

  charges : r.energy ≡ energy (done ++ (h ∷ []))
  unfolding energy
  charges = omega (arith, tallied.charged, energy-append done (h ∷ []))

  -- it was written behind the others
  pub tallied_more : {hs' : List ℕ}
      → tally.listed < length hs / 2
      → r.listed ≡ tally.listed + 1
      → hs' ≡ set (set hs (2 * tally.listed) h.end) (2 * tally.listed + 1) h.keyword.number
      → Tallied (done ++ (h ∷ [])) old r hs'
  tallied_more {hs'} room more stored =
      let all : tally.listed ≡ length done = omega (arith, tallied.listed, size) in
      let free : length done < length old / 2 = omega (arith, size) in
      let before : hs ≡ hit_buffer done old = tallied.buffer in
      record {
        counted = counts;
        charged = charges;
        listed = omega (arith, length-append done (h ∷ []));
        buffer = cc (hit_buffer_more done h old free);
      }

  -- there was no room
  pub tallied_full : {hs' : List ℕ} → length hs / 2 ≤ tally.listed → r.listed ≡ tally.listed → hs' ≡ hs → Tallied (done ++ (h ∷ [])) old r hs'
  tallied_full full same kept =
      let none : length old / 2 ≤ length done = omega (arith, tallied.listed, size) in
      record {
        counted = counts;
        charged = charges;
        listed = omega (arith, tallied.listed, size, length-append done (h ∷ []));
        buffer = kept ∙ tallied.buffer ∙ sym (hit_buffer_full done (h ∷ []) old none);
      }

-- what is known of the keyword that is hit
module _ {l : List ℕ} {end n : ℕ} {done : List Hit} {old : List ℕ} {tally : Tally} {hs : List ℕ} (sound : Sound (keywords_in l))
    (so : Hitting l end n done old tally hs) where
  is : numbered (keywords_in l) n ≡ so.named.0
  is = ap (numbered (keywords_in l)) (sym so.named.2) ∙ numbered_is sound.numbered so.named.1

  pub hitting-named : (hit_of (keywords_in l) end n).keyword.number ≡ n
  unfolding hit_of
  hitting-named = ap (λ (k : Keyword). k.number) is ∙ so.named.2

  pub hitting_figure : (hit_of (keywords_in l) end n).keyword.energy ≤ most_energy
  unfolding hit_of
  hitting_figure = rw is (sound.figures so.named.0 so.named.1)

  pub hitting_charged : (i : ℕ) {energy : ℕ}
      → energy ≡ (nth (keywords_in l) i).energy
      → ((k : Keyword) → Memᴰ k (keywords_in l) → k.number ≡ n → nth (keywords_in l) i ≡ k)
      → energy ≡ (hit_of (keywords_in l) end n).keyword.energy
  unfolding hit_of
  hitting_charged i e place =
      let here = place so.named.0 so.named.1 so.named.2 in
      e ∙ rw (here, is)
