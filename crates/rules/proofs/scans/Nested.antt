-- Some set and trace reach the most that a scan can count and charge: fifteen keywords of one byte's repetitions, each
-- with the most energy, and a trace of that byte alone. What fifteen bytes have is computed, and each byte more has
-- fifteen hits more.
use Prim.Native.Nat.{ℕ, zero, suc, ◌+◌, ◌*◌, ◌≤◌}
use native.Mathlib.Omega.{arith}
use mathlib.Core.Path.{◌≡◌, refl, sym, ◌∙◌, ap}
use mathlib.Core.Bool.{Bool, true, false, not}
use mathlib.Core.List.{List, [], ◌∷◌, ◌++◌, flat_map, Memᴰ}
use lib.ListN.{length, replicate, length-append, length-map, length-replicate, replicate-append-replicate}
use lib.Dec.{eqb, ltb}
use borrow.Author.Tests.{eqb-true, ltb-true, not-false}
use Rattle.rules.specs.sets.Limits.{longest_word, most_energy, longest_trace, most_hits, most_total, opcodes}
use Rattle.rules.specs.strings.Strings.{same, suffixes, any, keep}
use Rattle.rules.specs.sets.Sets.{Keyword, keyword_of, keywords_from, keywords, keywords_that_are, is_keyword}
use Rattle.rules.specs.scans.Hits.{Hit, ending_at, hits_at, hits_after, hits, energy}
use Rattle.rules.specs.skips.Skips.{named}
use Rattle.rules.specs.answers.Refusals.{pass, refuse_if, or_else, record_verdict, record_verdicts, file_verdict}
use Rattle.rules.specs.answers.Answers.{low_first}
use Rattle.rules.specs.Beside.{Sound}
use Rattle.rules.specs.Cases.{A, keyword_record}
use Rattle.rules.proofs.strings.Strings.{never, fails, any_mem}
use Rattle.rules.proofs.sets.Sets.{file_sound}
use Rattle.rules.proofs.scans.Hits.{hits_occur, hits_snoc}
use Rattle.rules.proofs.scans.Totals.{hits_most}

-- The set of A, AA and so on up to fifteen times A, each with the most energy, and a trace of nothing but A.
unfoldable repeats : ℕ → List ℕ
repeats zero = []
repeats (suc n) = repeats n ++ keyword_record (replicate (suc n) A) most_energy

unfoldable nested : List ℕ
nested = repeats longest_word

unfoldable only : ℕ → List ℕ
only n = replicate n A

only_more : (n : ℕ) → only (suc n) ≡ only n ++ (A ∷ [])
unfolding only
only_more n =
    let next : suc n ≡ n + 1 = omega arith in
    ap (λ (m : ℕ). replicate m A) next ∙ sym (replicate-append-replicate n 1 A)

nested_passes : file_verdict nested ≡ pass
unfolding same any keep keyword_of keywords_that_are is_keyword refuse_if or_else record_verdict record_verdicts file_verdict low_first named keyword_record repeats nested
nested_passes = refl

-- nothing in it is out of bounds
nested_small : any (λ b. not (ltb b opcodes)) nested ≡ false
unfolding any low_first named keyword_record repeats nested
nested_small = refl

nested_dear : any (λ (k : Keyword). not (eqb k.energy most_energy)) (keywords nested) ≡ false
unfolding any keyword_of keywords_from keywords low_first named keyword_record repeats nested
nested_dear = refl

-- fifteen bytes have 120 hits
nested-hits : length (hits (keywords nested) (only 15)) ≡ 120
unfolding flat_map same suffixes keep keyword_of keywords_from keywords keywords_that_are ending_at hits_at hits_after hits low_first named keyword_record repeats nested only
nested-hits = refl

nested_endings : length (ending_at (keywords nested) (only 15)) ≡ 15
unfolding flat_map same suffixes keep keyword_of keywords_from keywords keywords_that_are ending_at low_first named keyword_record repeats nested only
nested_endings = refl

-- each end has at least the endings of the one before it, so fifteen from there on
endings_rise : (ks : List Keyword) (n : ℕ) → length (ending_at ks (only n)) ≤ length (ending_at ks (only (suc n)))
unfolding ending_at flat_map suffixes only
endings_rise ks n =
    omega (arith, length-append (keywords_that_are (A ∷ only n) ks) (flat_map (λ s. keywords_that_are s ks) (suffixes (only n))))

nested_fifteen : (n : ℕ) → longest_word ≤ length (ending_at (keywords nested) (only (n + 15)))
nested_fifteen zero = omega (arith, nested_endings)
nested_fifteen (suc n) =
    let next : suc n + 15 ≡ suc (n + 15) = omega arith in
    rw next (omega (arith, nested_fifteen n, endings_rise (keywords nested) (n + 15)))

-- so each byte more has fifteen hits more
hits_more : (ks : List Keyword) (n : ℕ)
    → length (hits ks (only (suc n))) ≡ length (hits ks (only n)) + length (ending_at ks (only (suc n)))
unfolding hits_at
hits_more ks n = rw (only_more n, hits_snoc ks (only n) A, length-append, length-map)

nested_many : (n : ℕ) → 120 + longest_word * n ≤ length (hits (keywords nested) (only (n + 15)))
nested_many zero = omega (arith, nested-hits)
nested_many (suc n) =
    let next : suc n + 15 ≡ suc (n + 15) = omega arith in
    let here : longest_word ≤ length (ending_at (keywords nested) (only (suc (n + 15)))) =
    rw next at (nested_fifteen (suc n)) in
    rw next (omega (arith, here, nested_many n, hits_more (keywords nested) (n + 15)))

-- each of them passes where a search for one that does not finds none
all_pass : {A : Type 0} (p : A → Bool) {l : List A} {a : A}
    → any (λ b. not (p b)) l ≡ false
    → Memᴰ a l
    → p a ≡ true
all_pass p {a = a} none m = not-false (p a) (fails (not (p a)) (λ yes. never (any_mem (λ b. not (p b)) m yes) none))

nested_sound : Sound (keywords nested)
nested_sound =
    file_sound nested (λ b m. ltb-true b opcodes (all_pass (λ b. ltb b opcodes) nested_small m)) nested_passes

nested_most : (k : Keyword) → Memᴰ k (keywords nested) → k.energy ≡ most_energy
nested_most k m = eqb-true k.energy most_energy (all_pass (λ (k : Keyword). eqb k.energy most_energy) nested_dear m)

energy-same : (hs : List Hit)
    → ((h : Hit) → Memᴰ h hs → h.keyword.energy ≡ most_energy)
    → energy hs ≡ most_energy * length hs
unfolding energy
energy-same [] each = omega arith
energy-same (h ∷ hs) each = omega (arith, each h (Memᴰ.head refl), energy-same hs (λ g m. each g (Memᴰ.tail m)))

only-length : (n : ℕ) → length (only n) ≡ n
unfolding only
only-length n = length-replicate n A

nested-count : length (hits (keywords nested) (only longest_trace)) ≡ most_hits
nested-count =
    let near : length (only longest_trace) ≤ longest_trace = omega (arith, only-length longest_trace) in
    omega (arith, nested_many 1048561, hits_most nested_sound (only longest_trace) near)

nested-total : energy (hits (keywords nested) (only longest_trace)) ≡ most_total
nested-total =
    let hs : List Hit = hits (keywords nested) (only longest_trace) in
    let each : (h : Hit) → Memᴰ h hs → h.keyword.energy ≡ most_energy =
    λ h m. nested_most h.keyword (hits_occur (keywords nested) (only longest_trace) h m).listed in
    omega (arith, energy-same hs each, nested-count)

-- some set that passes and some trace of the longest length have that many hits, and that much energy
pub totals_reached : (s : List ℕ)
    × (t : List ℕ)
    × (file_verdict s ≡ pass)
    × (length t ≡ longest_trace)
    × (length (hits (keywords s) t) ≡ most_hits)
    × (energy (hits (keywords s) t) ≡ most_total)
totals_reached = (nested, only longest_trace, nested_passes, only-length longest_trace, nested-count, nested-total)
