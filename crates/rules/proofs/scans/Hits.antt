-- The hit list is the audit's: each part of the trace up to an end gives the keywords that end it, longest first, and
-- the ends rise; and an order that never holds both ways leaves no other list.
use Prim.Native.Nat.{ℕ, zero, suc, ◌+◌, ◌*◌, ◌≤◌, ◌<◌, min}
use native.Mathlib.Omega.{arith}
use native.Mathlib.Nat.{not-suc-le-zero}
use mathlib.Core.Path.{◌≡◌, refl, sym, ◌∙◌, ap}
use mathlib.Core.Logic.{◌⊎◌, inl, inr, ◌↔◌}
use mathlib.Core.List.Memᴰ
use mathlib.Core.List.{List, [], ◌∷◌, ◌++◌, append_assoc, append-nil, Memᴰ}
use lib.ListN.{length, get_or, length-append, length-map}
use Rattle.rules.specs.sets.Limits.{longest_word, most_energy}
use Rattle.rules.specs.strings.Strings.{same, suffixes}
use Rattle.rules.specs.sets.Sets.{Keyword, keywords_that_are}
use Rattle.rules.specs.scans.Hits.{Hit, ending_at, hits_at, hits_after, hits, energy, pairs}
use Rattle.rules.specs.scans.Audit.{Occurs, Before, Ordered, none, next}
use Rattle.rules.specs.Beside.{Sound}
use Rattle.rules.proofs.strings.Strings.{same_true, eq-same, suffixes-append, suffixes_mem, keep_mem, mem-keep}
use Rattle.rules.proofs.strings.Orders.{flat_map_mem, mem-flat_map, ordered_weaken, ordered-append, ordered-map, ordered-flat_map, ordered-keep, ordered_once, ordered-only, falling_few}

-- the keywords that are s, and those that end u
pub that_are_mem : (s : List ℕ) (ks : List Keyword) {k : Keyword} → Memᴰ k (keywords_that_are s ks) → Memᴰ k ks × (k.word ≡ s)
unfolding keywords_that_are
that_are_mem s ks {k} m =
    let w = keep_mem (λ (k : Keyword). same k.word s) ks m in
    (w.0, same_true k.word s w.1)

pub mem_that_are : (s : List ℕ) {ks : List Keyword} {k : Keyword} → Memᴰ k ks → k.word ≡ s → Memᴰ k (keywords_that_are s ks)
unfolding keywords_that_are
mem_that_are s {k = k} m e = mem-keep (λ (k : Keyword). same k.word s) m (eq-same k.word s e)

pub ending_at_mem : (ks : List Keyword) (u : List ℕ) {k : Keyword} → Memᴰ k (ending_at ks u) → Memᴰ k ks × ((r : List ℕ) × (u ≡ r ++ k.word))
unfolding ending_at
ending_at_mem ks u {k} m =
    let w = flat_map_mem (λ s. keywords_that_are s ks) (suffixes u) m in
    let v = that_are_mem w.0 ks w.2 in
    let x = suffixes_mem u w.0 w.1 in
    (v.0, (x.0, x.1 ∙ ap (λ (l : List ℕ). x.0 ++ l) (sym v.1)))

pub mem-ending_at : {ks : List Keyword} {k : Keyword} → Memᴰ k ks → (u r : List ℕ) → u ≡ r ++ k.word → Memᴰ k (ending_at ks u)
unfolding ending_at
mem-ending_at {ks} {k} m u r e =
    rw e
    (mem-flat_map (λ s. keywords_that_are s ks) (suffixes-append r k.word) (mem_that_are k.word m refl))

-- hits at one end
pub hits_at_mem : (ks : List Keyword) (u : List ℕ) {h : Hit} → Memᴰ h (hits_at ks u) → (h.end ≡ length u) × Memᴰ h.keyword (ending_at ks u)
unfolding hits_at
hits_at_mem ks u {h} m =
    let w = Memᴰ.of_map (λ k. record { end = length u; keyword = k }) (ending_at ks u) m in
    let e : h.end ≡ length u = ap (λ (g : Hit). g.end) (sym w.2) in
    let q : h.keyword ≡ w.0 = ap (λ (g : Hit). g.keyword) (sym w.2) in
    (e, Memᴰ.cast q w.1)

pub mem-hits_at : (ks : List Keyword) (u : List ℕ) {h : Hit} → h.end ≡ length u → Memᴰ h.keyword (ending_at ks u) → Memᴰ h (hits_at ks u)
unfolding hits_at
mem-hits_at ks u {h} e m =
    Memᴰ.cast (λ i. record { end = e i; keyword = h.keyword })
    (Memᴰ.map (λ k. record { end = length u; keyword = k }) m)

-- hits behind u: how far the trace is read is the witness
pub hits_after_mem : (ks : List Keyword) (u t : List ℕ) {h : Hit}
    → Memᴰ h (hits_after ks u t)
    → (a : List ℕ) × (b : List ℕ) × (1 ≤ length a) × (t ≡ a ++ b) × Memᴰ h (hits_at ks (u ++ a))
unfolding hits_after
hits_after_mem ks u [] m = absurd (Memᴰ.not-nil m)
hits_after_mem ks u (c ∷ t) {h} m =
    go (Memᴰ.append_cases (hits_at ks (u ++ (c ∷ []))) m) (hits_after_mem ks (u ++ (c ∷ [])) t)
  where
    go : Memᴰ h (hits_at ks (u ++ (c ∷ []))) ⊎ Memᴰ h (hits_after ks (u ++ (c ∷ [])) t)
        → (Memᴰ h (hits_after ks (u ++ (c ∷ [])) t) → (a : List ℕ) × (b : List ℕ) × (1 ≤ length a) × (t ≡ a ++ b) × Memᴰ h (hits_at ks (u ++ (c ∷ []) ++ a)))
        → (a : List ℕ) × (b : List ℕ) × (1 ≤ length a) × (c ∷ t ≡ a ++ b) × Memᴰ h (hits_at ks (u ++ a))
    go (inl m') below = (c ∷ [], t, omega arith, refl, m')
    go (inr m') below =
        let w = below m' in
        (c ∷ w.0, w.1, omega arith, ap (λ (l : List ℕ). c ∷ l) w.3, rw append_assoc at w.4)

pub mem-hits_after : (ks : List Keyword) (u a b : List ℕ) {h : Hit} → 1 ≤ length a → Memᴰ h (hits_at ks (u ++ a)) → Memᴰ h (hits_after ks u (a ++ b))
unfolding hits_after
mem-hits_after ks u [] b some m = absurd (not-suc-le-zero some)
mem-hits_after ks u (c ∷ []) b some m = Memᴰ.append_left (hits_after ks (u ++ (c ∷ [])) b) m
mem-hits_after ks u (c ∷ d ∷ a) b some m =
    Memᴰ.append_right (hits_at ks (u ++ (c ∷ []))) (mem-hits_after ks (u ++ (c ∷ [])) (d ∷ a) b (omega arith) (rw append_assoc m))

pub hits_after_later : (ks : List Keyword) (u t : List ℕ) {h : Hit} → Memᴰ h (hits_after ks u t) → length u < h.end
hits_after_later ks u t m =
    let w = hits_after_mem ks u t m in
    omega (arith, w.2, length-append u w.0, (hits_at_mem ks (u ++ w.0) w.4).0)

-- the hits are the occurrences
pub hits_occur : (ks : List Keyword) (t : List ℕ) (h : Hit) → Memᴰ h (hits ks t) → Occurs ks t h
unfolding hits
hits_occur ks t h m =
    let w = hits_after_mem ks [] t m in
    let at = hits_at_mem ks w.0 w.4 in
    let k = ending_at_mem ks w.0 at.1 in
    record {
      listed = k.0;
      before = k.1.0;
      behind = w.1;
      stands = w.3 ∙ ap (λ (l : List ℕ). l ++ w.1) k.1.1;
      ending = at.0 ∙ ap length k.1.1 ∙ length-append k.1.0 h.keyword.word;
    }

pub occurs_hit : (ks : List Keyword) → ((k : Keyword) → Memᴰ k ks → 1 ≤ length k.word) → (t : List ℕ) (h : Hit) → Occurs ks t h → Memᴰ h (hits ks t)
unfolding hits
occurs_hit ks filled t h o =
    let seen : List ℕ = o.before ++ h.keyword.word in
    let size : length seen ≡ length o.before + length h.keyword.word = length-append o.before h.keyword.word in
    rw o.stands
    (mem-hits_after ks [] seen o.behind (omega (arith, filled h.keyword o.listed))
    (mem-hits_at ks seen (o.ending ∙ sym size) (mem-ending_at o.listed seen o.before refl)))

pub hits_exact : {ks : List Keyword} → Sound ks → (t : List ℕ) (h : Hit) → Memᴰ h (hits ks t) ↔ Occurs ks t h
hits_exact {ks} sound t h = (hits_occur ks t h, occurs_hit ks sound.filled t h)

-- the order: longer suffixes first, hence longer keywords
suffixes_ordered : (u : List ℕ) → Ordered (λ (a b : List ℕ). length b < length a) (suffixes u)
unfolding suffixes
suffixes_ordered [] = next (λ b m. absurd (Memᴰ.not-nil m)) none
suffixes_ordered (x ∷ u) =
    next {a = x ∷ u}
    (λ b m.
    let w = suffixes_mem u b m in
    omega (arith, ap length w.1, length-append w.0 b))
    (suffixes_ordered u)

pub ending_at_ordered : {ks : List Keyword} → Sound ks → (u : List ℕ) → Ordered (λ (k l : Keyword). length l.word < length k.word) (ending_at ks u)
unfolding ending_at keywords_that_are
ending_at_ordered {ks} sound u =
    ordered-flat_map (λ s. keywords_that_are s ks)
    (λ s m.
    ordered_weaken (λ a b m m' apart. absurd (apart ((that_are_mem s ks m).1 ∙ sym (that_are_mem s ks m').1)))
    (ordered-keep (λ (k : Keyword). same k.word s) sound.distinct))
    (ordered_weaken (λ a b m m' longer c d n n'. omega (arith, ap length (that_are_mem a ks n).1, ap length (that_are_mem b ks n').1))
    (suffixes_ordered u))

pub hits_at_ordered : {ks : List Keyword} → Sound ks → (u : List ℕ) → Ordered Before (hits_at ks u)
unfolding hits_at
hits_at_ordered sound u =
    ordered-map (λ k. record { end = length u; keyword = k })
    (ordered_weaken (λ a b m m' longer. inr (refl, longer)) (ending_at_ordered sound u))

pub hits_after_ordered : {ks : List Keyword} → Sound ks → (u t : List ℕ) → Ordered Before (hits_after ks u t)
unfolding hits_after
hits_after_ordered sound u [] = none
hits_after_ordered {ks} sound u (c ∷ t) =
    ordered-append (hits_at_ordered sound (u ++ (c ∷ []))) (hits_after_ordered sound (u ++ (c ∷ [])) t)
    (λ a b m m'.
    let here : a.end ≡ length (u ++ (c ∷ [])) = (hits_at_mem ks (u ++ (c ∷ [])) m).0 in
    let later : length (u ++ (c ∷ [])) < b.end = hits_after_later ks (u ++ (c ∷ [])) t m' in
    inl (omega arith))

pub hits_ordered : {ks : List Keyword} → Sound ks → (t : List ℕ) → Ordered Before (hits ks t)
unfolding hits
hits_ordered sound t = hits_after_ordered sound [] t

-- no two hits are each before the other: so each hit stands once, and no other list has the occurrences in that order
before-apart : (g h : Hit) → Before g h → Before h g → ⊥
before-apart g h (inl p) (inl q) = omega arith
before-apart g h (inl p) (inr q) = omega arith
before-apart g h (inr p) (inl q) = omega arith
before-apart g h (inr p) (inr q) = omega arith

pub hits_once : {ks : List Keyword} → Sound ks → (t : List ℕ) (d : Hit) (i j : ℕ) → i < j → j < length (hits ks t) → get_or (hits ks t) i d ≡ get_or (hits ks t) j d → ⊥
hits_once sound t d i j h k e = ordered_once (λ h b. before-apart h h b b) (hits_ordered sound t) d i j h k e

pub occurrences-only : {ks : List Keyword} {t : List ℕ} {k l : List Hit}
    → Ordered Before k
    → ((h : Hit) → Memᴰ h k ↔ Occurs ks t h)
    → Ordered Before l
    → ((h : Hit) → Memᴰ h l ↔ Occurs ks t h)
    → k ≡ l
occurrences-only o one p two =
    ordered-only before-apart o p (λ h m. (two h).1 ((one h).0 m)) (λ h m. (one h).1 ((two h).0 m))

pub hits-only : {ks : List Keyword} → Sound ks → (t : List ℕ) {l : List Hit}
    → Ordered Before l
    → ((h : Hit) → Memᴰ h l ↔ Occurs ks t h)
    → l ≡ hits ks t
hits-only sound t o exactly = occurrences-only o exactly (hits_ordered sound t) (hits_exact sound t)

-- one part of the trace after another, and one byte more
pub hits-append : (ks : List Keyword) (u a b : List ℕ) → hits_after ks u (a ++ b) ≡ hits_after ks u a ++ hits_after ks (u ++ a) b
unfolding hits_after
hits-append ks u [] b = rw append-nil
hits-append ks u (c ∷ a) b = rw (hits-append ks (u ++ (c ∷ [])) a b) (simp append_assoc)

pub hits_snoc : (ks : List Keyword) (u : List ℕ) (c : ℕ) → hits ks (u ++ (c ∷ [])) ≡ hits ks u ++ hits_at ks (u ++ (c ∷ []))
unfolding hits hits_after
hits_snoc ks u c = hits-append ks [] u (c ∷ []) ∙ rw append-nil

-- energies and pairs
pub energy-append : (a b : List Hit) → energy (a ++ b) ≡ energy a + energy b
unfolding energy
energy-append [] b = omega arith
energy-append (h ∷ a) b = omega (arith, energy-append a b)

pub pairs-append : (a b : List Hit) → pairs (a ++ b) ≡ pairs a ++ pairs b
unfolding pairs
pairs-append [] b = refl
pairs-append (h ∷ a) b = rw (pairs-append a b)

pub pairs-length : (hs : List Hit) → length (pairs hs) ≡ 2 * length hs
unfolding pairs
pairs-length [] = refl
pairs-length (h ∷ hs) = omega (arith, pairs-length hs)

-- How many there are at most: at one end one for each length that a keyword has, and none longer than what was read.
-- So in the first n bytes:
unfoldable pub most_in : ℕ → ℕ
most_in zero = 0
most_in (suc n) = min (suc n) longest_word + most_in n

pub most_in_few : (n : ℕ) → most_in n ≤ longest_word * n
unfolding most_in
most_in_few zero = omega arith
most_in_few (suc n) = omega (arith, most_in_few n)

module _ {ks : List Keyword} (sound : Sound ks) where
  ending_at_most : (u : List ℕ) → length (ending_at ks u) ≤ min (length u) longest_word
  ending_at_most u =
      falling_few (λ (k : Keyword). length k.word) (min (length u) longest_word) (ending_at_ordered sound u)
      (λ k m. sound.filled k (ending_at_mem ks u m).0)
      (λ k m.
      let w = ending_at_mem ks u m in
      omega (arith, sound.short k w.0, ap length w.1.1, length-append w.1.0 k.word))

  hits_at_most : (u : List ℕ) → length (hits_at ks u) ≤ min (length u) longest_word
  unfolding hits_at
  hits_at_most u = rw length-map (ending_at_most u)

  hits_after_most : (u t : List ℕ) (n : ℕ)
      → n ≡ length u + length t
      → length (hits_after ks u t) + most_in (length u) ≤ most_in n
  unfolding hits_after most_in
  hits_after_most u [] n e =
      let all : length u ≡ n = omega arith in
      omega (arith, ap most_in all)
  hits_after_most u (c ∷ t) n e =
      let v : List ℕ = u ++ (c ∷ []) in
      let long : length v ≡ suc (length u) = omega (arith, length-append u (c ∷ [])) in
      let below = hits_after_most v t n (omega (arith, long)) in
      omega (arith, below, ap most_in long, length-append (hits_at ks v) (hits_after ks v t), hits_at_most v)

  pub hits-most_in : (t : List ℕ) → length (hits ks t) ≤ most_in (length t)
  unfolding hits most_in
  hits-most_in t = omega (arith, hits_after_most [] t (length t) (omega arith))

  pub hits_few : (t : List ℕ) → length (hits ks t) ≤ longest_word * length t
  hits_few t = omega (arith, hits-most_in t, most_in_few (length t))

pub energy_most : (hs : List Hit) → ((h : Hit) → Memᴰ h hs → h.keyword.energy ≤ most_energy) → energy hs ≤ most_energy * length hs
unfolding energy
energy_most [] each = omega arith
energy_most (h ∷ hs) each =
    omega (arith, each h (Memᴰ.head refl), energy_most hs (λ g m. each g (Memᴰ.tail m)))
