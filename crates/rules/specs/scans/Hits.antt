-- Occurrences, in the order of the hit list: by end, rising; at one end the longest keyword first.
use Rattle.std.specs.Prelude.{ℕ, ◌+◌, ◌/◌, length, take, drop}
use mathlib.Core.List.{List, [], ◌∷◌, ◌++◌, map, flat_map}
use Rattle.rules.specs.strings.Strings.{suffixes}
use Rattle.rules.specs.sets.Sets.{Keyword, keywords_that_are}

-- an occurrence: how many trace bytes stand up to and with the keyword's last, and the keyword
pub record Hit : Type 0 where
  pub end : ℕ
  pub keyword : Keyword

-- the keywords that end u, longest first
unfoldable pub ending_at : List Keyword → List ℕ → List Keyword
ending_at ks u = flat_map (λ s. keywords_that_are s ks) (suffixes u)

-- the hits at the end of u
unfoldable pub hits_at : List Keyword → List ℕ → List Hit
hits_at ks u = map (λ k. record { end = length u; keyword = k }) (ending_at ks u)

-- the hits at the ends in t, a part of the trace that stands behind u
unfoldable pub hits_after : List Keyword → List ℕ → List ℕ → List Hit
hits_after ks u [] = []
hits_after ks u (c ∷ t) = hits_at ks (u ++ (c ∷ [])) ++ hits_after ks (u ++ (c ∷ [])) t

-- the hits of a trace
unfoldable pub hits : List Keyword → List ℕ → List Hit
hits ks t = hits_after ks [] t

-- the sum of the keyword's figure over all occurrences
unfoldable pub energy : List Hit → ℕ
energy [] = 0
energy (h ∷ hs) = h.keyword.energy + energy hs

-- the pairs of numbers as they lie in a hit buffer
unfoldable pub pairs : List Hit → List ℕ
pairs [] = []
pairs (h ∷ hs) = h.end ∷ h.keyword.number ∷ pairs hs

-- new numbers over the front of a buffer, whose rest stays
unfoldable pub over : List ℕ → List ℕ → List ℕ
over new old = new ++ drop (length new) old

-- a hit buffer after a scan: the first pairs that fit
unfoldable pub hit_buffer : List Hit → List ℕ → List ℕ
hit_buffer hs old = over (pairs (take (length old / 2) hs)) old
