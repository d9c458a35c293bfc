-- The largest safe skips, and the two files that hold skips.
use Rattle.std.specs.Prelude.{ℕ, zero, suc, ◌+◌, ◌-◌, Bool, ◌&&◌, ◌||◌, cond, length, take, replicate, leb}
use mathlib.Core.List.{List, [], ◌∷◌, ◌++◌, map, flat_map, reverse}
use Rattle.rules.specs.sets.Limits.{longest_word, depths, opcodes}
use Rattle.rules.specs.strings.Strings.{ends, any}
use Rattle.rules.specs.sets.Sets.{Keyword, shortest}
use Rattle.rules.specs.rows.Rows.{backward, rows_of}

-- the least of n, n + 1, .. that passes, the left'th after n where none before it does
unfoldable pub least_from : ℕ → ℕ → (ℕ → Bool) → ℕ
least_from zero n p = n
least_from (suc left) n p = cond (p n) n (least_from left (suc n) p)

-- the least from 1 up that passes, capped at m
unfoldable pub least : ℕ → (ℕ → Bool) → ℕ
least m p = least_from (m - 1) 1 p

-- w has v with exactly n bytes after it
unfoldable pub holds_before : List ℕ → ℕ → List ℕ → Bool
holds_before v n w = leb n (length w) && ends v (take (length w - n) w)

-- some string made of v and n further bytes ends with w: w is no longer than n, or what stands before its last n bytes
-- ends v
unfoldable pub ends_within : List ℕ → ℕ → List ℕ → Bool
ends_within v n w = leb (length w) n || ends (take (length w - n) w) v

-- some keyword has v with exactly n bytes after it; inner is the least such n from 1 up, capped
abbrev pub inner_test : List Keyword → List ℕ → ℕ → Bool
inner_test ks v n = any (λ (k : Keyword). holds_before v n k.word) ks

unfoldable pub inner : List Keyword → List ℕ → ℕ
inner ks v = least (shortest ks) (inner_test ks v)

-- some string made of v and n further bytes ends with a keyword; edge is the least such n from 1 up, capped
abbrev pub edge_test : List Keyword → List ℕ → ℕ → Bool
edge_test ks v n = any (λ (k : Keyword). ends_within v n k.word) ks

unfoldable pub edge : List Keyword → List ℕ → ℕ
edge ks v = least (shortest ks) (edge_test ks v)

-- some keyword has the byte a with exactly z + n bytes after it; far is the least such n from 1 up, capped
abbrev pub far_test : List Keyword → ℕ → ℕ → ℕ → Bool
far_test ks a z n = any (λ (k : Keyword). holds_before (a ∷ []) (z + n) k.word) ks

unfoldable pub far : List Keyword → ℕ → ℕ → ℕ
far ks a z = least (shortest ks) (far_test ks a z)

-- the suffixes that the backward rows stand for, in trace order
unfoldable pub suffix_rows : List Keyword → List (List ℕ)
suffix_rows ks = map reverse (rows_of backward ks)

-- n, n + 1, .. : k numbers
unfoldable pub count : ℕ → ℕ → List ℕ
count n zero = []
count n (suc k) = n ∷ count (suc n) k

-- a suffix in its sixteen places: its length, its bytes in trace order, zeros behind
unfoldable pub named : List ℕ → List ℕ
named v = length v ∷ v ++ replicate (longest_word - length v) 0

-- a row's record with the largest numbers
unfoldable pub record_of : List Keyword → List ℕ → List ℕ
record_of ks v = named v ++ (inner ks v ∷ edge ks v ∷ [])

-- the files that hold the largest numbers
unfoldable pub row_file : List Keyword → List ℕ
row_file ks = flat_map (record_of ks) (suffix_rows ks)

unfoldable pub byte_file : List Keyword → List ℕ
byte_file ks = flat_map (λ a. map (far ks a) (count 0 depths)) (count 0 opcodes)
