-- What a reader may ask of the answers, said apart from how they are defined: of the hit list, which pairs are
-- occurrences and which of two comes first; of a scan, that its answer and its hit buffer come from that list; of a
-- table, that it is safe. Laws hold the definitions to it.
use Rattle.std.specs.Prelude.{ℕ, ◌+◌, ◌*◌, ◌≤◌, ◌<◌, ◌≡◌, ◌⊎◌, ◌↔◌, length, get_or, take, drop}
use mathlib.Core.List.{List, [], ◌∷◌, ◌++◌, Memᴰ}
use Rattle.rules.specs.sets.Limits.{row_record, depths, opcodes, byte_file_size}
use Rattle.rules.specs.sets.Sets.{Keyword}
use Rattle.rules.specs.rows.Rows.{backward, rows_of}
use Rattle.rules.specs.scans.Hits.{Hit, energy, hit_buffer}
use Rattle.rules.specs.skips.Skips.{inner, edge, far, suffix_rows, named}
use Rattle.rules.specs.skips.Runs.{inner_in, edge_in, far_in}
use Rattle.rules.specs.answers.Answers.{Told}

-- a keyword of the set stands in the trace t, and its last byte is the end'th
pub record Occurs (ks : List Keyword) (t : List ℕ) (h : Hit) : Type 0 where
  pub listed : Memᴰ h.keyword ks
  pub before : List ℕ
  pub behind : List ℕ
  pub stands : t ≡ before ++ h.keyword.word ++ behind
  pub ending : h.end ≡ length before + length h.keyword.word

-- by end, rising; at one end the longer keyword first
abbrev pub Before : Hit → Hit → Type 0
Before a b =
    (a.end < b.end) ⊎ ((a.end ≡ b.end) × (length b.keyword.word < length a.keyword.word))

-- R holds between each element and every later one: with Before, a list is in order and has nothing twice
pub data Ordered {A : Type 0} (R : A → A → Type 0) : List A → Type 0 where
  none : Ordered R []
  next : {a : A} {l : List A} → ((b : A) → Memᴰ b l → R a b) → Ordered R l → Ordered R (a ∷ l)

-- For a reader who doubts `hits`: a scan of the trace t answered a, and its hit buffer held hs before and hs' after.
-- All of it comes from one list of the occurrences, each of them and nothing else, in order. There is no second such
-- list (the law `occurrences-only`), so a buffer however short, without room for one pair too, leaves none of these
-- numbers open.
pub record Audited (ks : List Keyword) (t hs : List ℕ) (a : Told) (hs' : List ℕ) : Type 0 where
  pub found : List Hit
  -- in order, and so none twice
  pub ordered : Ordered Before found
  -- each is an occurrence, and each occurrence is one of them
  pub exactly : (h : Hit) → Memᴰ h found ↔ Occurs ks t h
  -- the answer counts them all, and sums the energy of all
  pub counted : a.count ≡ length found
  pub charged : a.energy ≡ energy found
  -- the buffer receives the first pairs that fit, none where it has no room for one, and the rest is unchanged
  pub listed : hs' ≡ hit_buffer found hs

-- a number that a file may hold
pub record Allowed (largest n : ℕ) : Type 0 where
  pub some : 1 ≤ n
  pub fits : n ≤ largest

-- A safe table: its files' sizes, each record's name, and each number from 1 to the largest.
pub record Accepted (ks : List Keyword) (rowf bytef : List ℕ) : Type 0 where
  pub row_size : length rowf ≡ row_record * length (rows_of backward ks)
  pub byte_size : length bytef ≡ byte_file_size
  pub names : (i : ℕ) → i < length (rows_of backward ks) → take 16 (drop (row_record * i) rowf) ≡ named (get_or (suffix_rows ks) i [])
  pub inners : (i : ℕ) → i < length (rows_of backward ks) → Allowed (inner ks (get_or (suffix_rows ks) i [])) (inner_in rowf i)
  pub edges : (i : ℕ) → i < length (rows_of backward ks) → Allowed (edge ks (get_or (suffix_rows ks) i [])) (edge_in rowf i)
  pub fars : (a z : ℕ) → a < opcodes → z < depths → Allowed (far ks a z) (far_in bytef a z)
