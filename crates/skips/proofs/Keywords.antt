-- Of a set that passed its tests each keyword stands in the list, is short and is made of bytes; so are its suffixes.
use Prim.Native.Nat.{ℕ, ◌+◌, ◌-◌, ◌≤◌, ◌<◌}
use native.Mathlib.Omega.{arith}
use mathlib.Core.Path.{◌≡◌}
use mathlib.Core.List.{List, Memᴰ}
use lib.ListN.{length, get_or, length-drop}
use lib.Seq.{get_or-drop}
use Rattle.rules.specs.sets.Limits.{longest_word, opcodes}
use Rattle.rules.specs.sets.Sets.{Keyword}
use Rattle.rules.specs.Beside.{no_keyword, nth}
use Rattle.rules.proofs.strings.Orders.{get_or_mem}
use Rattle.words.specs.Items.{Words, Has, keywords_in}
use Rattle.words.proofs.Items.{has_at}
use Rattle.skips.specs.Fars.{Bytes}
use Rattle.skips.specs.Suffixes.{Listed, Suffix, suffix_at}

-- a keyword of a set that passed: its length and its bytes
module _ {ks : List Keyword} {i : ℕ} (ok : Listed ks i) where
  listed_mem : Memᴰ (nth ks i) ks
  listed_mem = get_or_mem ks no_keyword i ok.within

  pub listed_short : length (nth ks i).word ≤ longest_word
  listed_short = ok.sound.short (nth ks i) listed_mem

  pub listed_byte : (k : ℕ) → k < length (nth ks i).word → get_or (nth ks i).word k 0 < opcodes
  listed_byte k h = ok.sound.bytes (nth ks i) listed_mem (get_or (nth ks i).word k 0) (get_or_mem (nth ks i).word 0 k h)

  pub listed_bytes : Bytes (nth ks i).word
  listed_bytes = record { short = listed_short; small = listed_byte }

-- where a list of words holds the keywords, it has this one
pub listed_has : {l : List ℕ} {i : ℕ} → Words l → Listed (keywords_in l) i → Has l i
listed_has words ok = has_at words ok.within

-- the last z bytes of a keyword
module _ {ks : List Keyword} {i z : ℕ} (ok : Suffix ks i z) where
  pub suffix-length : length (suffix_at ks i z) ≡ z
  unfolding suffix_at
  suffix-length = omega (arith, ok.short, length-drop (length (nth ks i).word - z) (nth ks i).word)

  pub suffix_short : z ≤ longest_word
  suffix_short = omega (arith, ok.short, listed_short ok.listed)

  pub suffix_byte : (k : ℕ) → k < z → get_or (suffix_at ks i z) k 0 < opcodes
  unfolding suffix_at
  suffix_byte k h =
      let w : List ℕ = (nth ks i).word in
      let last : length w - z + k < length w = omega (arith, ok.short) in
      rw (get_or-drop (length w - z) w k 0) (listed_byte ok.listed (length w - z + k) last)
