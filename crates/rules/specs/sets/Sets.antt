-- Files and numbers: a keyword set's records, and what they say.
use Rattle.std.specs.Prelude.{ℕ, zero, suc, ◌+◌, ◌*◌, ◌/◌, min, Bool, List, [], ◌∷◌, length, take, drop, get_or}
use Rattle.rules.specs.sets.Limits.{record_size}
use Rattle.rules.specs.strings.Strings.{same, any, keep}

-- a keyword: its number, its bytes and its energy in picojoules
pub record Keyword : Type 0 where
  pub number : ℕ
  pub word : List ℕ
  pub energy : ℕ

-- the keyword that a record states: length, fifteen places, energy with the low byte first
unfoldable pub keyword_of : ℕ → List ℕ → Keyword
keyword_of i r =
    record {
      number = i;
      word = take (get_or r 0 0) (drop 1 r);
      energy = get_or r 16 0 + 256 * get_or r 17 0 + 65536 * get_or r 18 0 + 16777216 * get_or r 19 0;
    }

-- the first n keywords of a set, numbered from i
unfoldable pub keywords_from : ℕ → ℕ → List ℕ → List Keyword
keywords_from i zero s = []
keywords_from i (suc n) s = keyword_of i (take record_size s) ∷ keywords_from (suc i) n (drop record_size s)

-- the keywords of a set, in file order
unfoldable pub keywords : List ℕ → List Keyword
keywords s = keywords_from 0 (length s / record_size) s

-- the shortest keyword's length
unfoldable pub shortest : List Keyword → ℕ
shortest [] = 0
shortest (k ∷ []) = length k.word
shortest (k ∷ l ∷ ks) = min (length k.word) (shortest (l ∷ ks))

-- the keywords whose bytes are s, and whether there is one
unfoldable pub keywords_that_are : List ℕ → List Keyword → List Keyword
keywords_that_are s ks = keep (λ (k : Keyword). same k.word s) ks

unfoldable pub is_keyword : List Keyword → List ℕ → Bool
is_keyword ks s = any (λ (k : Keyword). same k.word s) ks
