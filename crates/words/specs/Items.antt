-- The list of words: nineteen numbers a keyword, and the keywords that they say.
use Rattle.std.specs.Prelude.{ℕ, zero, suc, ◌+◌, ◌*◌, ◌/◌, ◌%◌, ◌≤◌, ◌<◌, ◌≡◌, List, [], ◌∷◌, ◌++◌, length, take, drop, get_or, set}
use Rattle.std.proofs.Math.Seq.{paste}
use Rattle.rules.specs.sets.Limits.{longest_word}
use Rattle.rules.specs.sets.Sets.{Keyword}
use Rattle.words.specs.declared.Word.{Word}

-- the numbers of a keyword
abbrev pub item_size : ℕ
item_size = 19

-- the keyword at place i of the list l: its number, its length, fifteen units, its energy in two halves, the low one
-- first
unfoldable pub item_at : List ℕ → ℕ → Keyword
item_at l i =
    record {
      number = get_or l (item_size * i) 0;
      word = take (get_or l (item_size * i + 1) 0) (drop (item_size * i + 2) l);
      energy = get_or l (item_size * i + 17) 0 + 65536 * get_or l (item_size * i + 18) 0;
    }

-- the first n keywords, and all that the list has room for
unfoldable pub items : ℕ → List ℕ → List Keyword
items zero l = []
items (suc n) l = items n l ++ (item_at l n ∷ [])

unfoldable pub keywords_in : List ℕ → List Keyword
keywords_in l = items (length l / item_size) l

-- the list has whole keywords alone, and none states a length that no keyword has
pub record Words (l : List ℕ) : Type 0 where
  pub whole : length l % item_size ≡ 0
  pub short : (i : ℕ) → i < length (keywords_in l) → get_or l (item_size * i + 1) 0 ≤ longest_word

-- and it has a keyword at place i
pub record Has (l : List ℕ) (i : ℕ) : Type 0 where
  pub words : Words l
  pub within : i < length (keywords_in l)
  pub room : item_size * i + item_size ≤ length l

-- the keyword that a value is
abbrev pub word_of : Word → Keyword
word_of w = record { number = w.number; word = take w.len w.units; energy = w.energy }

-- the list l with the numbers of a value at place i
unfoldable pub stored : List ℕ → ℕ → Word → List ℕ
stored l i w =
    let head = set (set l (item_size * i) w.number) (item_size * i + 1) w.len in
    let body = paste head (item_size * i + 2) w.units longest_word in
    set (set body (item_size * i + 17) (w.energy % 65536)) (item_size * i + 18) (w.energy / 65536)

-- so the keyword k is at place i, and nothing before it is changed
pub record Stored (l : List ℕ) (i : ℕ) (k : Keyword) (l' : List ℕ) : Type 0 where
  pub long : length l' ≡ length l
  pub front : take (item_size * i) l' ≡ take (item_size * i) l
  pub here : item_at l' i ≡ k
  pub short : get_or l' (item_size * i + 1) 0 ≤ longest_word

-- the list begins with the keywords ks
pub record Begins (l : List ℕ) (ks : List Keyword) : Type 0 where
  pub room : item_size * length ks ≤ length l
  pub held : items (length ks) l ≡ ks
  pub short : (i : ℕ) → i < length ks → get_or l (item_size * i + 1) 0 ≤ longest_word
