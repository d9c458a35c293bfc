-- Each number of a keyword stands at its place in the list, so what the list says of a keyword is read off those
-- places.
use Prim.Native.Nat.{ℕ, zero, suc, ◌+◌, ◌*◌, ◌/◌, ◌<◌}
use native.Mathlib.Omega.{arith}
use mathlib.Core.Path.{◌≡◌, refl, ◌∙◌, ap}
use mathlib.Core.List.{List, [], ◌∷◌}
use lib.ListN.{length, take, drop, get_or, length-append, get_or-append}
use lib.Seq.{get_or_at}
use lib.Dec.{ltb}
use borrow.Author.Tests.{ltb-true, ltb-false}
use Rattle.rules.specs.sets.Sets.{Keyword}
use Rattle.rules.specs.Beside.{no_keyword, nth}
use Rattle.rules.proofs.strings.Strings.{either}
use Rattle.words.specs.Items.{item_size, item_at, items, keywords_in, Words, Has}

-- the first n keywords, one by one
pub length-items : (n : ℕ) (l : List ℕ) → length (items n l) ≡ n
unfolding items
length-items zero l = refl
length-items (suc n) l = omega (arith, length-append (items n l) (item_at l n ∷ []), length-items n l)

pub get_or-items : (n : ℕ) (l : List ℕ) (d : Keyword) (i : ℕ) → i < n → get_or (items n l) i d ≡ item_at l i
unfolding items
get_or-items zero l d i h = absurd (omega arith)
get_or-items (suc n) l d i h =
    either (ltb i n)
    (λ t.
    let below : i < n = ltb-true i n t in
    get_or-append (items n l) (item_at l n ∷ []) d i (omega (arith, length-items n l)) ∙ get_or-items n l d i below)
    (λ f.
    let last : i ≡ n = omega (arith, ltb-false i n f) in
    rw last (get_or_at (items n l) (item_at l n) [] d n (length-items n l)))

-- all keywords of a list
pub length-keywords_in : (l : List ℕ) → length (keywords_in l) ≡ length l / item_size
unfolding keywords_in
length-keywords_in l = length-items (length l / item_size) l

pub nth_is : (l : List ℕ) (i : ℕ) → i < length (keywords_in l) → nth (keywords_in l) i ≡ item_at l i
unfolding keywords_in
nth_is l i h = get_or-items (length l / item_size) l no_keyword i (omega (arith, length-keywords_in l))

pub has_at : {l : List ℕ} {i : ℕ} → Words l → i < length (keywords_in l) → Has l i
has_at {l} words h = record { words = words; within = h; room = omega (arith, length-keywords_in l) }

-- the keyword at a place: its numbers in the list
module _ {l : List ℕ} {i : ℕ} (has : Has l i) where
  pub number_at : (nth (keywords_in l) i).number ≡ get_or l (item_size * i) 0
  unfolding item_at
  number_at = ap (λ (k : Keyword). k.number) (nth_is l i has.within)

  pub energy_at : (nth (keywords_in l) i).energy ≡ get_or l (item_size * i + 17) 0 + 65536 * get_or l (item_size * i + 18) 0
  unfolding item_at
  energy_at = ap (λ (k : Keyword). k.energy) (nth_is l i has.within)

  pub word_is : (nth (keywords_in l) i).word ≡ take (get_or l (item_size * i + 1) 0) (drop (item_size * i + 2) l)
  unfolding item_at
  word_is = ap (λ (k : Keyword). k.word) (nth_is l i has.within)
