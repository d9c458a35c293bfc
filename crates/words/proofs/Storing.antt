-- A keyword's numbers are written behind one another, so its place says the keyword and nothing before it is changed.
use Prim.Native.Nat.{ℕ, zero, suc, ◌+◌, ◌-◌, ◌*◌, ◌/◌, ◌%◌, ◌≤◌, ◌<◌}
use native.Mathlib.Omega.{arith}
use mathlib.Core.Path.{◌≡◌, refl, sym, ◌∙◌, ap}
use mathlib.Core.List.{List, [], ◌∷◌, ◌++◌}
use lib.ListN.{length, take, drop, get_or, set, length-append, length-set, get_or-append}
use lib.Seq.{paste, length-paste, take-paste, take-take, take_all, take-set-le, take-append-le, drop_at, get_or-take, get_or-set_same, get_or-set_other, length-take-le}
use lib.Dec.{ltb}
use borrow.Author.Tests.{ltb-true, ltb-false}
use Rattle.rules.specs.sets.Limits.{longest_word}
use Rattle.rules.specs.sets.Sets.{Keyword}
use Rattle.rules.proofs.strings.Strings.{either}
use Rattle.rules.proofs.strings.Parts.{drop-take}
use Rattle.words.specs.Items.{item_size, item_at, items, keywords_in, Words, Stored, Begins}
use Rattle.words.proofs.Items.{length-keywords_in}

-- the numbers of a keyword, written one after the other
module _ (l : List ℕ) (i number len : ℕ) (units : List ℕ) (energy : ℕ) (room : item_size * i + item_size ≤ length l)
    (sized : length units ≡ longest_word) where
  head : List ℕ
  head = set (set l (item_size * i) number) (item_size * i + 1) len

  body : List ℕ
  body = paste (set (set l (item_size * i) number) (item_size * i + 1) len) (item_size * i + 2) units longest_word

  unfoldable pub written : List ℕ
  written =
      set (set (paste (set (set l (item_size * i) number) (item_size * i + 1) len) (item_size * i + 2) units longest_word) (item_size * i + 17) (energy % 65536))
      (item_size * i + 18)
      (energy / 65536)

  head-length : length head ≡ length l
  unfolding head
  head-length = simp length-set

  body-length : length body ≡ length l
  unfolding body head
  body-length = length-paste head (item_size * i + 2) units longest_word (omega (arith, head-length)) (omega arith) ∙ head-length

  pub written-length : length written ≡ length l
  unfolding written body
  written-length = simp length-set body-length

  -- all but the energy
  front : take (item_size * i + 17) written ≡ take (item_size * i + 2) head ++ units
  unfolding written body head
  front =
      let far : item_size * i + 17 ≡ item_size * i + 2 + longest_word = omega arith in
      take-set-le (item_size * i + 17) (set body (item_size * i + 17) (energy % 65536)) (item_size * i + 18) (energy / 65536) (omega arith)
      ∙ take-set-le (item_size * i + 17) body (item_size * i + 17) (energy % 65536) (omega arith)
      ∙ ap (λ (m : ℕ). take m body) far
      ∙ take-paste head (item_size * i + 2) units longest_word (omega (arith, head-length)) (omega arith)
      ∙ ap (λ (u : List ℕ). take (item_size * i + 2) head ++ u) (take_all longest_word units (omega arith))

  front_length : length (take (item_size * i + 2) head) ≡ item_size * i + 2
  front_length = length-take-le (item_size * i + 2) head (omega (arith, head-length))

  head_at : (j : ℕ) → j < item_size * i + 2 → get_or written j 0 ≡ get_or head j 0
  head_at j h =
      sym (get_or-take (item_size * i + 17) written j 0 (omega arith))
      ∙ ap (λ (k : List ℕ). get_or k j 0) front
      ∙ get_or-append (take (item_size * i + 2) head) units 0 j (omega (arith, front_length))
      ∙ get_or-take (item_size * i + 2) head j 0 h

  number_in : get_or written (item_size * i) 0 ≡ number
  unfolding head
  number_in =
      head_at (item_size * i) (omega arith)
      ∙ get_or-set_other (set l (item_size * i) number) (item_size * i + 1) (item_size * i) len 0 (omega arith)
      ∙ get_or-set_same l (item_size * i) number 0 (omega arith)

  length_in : get_or written (item_size * i + 1) 0 ≡ len
  unfolding head
  length_in =
      head_at (item_size * i + 1) (omega arith)
      ∙ get_or-set_same (set l (item_size * i) number) (item_size * i + 1) len 0 (simp length-set (omega arith))

  word_in : len ≤ longest_word → take len (drop (item_size * i + 2) written) ≡ take len units
  word_in short =
      let left : item_size * i + 17 - (item_size * i + 2) ≡ longest_word = omega arith in
      sym (take-take len longest_word (drop (item_size * i + 2) written) short)
      ∙ ap (take len)
      (ap (λ (n : ℕ). take n (drop (item_size * i + 2) written)) (sym left)
      ∙ sym (drop-take (item_size * i + 2) (item_size * i + 17) written)
      ∙ ap (drop (item_size * i + 2)) front
      ∙ drop_at (take (item_size * i + 2) head) units (item_size * i + 2) front_length)

  low_in : get_or written (item_size * i + 17) 0 ≡ energy % 65536
  unfolding written body
  low_in =
      get_or-set_other (set body (item_size * i + 17) (energy % 65536)) (item_size * i + 18) (item_size * i + 17) (energy / 65536) 0 (omega arith)
      ∙ get_or-set_same body (item_size * i + 17) (energy % 65536) 0 (omega (arith, body-length))

  high_in : get_or written (item_size * i + 18) 0 ≡ energy / 65536
  unfolding written body
  high_in =
      get_or-set_same (set body (item_size * i + 17) (energy % 65536)) (item_size * i + 18) (energy / 65536) 0
      (simp length-set (omega (arith, body-length)))

  before_in : take (item_size * i) written ≡ take (item_size * i) l
  unfolding head
  before_in =
      sym (take-take (item_size * i) (item_size * i + 17) written (omega arith))
      ∙ ap (take (item_size * i)) front
      ∙ take-append-le (item_size * i) (take (item_size * i + 2) head) units (omega (arith, front_length))
      ∙ take-take (item_size * i) (item_size * i + 2) head (omega arith)
      ∙ take-set-le (item_size * i) (set l (item_size * i) number) (item_size * i + 1) len (omega arith)
      ∙ take-set-le (item_size * i) l (item_size * i) number (omega arith)

  pub written_is : len ≤ longest_word → Stored l i (record { number = number; word = take len units; energy = energy }) written
  unfolding item_at
  written_is short =
      let sum : energy % 65536 + 65536 * (energy / 65536) ≡ energy = omega arith in
      record {
        long = written-length;
        front = before_in;
        here = rw (number_in, length_in, word_in short, low_in, high_in, sum);
        short = omega (arith, length_in);
      }

-- A list that begins with some keywords, with one more written behind them.
agree_at : (l l' : List ℕ) (n j : ℕ) → take n l' ≡ take n l → j < n → get_or l' j 0 ≡ get_or l j 0
agree_at l l' n j same q = sym (get_or-take n l' j 0 q) ∙ ap (λ (k : List ℕ). get_or k j 0) same ∙ get_or-take n l j 0 q

agree_item : (l l' : List ℕ) (n i : ℕ) → take (item_size * n) l' ≡ take (item_size * n) l → i < n
    → get_or l (item_size * i + 1) 0 ≤ longest_word
    → item_at l' i ≡ item_at l i
unfolding item_at
agree_item l l' n i same h short =
    let same_at : (j : ℕ) → j < item_size * n → get_or l' j 0 ≡ get_or l j 0 = λ j q. agree_at l l' (item_size * n) j same q in
    let m : ℕ = get_or l (item_size * i + 1) 0 in
    let left : ℕ = item_size * n - (item_size * i + 2) in
    let words : take m (drop (item_size * i + 2) l') ≡ take m (drop (item_size * i + 2) l) =
    sym (take-take m left (drop (item_size * i + 2) l') (omega arith))
    ∙ ap (take m) (sym (drop-take (item_size * i + 2) (item_size * n) l') ∙ ap (drop (item_size * i + 2)) same ∙ drop-take (item_size * i + 2) (item_size * n) l)
    ∙ take-take m left (drop (item_size * i + 2) l) (omega arith) in
    rw (
      same_at (item_size * i) (omega arith),
      same_at (item_size * i + 1) (omega arith),
      words,
      same_at (item_size * i + 17) (omega arith),
      same_at (item_size * i + 18) (omega arith),
    )

agree-items : (l l' : List ℕ) (n m : ℕ) → take (item_size * n) l' ≡ take (item_size * n) l → m ≤ n
    → ((i : ℕ) → i < m → get_or l (item_size * i + 1) 0 ≤ longest_word)
    → items m l' ≡ items m l
unfolding items
agree-items l l' n zero same h short = refl
agree-items l l' n (suc m) same h short =
    rw (
      agree-items l l' n m same (omega arith) (λ i q. short i (omega arith)),
      agree_item l l' n m same h (short m (omega arith)),
    )

pub begins_none : (l : List ℕ) → Begins l []
unfolding items
begins_none l = record { room = omega arith; held = refl; short = λ i h. absurd (omega arith) }

pub begins_more : {l l' : List ℕ} {ks : List Keyword} {k : Keyword} {i : ℕ}
    → length ks ≡ i
    → Begins l ks
    → item_size * i + item_size ≤ length l
    → Stored l i k l'
    → Begins l' (ks ++ (k ∷ []))
unfolding items
begins_more {l} {l'} {ks} {k} {i} count so room written =
    let long : length (ks ++ (k ∷ [])) ≡ suc i = omega (arith, length-append ks (k ∷ [])) in
    let old : items i l' ≡ ks =
    agree-items l l' i i written.front (omega arith) (λ j q. so.short j (omega arith)) ∙ rw count at so.held in
    record {
      room = omega (arith, written.long);
      held = rw (long, old, written.here);
      short =
          λ j q.
          either (ltb j i)
          (λ t.
          let below : j < i = ltb-true j i t in
          rw (agree_at l l' (item_size * i) (item_size * j + 1) written.front (omega arith)) (so.short j (omega arith)))
          (λ f.
          let last : j ≡ i = omega (arith, ltb-false j i f) in
          rw last written.short);
    }

-- the part of it that they take
pub begins_cut : {l : List ℕ} {ks : List Keyword} (n : ℕ) → n ≡ length ks → Begins l ks → Words (take (item_size * n) l) × (keywords_in (take (item_size * n) l) ≡ ks)
unfolding keywords_in
begins_cut {l} {ks} n count so =
    let size : length (take (item_size * n) l) ≡ item_size * n = length-take-le (item_size * n) l (omega (arith, so.room)) in
    let many : length (take (item_size * n) l) / item_size ≡ n = omega arith in
    let again : take (item_size * n) (take (item_size * n) l) ≡ take (item_size * n) l =
    take-take (item_size * n) (item_size * n) l (omega arith) in
    let same : items n (take (item_size * n) l) ≡ items n l =
    agree-items l (take (item_size * n) l) n n again (omega arith) (λ i q. so.short i (omega arith)) in (
      record {
        whole = omega arith;
        short =
            λ i q.
            rw (agree_at l (take (item_size * n) l) (item_size * n) (item_size * i + 1) again (omega (arith, length-keywords_in (take (item_size * n) l))))
            (so.short i (omega (arith, length-keywords_in (take (item_size * n) l))));
      },
      rw (many, same, count) so.held,
    )
