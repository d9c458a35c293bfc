-- A set that passed is good because each of its records passed its own tests, taken one record at a time.
use Prim.Native.Nat.{ℕ, zero, suc, ◌+◌, ◌-◌, ◌*◌, ◌/◌, ◌%◌, ◌≤◌, ◌<◌}
use mathlib.Core.Path.{◌≡◌, refl, sym, ◌∙◌, ap}
use mathlib.Core.Logic.{⊎_elim}
use mathlib.Core.Bool.{true, false, not, ◌||◌}
use mathlib.Core.List.Memᴰ
use mathlib.Core.List.{List, [], ◌∷◌, ◌++◌, append-nil, Memᴰ}
use lib.ListN.{length, take, drop, get_or, length-take, length-drop, take-append-drop}
use lib.Seq.{drop-drop, append_snoc}
use lib.Dec.{eqb, ltb}
use native.Mathlib.Nat.{zero-add, add-zero, suc-add}
use native.Mathlib.Numerals.{add-one}
use native.Mathlib.Omega.{arith}
use borrow.Author.Tests.{ltb-false, eqb-true, eqb-false, not-false}
use Rattle.rules.specs.sets.Limits.{record_size, longest_word, most_keywords, opcodes}
use Rattle.rules.specs.strings.Strings.{same, any}
use Rattle.rules.specs.sets.Sets.{Keyword, keyword_of, keywords_from, keywords, is_keyword}
use Rattle.rules.specs.answers.Refusals.{Verdict, pass, refuse, or_else, record_verdict, record_verdicts, file_verdict}
use Rattle.rules.specs.scans.Audit.{Ordered, none, next}
use Rattle.rules.specs.Beside.{Sound, record_at, keyword_at}
use Rattle.rules.proofs.strings.Strings.{never, any_mem, eq-same, or_fails_left, or_fails_right}
use Rattle.rules.proofs.strings.Orders.{mem_at}
use Rattle.rules.proofs.answers.Verdicts.{or_else_pass, pass-or_else, refuse-or_else, or_else_assoc, or_else_right, refuse_if_pass}

-- the records behind m more
drop-records : (m : ℕ) (s : List ℕ) → drop (record_size * m) (drop record_size s) ≡ drop (record_size * suc m) s
drop-records m s =
    let more : record_size + record_size * m ≡ record_size * suc m = omega arith in
    drop-drop (record_size * m) record_size s ∙ rw more

-- The keywords, one record at a time.
pub length-keywords_from : (i n : ℕ) (s : List ℕ) → length (keywords_from i n s) ≡ n
unfolding keywords_from
length-keywords_from i zero s = refl
length-keywords_from i (suc n) s = ap suc (length-keywords_from (suc i) n (drop record_size s))

pub keywords_from-append : (i m n : ℕ) (s : List ℕ) → keywords_from i (m + n) s ≡ keywords_from i m s ++ keywords_from (i + m) n (drop (record_size * m) s)
unfolding keywords_from
keywords_from-append i zero n s = rw (zero-add, add-zero)
keywords_from-append i (suc m) n s =
    let place : suc i + m ≡ i + suc m = omega arith in
    rw (suc-add, ← place, ← drop-records m s, keywords_from-append (suc i) m n (drop record_size s))

pub keywords_from_snoc : (i n : ℕ) (s : List ℕ) → keywords_from i (suc n) s ≡ keywords_from i n s ++ (keyword_of (i + n) (record_at s n) ∷ [])
unfolding keywords_from record_at
keywords_from_snoc i n s = ap (λ m. keywords_from i m s) (sym (add-one n)) ∙ keywords_from-append i n 1 s

pub keywords_more : (n : ℕ) (s : List ℕ) → keywords_from 0 (suc n) s ≡ keywords_from 0 n s ++ (keyword_at s n ∷ [])
unfolding keyword_at
keywords_more n s = keywords_from_snoc 0 n s ∙ rw zero-add

pub get_or-keywords_from : (i n : ℕ) (s : List ℕ) (d : Keyword) (j : ℕ) → j < n → get_or (keywords_from i n s) j d ≡ keyword_of (i + j) (record_at s j)
unfolding keywords_from record_at
get_or-keywords_from i zero s d j h = absurd (omega arith)
get_or-keywords_from i (suc n) s d zero h = rw add-zero
get_or-keywords_from i (suc n) s d (suc j) h =
    let place : suc i + j ≡ i + suc j = omega arith in
    rw (← place, ← drop-records j s, get_or-keywords_from (suc i) n (drop record_size s) d j (omega arith))

-- The verdicts, one record at a time.
pub record_verdicts-append : (m n i : ℕ) (ks : List Keyword) (s : List ℕ) → record_verdicts (m + n) i ks s ≡ or_else (record_verdicts m i ks s) (record_verdicts n (i + m) (ks ++ keywords_from i m s) (drop (record_size * m) s))
unfolding record_verdicts keywords_from
record_verdicts-append zero n i ks s = rw (zero-add, add-zero, append-nil, pass-or_else)
record_verdicts-append (suc m) n i ks s =
    let place : suc i + m ≡ i + suc m = omega arith in
    let r : List ℕ = take record_size s in
    rw (
      suc-add,
      ← place,
      ← drop-records m s,
      or_else_assoc,
      record_verdicts-append m n (suc i) (ks ++ (keyword_of i r ∷ [])) (drop record_size s),
      append_snoc,
    )

-- the verdict of the record n, behind the keywords before it
abbrev pub verdict_at : ℕ → List ℕ → Verdict
verdict_at n s = record_verdict n (keywords_from 0 n s) (record_at s n)

pub record_verdicts_snoc : (n : ℕ) (s : List ℕ) → record_verdicts (suc n) 0 [] s ≡ or_else (record_verdicts n 0 [] s) (verdict_at n s)
unfolding record_verdicts record_at
record_verdicts_snoc n s =
    ap (λ m. record_verdicts m 0 [] s) (sym (add-one n))
    ∙ record_verdicts-append n 1 0 [] s
    ∙ rw (or_else_right, zero-add)

-- the first m records are tested before the others
record_verdicts-front : (m n : ℕ) (s : List ℕ) → m ≤ n → (w : Verdict) × (record_verdicts n 0 [] s ≡ or_else (record_verdicts m 0 [] s) w)
record_verdicts-front m n s h =
    let whole : n ≡ m + (n - m) = omega arith in
    (_, ap (λ k. record_verdicts k 0 [] s) whole ∙ record_verdicts-append m (n - m) 0 [] s)

-- one record more that passes; the first that is refused; the first of those that passed, and each of them
pub records_next : (n : ℕ) (s : List ℕ) → record_verdicts n 0 [] s ≡ pass → verdict_at n s ≡ pass → record_verdicts (suc n) 0 [] s ≡ pass
records_next n s p q = record_verdicts_snoc n s ∙ pass-or_else (verdict_at n s) p ∙ q

pub records_refused : {number place : ℕ} (m n : ℕ) (s : List ℕ) → m < n → record_verdicts m 0 [] s ≡ pass → verdict_at m s ≡ refuse number place → record_verdicts n 0 [] s ≡ refuse number place
records_refused m n s h p q =
    let front = record_verdicts-front (suc m) n s h in
    front.1 ∙ refuse-or_else front.0 (record_verdicts_snoc m s ∙ pass-or_else (verdict_at m s) p ∙ q)

pub records-front : (m n : ℕ) (s : List ℕ) → m ≤ n → record_verdicts n 0 [] s ≡ pass → record_verdicts m 0 [] s ≡ pass
records-front m n s h p =
    let front = record_verdicts-front m n s h in
    (or_else_pass (record_verdicts m 0 [] s) front.0 (sym front.1 ∙ p)).0

pub records_passed : (m n : ℕ) (s : List ℕ) → m < n → record_verdicts n 0 [] s ≡ pass → verdict_at m s ≡ pass
records_passed m n s h p =
    let these = records-front (suc m) n s h p in
    (or_else_pass (record_verdicts m 0 [] s) (verdict_at m s) (sym (record_verdicts_snoc m s) ∙ these)).1

-- What a record that passed is.
pub record RecordPassed (i : ℕ) (ks : List Keyword) (r : List ℕ) : Type 0 where
  pub filled : 1 ≤ get_or r 0 0
  pub short : get_or r 0 0 ≤ longest_word
  pub padded : any (λ b. not (eqb b 0)) (take (longest_word - get_or r 0 0) (drop (1 + get_or r 0 0) r)) ≡ false
  pub new : is_keyword ks (keyword_of i r).word ≡ false

pub record_passed : (i : ℕ) (ks : List Keyword) (r : List ℕ) → record_verdict i ks r ≡ pass → RecordPassed i ks r
unfolding record_verdict
record_passed i ks r p =
    let a = or_else_pass _ _ p in
    let b = or_else_pass _ _ a.1 in
    let wide = refuse_if_pass {b = eqb (get_or r 0 0) 0 || ltb longest_word (get_or r 0 0)} 4 i a.0 in
    let zero-free : eqb (get_or r 0 0) 0 ≡ false = or_fails_left (eqb (get_or r 0 0) 0) (ltb longest_word (get_or r 0 0)) wide in
    let fits : ltb longest_word (get_or r 0 0) ≡ false = or_fails_right (eqb (get_or r 0 0) 0) (ltb longest_word (get_or r 0 0)) wide in
    record {
      filled = omega (arith, eqb-false (get_or r 0 0) 0 zero-free);
      short = ltb-false longest_word (get_or r 0 0) fits;
      padded = refuse_if_pass _ _ b.0;
      new = refuse_if_pass _ _ b.1;
    }

-- What a file that passed is.
pub record FilePassed (s : List ℕ) : Type 0 where
  pub filled : 1 ≤ length s
  pub whole : length s % record_size ≡ 0
  pub few : length s / record_size ≤ most_keywords
  pub records : record_verdicts (length s / record_size) 0 [] s ≡ pass

pub file_passed : (s : List ℕ) → file_verdict s ≡ pass → FilePassed s
unfolding file_verdict
file_passed s p =
    let a = or_else_pass _ _ p in
    let b = or_else_pass _ _ a.1 in
    let c = or_else_pass _ _ b.1 in
    let any-bytes : eqb (length s) 0 ≡ false = refuse_if_pass _ _ a.0 in
    let no_part : not (eqb (length s % record_size) 0) ≡ false = refuse_if_pass _ _ b.0 in
    record {
      filled = omega (arith, eqb-false (length s) 0 any-bytes);
      whole = eqb-true (length s % record_size) 0 (not-false (eqb (length s % record_size) 0) no_part);
      few = ltb-false most_keywords (length s / record_size) (refuse_if_pass _ _ c.0);
      records = c.1;
    }

pub length-keywords : (s : List ℕ) → length (keywords s) ≡ length s / record_size
unfolding keywords
length-keywords s = length-keywords_from 0 (length s / record_size) s

pub get_or-keywords : (s : List ℕ) (d : Keyword) (i : ℕ) → i < length s / record_size → get_or (keywords s) i d ≡ keyword_at s i
unfolding keywords keyword_at
get_or-keywords s d i h = get_or-keywords_from 0 (length s / record_size) s d i h ∙ rw zero-add

-- a keyword of the set is some record's
pub keywords_mem : {k : Keyword} (s : List ℕ) → Memᴰ k (keywords s) → (i : ℕ) × (i < length s / record_size) × (k ≡ keyword_at s i)
keywords_mem {k} s m =
    let w = mem_at m in
    let within : w.0 < length s / record_size = omega (arith, w.1, length-keywords s) in
    (w.0, within, sym (w.2 k) ∙ get_or-keywords s k w.0 within)

pub length-record_at : (s : List ℕ) (i : ℕ) → i < length s / record_size → length (record_at s i) ≡ record_size
unfolding record_at
length-record_at s i h = simp (length-take, length-drop) (omega arith)

-- No two words are the same: no record repeats an earlier keyword.
abbrev Apart : Keyword → Keyword → Type 0
Apart k l = k.word ≡ l.word → ⊥

is_keyword_mem : {k : Keyword} {ks : List Keyword} {w : List ℕ} → Memᴰ k ks → k.word ≡ w → is_keyword ks w ≡ true
unfolding is_keyword
is_keyword_mem {k} {w = w} m e = any_mem (λ (k : Keyword). same k.word w) m (eq-same k.word w e)

-- n records from the i'th on, among each other and from the keywords ks before them
apart : (n i : ℕ) (ks : List Keyword) (s : List ℕ) → record_verdicts n i ks s ≡ pass → Ordered Apart (keywords_from i n s) × ((k l : Keyword) → Memᴰ k ks → Memᴰ l (keywords_from i n s) → Apart k l)
unfolding record_verdicts keywords_from
apart zero i ks s p = (none, λ k l m m' e. absurd (Memᴰ.not-nil m'))
apart (suc n) i ks s p =
    let r : List ℕ = take record_size s in
    let here : Keyword = keyword_of i r in
    let two = or_else_pass (record_verdict i ks r) (record_verdicts n (suc i) (ks ++ (here ∷ [])) (drop record_size s)) p in
    let new : is_keyword ks here.word ≡ false = (record_passed i ks r two.0).new in
    let below = apart n (suc i) (ks ++ (here ∷ [])) (drop record_size s) two.1 in (
      next (λ l m. below.1 here l (Memᴰ.append_right ks (Memᴰ.head refl)) m) below.0,
      λ k l m m' e.
          ⊎_elim (λ (q : l ≡ here). never (is_keyword_mem m (e ∙ ap (λ (x : Keyword). x.word) q)) new)
          (λ m''. below.1 k l (Memᴰ.append_left (here ∷ []) m) m'' e)
          (Memᴰ.cases_cons m'),
    )

-- Numbers rise with the records.
rising : (i n : ℕ) (s : List ℕ)
    → Ordered (λ (k l : Keyword). k.number < l.number) (keywords_from i n s) × ((k : Keyword) → Memᴰ k (keywords_from i n s) → i ≤ k.number)
unfolding keywords_from keyword_of
rising i zero s = (none, λ k m. absurd (Memᴰ.not-nil m))
rising i (suc n) s =
    let below = rising (suc i) n (drop record_size s) in (
      next {a = keyword_of i (take record_size s)} (λ l m. omega (arith, below.1 l m)) below.0,
      λ k m.
          ⊎_elim (λ e. rw e (omega arith)) (λ m'. omega (arith, below.1 k m')) (Memᴰ.cases_cons m),
    )

-- Bytes: a part of the set has no others, and a place beyond its end reads as 0.
mem-take : {b : ℕ} (n : ℕ) (s : List ℕ) → Memᴰ b (take n s) → Memᴰ b s
mem-take n s m = rw (take-append-drop n s) at (Memᴰ.append_left (drop n s) m)

mem-drop : {b : ℕ} (n : ℕ) (s : List ℕ) → Memᴰ b (drop n s) → Memᴰ b s
mem-drop n s m = rw (take-append-drop n s) at (Memᴰ.append_right (take n s) m)

below-get_or : (s : List ℕ) (i : ℕ) → ((b : ℕ) → Memᴰ b s → b < opcodes) → get_or s i 0 < opcodes
below-get_or [] i h = omega arith
below-get_or (x ∷ s) zero h = h x (Memᴰ.head refl)
below-get_or (x ∷ s) (suc i) h = below-get_or s i (λ b m. h b (Memᴰ.tail m))

-- what holds of each record's keyword holds of each keyword
pub keywords_each : (P : Keyword → Type 0) (s : List ℕ) → ((i : ℕ) → i < length s / record_size → P (keyword_at s i)) → (k : Keyword) → Memᴰ k (keywords s) → P k
keywords_each P s f k m = let w = keywords_mem s m in rw w.2 (f w.0 w.1)

pub length-word : (i : ℕ) (r : List ℕ) → length r ≡ record_size → get_or r 0 0 ≤ longest_word → length (keyword_of i r).word ≡ get_or r 0 0
unfolding keyword_of
length-word i r e h = simp (length-take, length-drop) (omega arith)

module _ (s : List ℕ) (v : file_verdict s ≡ pass) where
  good : (i : ℕ) → i < length s / record_size → RecordPassed i (keywords_from 0 i s) (record_at s i)
  good i h =
      record_passed i (keywords_from 0 i s) (record_at s i) (records_passed i (length s / record_size) s h (file_passed s v).records)

  measured : (i : ℕ) → i < length s / record_size → length (keyword_at s i).word ≡ get_or (record_at s i) 0 0
  unfolding keyword_at
  measured i h = length-word i (record_at s i) (length-record_at s i h) (good i h).short

  -- few keywords, each short, whatever the numbers of the set are
  pub file_few : length (keywords s) ≤ most_keywords
  file_few = omega (arith, (file_passed s v).few, length-keywords s)

  pub file_short : (k : Keyword) → Memᴰ k (keywords s) → length k.word ≤ longest_word
  file_short = keywords_each (λ (k : Keyword). length k.word ≤ longest_word) s (λ i h. rw (measured i h) (good i h).short)

pub file_sound : (s : List ℕ) → ((b : ℕ) → Memᴰ b s → b < opcodes) → file_verdict s ≡ pass → Sound (keywords s)
unfolding keyword_of keyword_at record_at keywords
file_sound s small v =
    record {
      some = omega (arith, p.whole, p.filled, length-keywords s);
      few = file_few s v;
      filled = keywords_each _ s (λ i h. rw (measured s v i h) (good s v i h).filled);
      short = file_short s v;
      bytes = keywords_each _ s (λ i h b m. small_at i b (mem-drop 1 (record_at s i) (mem-take (get_or (record_at s i) 0 0) (drop 1 (record_at s i)) m)));
      distinct = (apart (length s / record_size) 0 [] s p.records).0;
      numbered = (rising 0 (length s / record_size) s).0;
      slots = keywords_each _ s (λ i h. omega (arith, p.few));
      figures =
          keywords_each _ s
          (λ i h.
          let below : (k : ℕ) → get_or (record_at s i) k 0 < opcodes = λ k. below-get_or (record_at s i) k (small_at i) in
          omega (arith, below 16, below 17, below 18, below 19));
    }
  where
    p : FilePassed s
    p = file_passed s v

    small_at : (i b : ℕ) → Memᴰ b (record_at s i) → b < opcodes
    small_at i b m = small b (mem-drop (record_size * i) s (mem-take record_size (drop (record_size * i) s) m))
