-- A window reads the longest row before its end: it goes on while the string read is a row, and every front of a row
-- is one.
use Prim.Native.Nat.{ℕ, suc, ◌≤◌}
use native.Mathlib.Omega.{arith}
use mathlib.Core.Path.{◌≡◌, refl, sym, ◌∙◌, ap}
use mathlib.Core.Bool.{Bool, true, false, cond}
use mathlib.Core.List.{List, [], ◌∷◌, ◌++◌, flat_map, reverse, reverse-cons, reverse-append, reverse-reverse, append_assoc, append-nil, Memᴰ}
use lib.ListN.{length, take, length-reverse}
use Rattle.rules.specs.sets.Limits.{longest_word}
use Rattle.rules.specs.strings.Strings.{same, suffixes, any, ends, keep}
use Rattle.rules.specs.sets.Sets.{Keyword, keywords_that_are}
use Rattle.rules.specs.rows.Rows.{backward, read_by, prefixes, rows_of}
use Rattle.rules.specs.scans.Hits.{ending_at}
use Rattle.rules.specs.skips.Runs.{Window, Stop, start, missing, window_from, window_at, asked_of, asked, entered}
use Rattle.rules.specs.Beside.{Sound}
use Rattle.rules.proofs.strings.Strings.{never, fails, same_true, ends_by}
use Rattle.rules.proofs.rows.PrefixRows.{filled_rows, row_short}
use Rattle.rules.proofs.rows.Rows.{starts_closed, keyword-starts, prefixes_snoc, root_row, rowed_rows}
use Rattle.rules.proofs.skips.Skips.{stop_of}

-- What a window w is that began with s read, before it the bytes `before`, nearest first: some of them are read and the
-- others are left, the string read is a row, and with the first byte left it is none.
pub record Reading (rows : List (List ℕ)) (s before : List ℕ) (w : Window) : Type 0 where
  pub got : List ℕ
  pub left : List ℕ
  pub split : before ≡ got ++ left
  pub reads : w.read ≡ s ++ got
  pub stops : w.stop ≡ stop_of left
  pub row : any (same w.read) rows ≡ true
  pub childless : (c : ℕ) → w.stop ≡ missing c → any (same (w.read ++ (c ∷ []))) rows ≡ false

pub reading : (rows : List (List ℕ)) (s before : List ℕ) → any (same s) rows ≡ true → Reading rows s before (window_from rows s before)
unfolding window_from stop_of
reading rows s [] h =
    record {
      got = [];
      left = [];
      split = refl;
      reads = sym (append-nil s);
      stops = refl;
      row = h;
      childless = λ c e. cc;
    }
reading rows s (c ∷ before) h = go (any (same (s ++ (c ∷ []))) rows) refl (reading rows (s ++ (c ∷ [])) before)
  where
    go : (t : Bool)
        → any (same (s ++ (c ∷ []))) rows ≡ t
        → (any (same (s ++ (c ∷ []))) rows ≡ true → Reading rows (s ++ (c ∷ [])) before (window_from rows (s ++ (c ∷ [])) before))
        → Reading rows s (c ∷ before) (cond t (window_from rows (s ++ (c ∷ [])) before) (record { read = s; stop = missing c }))
    go true q below =
        let r = below q in
        record {
          got = c ∷ r.got;
          left = r.left;
          split = ap (λ (l : List ℕ). c ∷ l) r.split;
          reads = r.reads ∙ append_assoc s (c ∷ []) r.got;
          stops = r.stops;
          row = r.row;
          childless = r.childless;
        }
    go false q below =
        record {
          got = [];
          left = c ∷ before;
          split = refl;
          reads = sym (append-nil s);
          stops = refl;
          row = h;
          childless = λ b e. let at : c ≡ b = cc in rw (← at) q;
        }

-- a keyword that goes on behind a row needs the row's child
pub row_needed : {ks : List Keyword} → Sound ks → {k : Keyword} → Memᴰ k ks → (s : List ℕ) (c : ℕ) (more : List ℕ)
    → reverse k.word ≡ s ++ (c ∷ more)
    → any (same (s ++ (c ∷ []))) (rows_of backward ks) ≡ true
unfolding read_by
row_needed {ks} sound {k} listed s c more e =
    let whole : s ++ (c ∷ []) ++ more ≡ reverse k.word = append_assoc s (c ∷ []) more ∙ sym e in
    filled_rows backward ks sound.some (s ++ (c ∷ []))
    ∙ starts_closed backward ks (s ++ (c ∷ [])) more (rw whole (keyword-starts backward ks k listed))

-- a window byte by byte: it goes on to a child, or it stops
pub window_more : (rows : List (List ℕ)) (s : List ℕ) (c : ℕ) (before : List ℕ) → any (same (s ++ (c ∷ []))) rows ≡ true
    → window_from rows s (c ∷ before) ≡ window_from rows (s ++ (c ∷ [])) before
unfolding window_from
window_more rows s c before h = rw h

pub window_stop : (rows : List (List ℕ)) (s : List ℕ) (c : ℕ) (before : List ℕ) → any (same (s ++ (c ∷ []))) rows ≡ false
    → window_from rows s (c ∷ before) ≡ record { read = s; stop = missing c }
unfolding window_from
window_stop rows s c before h = rw h

-- the window at an end
pub window_reading : (ks : List Keyword) (t : List ℕ) (e : ℕ)
    → Reading (rows_of backward ks) [] (reverse (take e t)) (window_at (rows_of backward ks) t e)
unfolding window_at
window_reading ks t e = reading (rows_of backward ks) [] (reverse (take e t)) (root_row (rowed_rows backward ks))

pub window_short : {ks : List Keyword} → Sound ks → (t : List ℕ) (e : ℕ) → length (window_at (rows_of backward ks) t e).read ≤ longest_word
window_short {ks} sound t e = row_short backward sound (window_at (rows_of backward ks) t e).read (window_reading ks t e).row

pub asked_few : {ks : List Keyword} → Sound ks → (t : List ℕ) (e : ℕ) → asked (window_at (rows_of backward ks) t e) ≤ suc longest_word
unfolding asked asked_of
asked_few {ks} sound t e =
    let w : Window = window_at (rows_of backward ks) t e in
    go (length w.read) w.stop (window_short sound t e)
  where
    go : (n : ℕ) (stop : Stop) → n ≤ longest_word → asked_of n stop ≤ suc longest_word
    go n start h = omega arith
    go n (missing c) h = omega arith

-- The keywords that end x ++ v end v, where none that ends it is longer than v; and where none ends a string its list
-- is empty.
none_are : (s : List ℕ) (ks : List Keyword) → ((k : Keyword) → Memᴰ k ks → k.word ≡ s → ⊥) → keywords_that_are s ks ≡ []
unfolding keywords_that_are keep
none_are s [] h = refl
none_are s (k ∷ ks) h =
    let here : same k.word s ≡ false = fails (same k.word s) (λ t. h k (Memᴰ.head refl) (same_true k.word s t)) in
    rw here (none_are s ks (λ l m. h l (Memᴰ.tail m)))

ending_behind : (ks : List Keyword) (x v : List ℕ)
    → ((z : List ℕ) (a : ℕ) (y : List ℕ) → x ≡ z ++ (a ∷ y) → (k : Keyword) → Memᴰ k ks → k.word ≡ (a ∷ y) ++ v → ⊥)
    → ending_at ks (x ++ v) ≡ ending_at ks v
unfolding ending_at suffixes flat_map
ending_behind ks [] v h = refl
ending_behind ks (a ∷ x) v h =
    rw (none_are (a ∷ x ++ v) ks (h [] a x refl))
    (ending_behind ks x v (λ z b y e. h (a ∷ z) b y (ap (λ (l : List ℕ). a ∷ l) e)))

pub ending_none : (ks : List Keyword) (u : List ℕ) → ((k : Keyword) → Memᴰ k ks → ends k.word u ≡ true → ⊥) → ending_at ks u ≡ []
unfolding ending_at suffixes flat_map
ending_none ks u h =
    let longer : ending_at ks (u ++ []) ≡ ending_at ks [] =
    ending_behind ks u []
    (λ z a y e k m at. h k m (ends_by k.word u z (e ∙ ap (λ (s : List ℕ). z ++ s) (sym (append-nil (a ∷ y)) ∙ sym at)))) in
    let empty : keywords_that_are [] ks ≡ [] =
    none_are [] ks (λ k m at. h k m (ends_by k.word u u (sym (append-nil u) ∙ ap (λ (s : List ℕ). u ++ s) (sym at)))) in
    ap (ending_at ks) (sym (append-nil u)) ∙ longer ∙ rw empty

-- what a window enters with each byte read
pub entered_more : (ks : List Keyword) (s : List ℕ) (c : ℕ) (p q : Stop)
    → entered ks (record { read = s ++ (c ∷ []); stop = p }) ≡ keywords_that_are (reverse (s ++ (c ∷ []))) ks ++ entered ks (record { read = s; stop = q })
unfolding entered flat_map
entered_more ks s c p q = rw (prefixes_snoc s c, reverse-append (prefixes s) ((s ++ (c ∷ [])) ∷ []))

entered_ending : (ks : List Keyword) → ((k : Keyword) → Memᴰ k ks → 1 ≤ length k.word) → (v : List ℕ) (p : Stop)
    → entered ks (record { read = reverse v; stop = p }) ≡ ending_at ks v
unfolding ending_at suffixes flat_map prefixes entered
entered_ending ks filled [] p = rw (none_are [] ks (λ k m e. omega (arith, filled k m, ap length e)))
entered_ending ks filled (a ∷ v) p =
    rw (reverse-cons a v)
    (entered_more ks (reverse v) a p p
    ∙ rw (← (reverse-cons a v), reverse-reverse (a ∷ v), entered_ending ks filled v p))

-- a window's bytes in trace order: those left, then those read
pub reading_stands : {rows : List (List ℕ)} (u : List ℕ) {w : Window} (r : Reading rows [] (reverse u) w)
    → u ≡ reverse r.left ++ reverse w.read
reading_stands u {w} r =
    sym (reverse-reverse u)
    ∙ ap reverse r.split
    ∙ reverse-append r.got r.left
    ∙ ap (λ (s : List ℕ). reverse r.left ++ reverse s) (sym r.reads)

-- A window enters exactly the keywords that end at its end, the longest first.
pub reading-entered : {ks : List Keyword} → Sound ks → (u : List ℕ) {w : Window} → Reading (rows_of backward ks) [] (reverse u) w
    → entered ks w ≡ ending_at ks u
unfolding stop_of
reading-entered {ks} sound u {w} r =
    let read : entered ks w ≡ ending_at ks (reverse w.read) =
    rw (reverse-reverse w.read) at (entered_ending ks sound.filled (reverse w.read) w.stop) in
    read ∙ sym (ending_behind ks (reverse r.left) (reverse w.read) longer) ∙ ap (ending_at ks) (sym (reading_stands u r))
  where
    child : (k : Keyword) → Memᴰ k ks → (z l : List ℕ) → 1 ≤ length l → r.left ≡ l ++ z → reverse k.word ≡ w.read ++ l → ⊥
    child k m z [] some e at = omega arith
    child k m z (c ∷ q) some e at =
        let stopped : w.stop ≡ missing c = rw e at r.stops in
        never (row_needed sound m w.read c q at) (r.childless c stopped)

    longer : (z : List ℕ) (a : ℕ) (y : List ℕ)
        → reverse r.left ≡ z ++ (a ∷ y)
        → (k : Keyword)
        → Memᴰ k ks
        → k.word ≡ (a ∷ y) ++ reverse w.read
        → ⊥
    longer z a y e k m at =
        let left : r.left ≡ reverse (a ∷ y) ++ reverse z = sym (reverse-reverse r.left) ∙ ap reverse e ∙ reverse-append z (a ∷ y) in
        let word : reverse k.word ≡ w.read ++ reverse (a ∷ y) =
        ap reverse at
        ∙ reverse-append (a ∷ y) (reverse w.read)
        ∙ ap (λ (s : List ℕ). s ++ reverse (a ∷ y)) (reverse-reverse w.read) in
        child k m (reverse z) (reverse (a ∷ y)) (omega (arith, length-reverse (a ∷ y))) left word

pub entered_all : {ks : List Keyword} → Sound ks → (t : List ℕ) (e : ℕ)
    → entered ks (window_at (rows_of backward ks) t e) ≡ ending_at ks (take e t)
entered_all {ks} sound t e = reading-entered sound (take e t) (window_reading ks t e)
