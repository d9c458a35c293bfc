-- The rows of a keyword are met byte by byte: each further byte leads to a row that stands already, or to one more
-- behind all others; once the word is read its row is known, and no earlier keyword stands there.
use Prim.Native.Nat.{ℕ, suc, ◌+◌, ◌*◌, ◌≤◌, ◌<◌}
use native.Mathlib.Omega.{arith}
use native.Mathlib.Numerals.{add-one}
use mathlib.Core.Path.{◌≡◌, refl, sym, ◌∙◌, ap}
use mathlib.Core.Bool.{true, false}
use mathlib.Core.List.{List, [], ◌∷◌, ◌++◌}
use lib.ListN.{length, get_or, take, drop, set, length-append, length-take, take-append-drop}
use lib.Seq.{take-suc, take_all, get_or-take}
use Rattle.std.specs.Prelude.{Some, None}
use Rattle.rules.specs.sets.Limits.{row_cells, most_rows}
use Rattle.rules.specs.strings.Strings.{same, any}
use Rattle.rules.specs.sets.Sets.{Keyword, is_keyword}
use Rattle.rules.specs.rows.Rows.{Way, prefixes, meet, rows_of, row_of, key_of}
use Rattle.rules.specs.Beside.{Sound, no_keyword, nth, Rowed}
use Rattle.rules.proofs.strings.Strings.{fails, or_fails_left}
use Rattle.rules.proofs.strings.Orders.{mem_at, ordered_at}
use Rattle.rules.proofs.rows.Rows.{rowed_rows, rowed-meet, root_row, meet_snoc, meet_old, meet-new, meet_has, meet_reads, rows_of_snoc, rows_below, rows_grow, row_of_is, row_of-nil, row_of-new}
use Rattle.rules.proofs.rows.Most.{rows_few}
use Rattle.rules.proofs.scans.Dictionary.{is_keyword_true}
use Rattle.rules.proofs.rows.Keys.{key_of-new, key_of_fresh}
use Rattle.words.specs.Read.{read_at}
use Rattle.words.proofs.Counted.{front_more}
use Rattle.rows.specs.declared.tree.Asked.{Asked}
use Rattle.rows.specs.Tree.{Held, Answered, Beyond, appended}
use Rattle.rows.specs.Builds.{rows_to, Inserting, Built}
use Rattle.rows.proofs.Walk.{answered_none, answered_row, answered_child}
use Rattle.rows.proofs.Columns.{held_keyed, beyond-set, beyond_more, beyond_trans}
use Rattle.rows.proofs.Appended.{Growing, growing, held-appended, beyond-appended}

-- the first k bytes of the keyword at place i as it is read, the byte behind them, and both
abbrev pub front : Way → List Keyword → ℕ → ℕ → List ℕ
front way ks i k = take k (read_at way ks i)

abbrev pub byte_at : Way → List Keyword → ℕ → ℕ → ℕ
byte_at way ks i k = get_or (read_at way ks i) k 0

abbrev longer : Way → List Keyword → ℕ → ℕ → List ℕ
longer way ks i k = front way ks i k ++ (byte_at way ks i k ∷ [])

-- the rows once they are read
unfoldable pub met : Way → List Keyword → ℕ → ℕ → List (List ℕ)
met way ks i k = meet (rows_to way ks i) (prefixes (front way ks i k))

module _ (way : Way) (ks : List Keyword) (i : ℕ) where
  -- no byte, one more, all
  met_none : met way ks i 0 ≡ rows_to way ks i
  unfolding met meet prefixes
  met_none = refl

  met_more : (k : ℕ)
      → k < length (read_at way ks i)
      → met way ks i (k + 1) ≡ meet (met way ks i k) (longer way ks i k ∷ [])
  unfolding met
  met_more k q = rw (add-one k, take-suc (read_at way ks i) k 0 q) (meet_snoc (rows_to way ks i) (front way ks i k) (byte_at way ks i k))

  met_all : (k : ℕ) → length (read_at way ks i) ≤ k → met way ks i k ≡ rows_of way (take i ks ++ (nth ks i ∷ []))
  unfolding met read_at
  met_all k end = rw (take_all k (read_at way ks i) end) (sym (rows_of_snoc way (take i ks) (nth ks i)))

  met_rowed : (k : ℕ) → Rowed (met way ks i k)
  unfolding met
  met_rowed k = rowed-meet (rowed_rows way (take i ks)) (front way ks i k)

  met_reads : (k : ℕ) → any (same (front way ks i k)) (met way ks i k) ≡ true
  unfolding met
  met_reads k = meet_reads (rows_to way ks i) (front way ks i k) (root_row (rowed_rows way (take i ks)))

  met_below : (k : ℕ) → i < length ks → length (met way ks i k) ≤ length (rows_to way ks (i + 1))
  unfolding met read_at
  met_below k h =
      let w = read_at way ks i in
      rw (front_more ks i h)
      (rows_below way (take i ks) [] (nth ks i) (take k w) (drop k w) (sym (take-append-drop k w)))

-- the first keywords have no more rows than all
pub rows_within : (way : Way) (ks : List Keyword) (n : ℕ) → length (rows_to way ks n) ≤ length (rows_of way ks)
rows_within way ks n = rw (take-append-drop n ks) at (rows_grow way (take n ks) (drop n ks))

-- no earlier keyword is the same word
new_at : {ks : List Keyword} → Sound ks → (i : ℕ) → i < length ks → is_keyword (take i ks) (nth ks i).word ≡ false
new_at {ks} sound i h =
    fails (is_keyword (take i ks) (nth ks i).word)
    (λ t.
    let (k, mem, word) = is_keyword_true (take i ks) (nth ks i).word t in
    let (j, below, is) = mem_at mem in
    let before : j < i = omega (arith, length-take i ks) in
    let at : nth ks j ≡ k = sym (get_or-take i ks j no_keyword before) ∙ is no_keyword in
    ordered_at sound.distinct no_keyword j i before h (ap (λ (l : Keyword). l.word) at ∙ word))

-- k bytes of the keyword at place i are read, and lead to a row
pub record Spelled (way : Way) (ks : List Keyword) (i k row count : ℕ) (ws ws' : List ℕ) : Type 0 where
  pub low : k ≤ length (read_at way ks i)
  pub held : Held way (take i ks) (met way ks i k) ws'
  pub counted : count ≡ length (met way ks i k)
  pub standing : row ≡ row_of (met way ks i k) (front way ks i k)
  pub beyond : Beyond count ws ws'

pub spelled_none : {way : Way} {ks : List Keyword} {i rows : ℕ} {ws : List ℕ} → Inserting way ks i rows ws → Spelled way ks i 0 0 rows ws ws
spelled_none {way} {ks} {i} before =
    record {
      low = omega arith;
      held = rw (met_none way ks i) before.held;
      counted = rw (met_none way ks i) before.counted;
      standing = sym (row_of-nil (met_rowed way ks i 0));
      beyond = (refl, refl);
    }

module _ {way : Way} {ks : List Keyword} {i rows : ℕ} {ws : List ℕ} (before : Inserting way ks i rows ws)
    {k row count : ℕ} {ws' : List ℕ} (so : Spelled way ks i k row count ws ws') where
  pub spelled_within : row < length (met way ks i k)
  spelled_within = rw so.standing (row_of_is (met way ks i k) (front way ks i k) (met_reads way ks i k)).0

  spelled_reads : get_or (met way ks i k) row [] ≡ front way ks i k
  spelled_reads = rw so.standing (row_of_is (met way ks i k) (front way ks i k) (met_reads way ks i k)).1

  pub spelled_few : Sound ks → count ≤ most_rows
  spelled_few sound =
      omega (
        arith,
        so.counted,
        met_below way ks i k before.within,
        rows_within way ks (i + 1),
        rows_few way ks sound,
      )

  pub spelled_room : row_cells * row + row_cells ≤ length ws'
  spelled_room = omega (arith, spelled_within, so.held.tree.room)

  -- one byte more: it leads to a row, or a row is added
  module _ (more : k < length (read_at way ks i)) {r : Asked}
      (answered : Answered (met way ks i k) (get_or (met way ks i k) row []) (byte_at way ks i k) r) where
    next_bytes : front way ks i (k + 1) ≡ longer way ks i k
    next_bytes = rw (add-one k) (take-suc (read_at way ks i) k 0 more)

    pub spelled_old : {next : ℕ} → r.child ≡ Some next → Spelled way ks i (k + 1) next count ws ws'
    spelled_old found =
        let R = met way ks i k in
        let known = rw spelled_reads at answered in
        let old : any (same (longer way ks i k)) R ≡ true = (answered_child so.held.tree.rowed known found).2 in
        let same_rows : met way ks i (k + 1) ≡ R = met_more way ks i k more ∙ meet_old R (longer way ks i k) old in
        record {
          low = omega arith;
          held = rw same_rows so.held;
          counted = rw same_rows so.counted;
          standing = rw (same_rows, next_bytes) (answered_row so.held.tree.rowed known found);
          beyond = so.beyond;
        }

    module _ (missing : r.child ≡ None) where
      absent : any (same (longer way ks i k)) (met way ks i k) ≡ false
      absent = (answered_none so.held.tree.rowed (rw spelled_reads at answered) missing).0

      more_rows : met way ks i (k + 1) ≡ met way ks i k ++ (longer way ks i k ∷ [])
      more_rows = met_more way ks i k more ∙ meet-new (met way ks i k) (longer way ks i k) absent

      one_more : length (met way ks i (k + 1)) ≡ length (met way ks i k) + 1
      one_more = ap length more_rows ∙ length-append (met way ks i k) (longer way ks i k ∷ [])

      no_key : key_of way (take i ks) (longer way ks i k) ≡ 0
      unfolding met
      no_key =
          let w = longer way ks i k in
          let old = any (same w) (rows_to way ks i) in
          let added = prefixes (front way ks i k) in
          key_of-new way (take i ks) w (or_fails_left old (any (same w) added) (sym (meet_has (rows_to way ks i) added w) ∙ absent))

      pub spelled_growing : Growing (met way ks i k) row (front way ks i k) (byte_at way ks i k) r.last ws'
      spelled_growing =
          let room : row_cells * (length (met way ks i k) + 1) ≤ length ws' =
          omega (arith, one_more, met_below way ks i (k + 1) before.within, before.room, so.beyond.0) in
          rw spelled_reads at (growing so.held.tree spelled_within answered missing room)

      pub spelled-new : Spelled way ks i (k + 1) count (count + 1) ws (appended ws' count row r.last (byte_at way ks i k))
      spelled-new =
          record {
            low = omega arith;
            held = rw (more_rows, so.counted) (held-appended so.held spelled_growing no_key);
            counted = omega (arith, one_more, so.counted);
            standing = rw (more_rows, next_bytes, so.counted) (sym (row_of-new (met way ks i k) (longer way ks i k) absent));
            beyond =
                beyond_trans ws ws' (appended ws' count row r.last (byte_at way ks i k)) (count + 1)
                (beyond_more ws ws' count (count + 1) (omega arith) so.beyond)
                (rw (so.counted, ← one_more, more_rows) (beyond-appended spelled_growing));
          }

  -- all bytes: the row is the keyword's, and its number is written there
  pub spelled_all : Sound ks → length (read_at way ks i) ≤ k → Built way (take (i + 1) ks) count ws (set ws' (row_cells * row + 4) ((nth ks i).number + 1))
  unfolding read_at
  spelled_all sound end =
      let w = read_at way ks i in
      let old = take i ks in
      let all : met way ks i k ≡ rows_of way (old ++ (nth ks i ∷ [])) = met_all way ks i k end in
      let free : key_of way old w ≡ 0 = key_of_fresh way old (nth ks i).word (new_at sound i before.within) in
      rw (front_more ks i before.within, add-one (nth ks i).number)
      (record {
        counted = rw all at so.counted;
        held =
            held_keyed (rw all at so.held) (nth ks i) row (rw all at spelled_within)
            (rw (all, take_all k w end) at spelled_reads)
            free;
        beyond =
            beyond_trans ws ws' (set ws' (row_cells * row + 4) (suc (nth ks i).number)) count so.beyond
            (beyond-set ws' count (row_cells * row + 4) (suc (nth ks i).number) (omega (arith, spelled_within, so.counted)));
      })
