-- One window, byte by byte: the string read is a row, the definition's window goes on from it over the bytes left, and
-- the numbers kept are those of the keywords whose rows were entered.
use Prim.Native.Nat.{ℕ, suc, ◌+◌, ◌-◌, ◌*◌, ◌≤◌, ◌<◌}
use native.Mathlib.Omega.{arith}
use mathlib.Core.Path.{◌≡◌, refl, sym, ◌∙◌, ap}
use mathlib.Core.Bool.{true}
use mathlib.Core.List.{List, [], ◌∷◌, ◌++◌, map, flat_map, reverse, reverse-append, Memᴰ}
use lib.ListN.{length, take, get_or, length-append, length-take}
use lib.Seq.{get_or-append_seam}
use Rattle.std.specs.Prelude.{Option, Some, None, slice_get}
use Rattle.std.specs.List.{All}
use Rattle.std.proofs.lemmas.List.{nil_from_length}
use Rattle.std.proofs.lemmas.List.Elements.{All-append}
use Rattle.std.proofs.lemmas.Option.{slice_get_past, slice_get_read}
use Rattle.rules.specs.sets.Limits.{longest_word, longest_trace, row_cells, opcodes}
use Rattle.rules.specs.strings.Strings.{same, any}
use Rattle.rules.specs.sets.Sets.{Keyword, keywords_that_are}
use Rattle.rules.specs.rows.Rows.{backward, read_by, prefixes, rows_of, row_of, key_of}
use Rattle.rules.specs.skips.Runs.{Stop, start, missing, window_from, window_at, asked_of, asked, entered}
use Rattle.rules.specs.Beside.{Sound, numbered, Named}
use Rattle.rules.proofs.sets.Bytes.{mem_below}
use Rattle.rules.proofs.rows.Rows.{rowed_rows, row_of_is, row_of-nil, root_row}
use Rattle.rules.proofs.rows.PrefixRows.{row_short}
use Rattle.rules.proofs.rows.KeyNumbers.{KeyAt, key_none, key_at, numbered_is}
use Rattle.rules.proofs.skips.Windows.{window_more, window_stop, entered_more}
use Rattle.words.specs.Items.{keywords_in}
use Rattle.rows.specs.declared.tree.Asked.{Asked}
use Rattle.rows.specs.Tree.{Answered, own}
use Rattle.rows.proofs.Links.{owned, unowned}
use Rattle.rows.proofs.Walk.{answered_none, answered_row, answered_child}
use Rattle.backward.specs.Windowed.{stop_at, Safe}

-- the rows of the keywords of the list l
abbrev pub rows_in : List ℕ → List (List ℕ)
rows_in l = rows_of backward (keywords_in l)

-- What the windows of a run know beside what it asks for: the keywords are sound, and the trace is one of bytes.
pub record Known (l t rowf bytef ws : List ℕ) : Type 0 where
  pub sound : Sound (keywords_in l)
  pub bytes : (b : ℕ) → Memᴰ b t → b < opcodes
  pub safe : Safe l t rowf bytef ws

pub known_of : {l t rowf bytef ws : List ℕ}
    → Sound (keywords_in l)
    → ((i : ℕ) → get_or t i 0 < opcodes)
    → Safe l t rowf bytef ws
    → Known l t rowf bytef ws
known_of sound small safe = record { sound = sound; bytes = λ b m. mem_below opcodes m small; safe = safe }

-- the last of the bytes left
abbrev pub last_of : List ℕ → Option ℕ
last_of unread = slice_get unread (length unread - 1)

last_none : (unread : List ℕ) → length unread ≡ 0 → last_of unread ≡ None
last_none unread none = slice_get_past unread (length unread - 1) (omega arith)

last_some : (rest : List ℕ) (c : ℕ) → last_of (rest ++ (c ∷ [])) ≡ Some c
last_some rest c =
    let long = length-append rest (c ∷ []) in
    slice_get_read (rest ++ (c ∷ [])) _ _ c refl (omega (arith, long))
    (let one : length (rest ++ (c ∷ [])) - 1 ≡ length rest = omega (arith, long) in rw (one, get_or-append_seam))

-- The numbers that a window has kept: those of the keywords whose rows it entered, up to the row of the string read.
pub record Kept (l read met : List ℕ) : Type 0 where
  pub fits : length met ≤ length read
  pub known : All (Named (keywords_in l)) met
  pub are : entered (keywords_in l) (record { read = read; stop = start })
      ≡ map (numbered (keywords_in l)) (reverse met)

-- The window at `end`, with the bytes `unread` still to be read: it began with `begun` questions asked, which are few.
pub record Reached (l t : List ℕ) (end begun questions : ℕ) (met unread : List ℕ) (row : ℕ) : Type 0 where
  pub read : List ℕ
  pub is : any (same read) (rows_in l) ≡ true
  pub number : row ≡ row_of (rows_in l) read
  pub goes : window_at (rows_in l) t end ≡ window_from (rows_in l) read (reverse unread)
  pub depth : length read + length unread ≡ end
  pub short : length read ≤ longest_word
  pub few : begun ≤ suc longest_word * longest_trace
  pub counted : questions ≡ begun + length read
  pub kept : Kept l read met

-- before the first byte
pub reached_none : (l t : List ℕ) (end begun : ℕ)
    → end ≤ length t
    → begun ≤ suc longest_word * longest_trace
    → Reached l t end begun begun [] (take end t) 0
unfolding window_at entered prefixes flat_map
reached_none l t end begun inside few =
    record {
      read = [];
      is = root_row (rowed_rows backward (keywords_in l));
      number = sym (row_of-nil (rowed_rows backward (keywords_in l)));
      goes = refl;
      depth = omega (arith, length-take end t);
      short = omega arith;
      few = few;
      counted = omega arith;
      kept = record { fits = omega arith; known = λ j d h. absurd (omega arith); are = refl };
    }

-- One byte more: a row that is no keyword keeps the numbers, and a keyword's row puts its number behind them.
module _ {l read met : List ℕ} (kept : Kept l read met) (c : ℕ) where
  entered_byte : entered (keywords_in l) (record { read = read ++ (c ∷ []); stop = start })
      ≡ keywords_that_are (reverse (read ++ (c ∷ []))) (keywords_in l)
      ++ map (numbered (keywords_in l)) (reverse met)
  entered_byte =
      entered_more (keywords_in l) read c start start
      ∙ ap (λ (rest : List Keyword). keywords_that_are (reverse (read ++ (c ∷ []))) (keywords_in l) ++ rest) kept.are

  pub kept_more : key_of backward (keywords_in l) (read ++ (c ∷ [])) ≡ 0 → Kept l (read ++ (c ∷ [])) met
  unfolding read_by
  kept_more z =
      record {
        fits = omega (arith, kept.fits, length-append read (c ∷ []));
        known = kept.known;
        are = entered_byte ∙ rw (key_none backward (keywords_in l) (read ++ (c ∷ [])) z);
      }

  pub kept_key : Sound (keywords_in l) → (k : Keyword)
      → KeyAt backward (keywords_in l) (read ++ (c ∷ [])) k
      → Kept l (read ++ (c ∷ [])) (met ++ (k.number ∷ []))
  unfolding read_by
  kept_key sound k key =
      let is : numbered (keywords_in l) k.number ≡ k = numbered_is sound.numbered key.listed in
      record {
        fits = omega (arith, kept.fits, length-append read (c ∷ []), length-append met (k.number ∷ []));
        known = All-append (Named (keywords_in l)) met (k.number ∷ []) kept.known (λ j d h. let first : j ≡ 0 = omega arith in rw first (k, key.listed, refl));
        are = entered_byte ∙ rw (key.alone, reverse-append, is);
      }

-- A window may go on to the row i, with the bytes `rest` still to be read: it is no keyword, or a keyword whose number
-- has a place behind the others.
pub record Onward (l t ws : List ℕ) (end begun questions : ℕ) (met rest : List ℕ) (i : ℕ) : Type 0 where
  pub room : row_cells * i + row_cells ≤ length ws
  pub free : length met < longest_word
  pub more : own (get_or ws (row_cells * i + 4) 0) ≡ None → Reached l t end begun (questions + 1) met rest i
  pub key : (n : ℕ)
      → own (get_or ws (row_cells * i + 4) 0) ≡ Some n
      → Reached l t end begun (questions + 1) (met ++ (n ∷ [])) rest i

-- A window that has a byte to read, which the row's children are asked for.
module _ {l t rowf bytef ws : List ℕ} (known : Known l t rowf bytef ws)
    {end begun questions : ℕ} {met unread : List ℕ} {row : ℕ}
    (reached : Reached l t end begun questions met unread row) where
  pub reached_within : row < length (rows_in l)
  reached_within = rw reached.number (row_of_is (rows_in l) reached.read reached.is).0

  reads : get_or (rows_in l) row [] ≡ reached.read
  reads = rw reached.number (row_of_is (rows_in l) reached.read reached.is).1

  module _ (rest : List ℕ) (c : ℕ) (last : unread ≡ rest ++ (c ∷ []))
      {r : Asked} (answered : Answered (rows_in l) (get_or (rows_in l) row []) c r) where
    before : window_at (rows_in l) t end ≡ window_from (rows_in l) reached.read (c ∷ reverse rest)
    before = reached.goes ∙ rw (last, reverse-append)

    answer : Answered (rows_in l) reached.read c r
    answer = rw reads at answered

    -- it has a child
    module _ (i : ℕ) (found : r.child ≡ Some i) where
      child : (i < length (rows_in l))
          × (get_or (rows_in l) i [] ≡ reached.read ++ (c ∷ []))
          × (any (same (reached.read ++ (c ∷ []))) (rows_in l) ≡ true)
      child = answered_child (rowed_rows backward (keywords_in l)) answer found

      key_is : get_or ws (row_cells * i + 4) 0 ≡ key_of backward (keywords_in l) (reached.read ++ (c ∷ []))
      key_is = known.safe.laid.keys i child.0 ∙ ap (key_of backward (keywords_in l)) child.1

      child_short : length (reached.read ++ (c ∷ [])) ≤ longest_word
      child_short = row_short backward known.sound (reached.read ++ (c ∷ [])) child.2

      grown : {met' : List ℕ}
          → Kept l (reached.read ++ (c ∷ [])) met'
          → Reached l t end begun (questions + 1) met' rest i
      grown kept =
          record {
            read = reached.read ++ (c ∷ []);
            is = child.2;
            number = answered_row (rowed_rows backward (keywords_in l)) answer found;
            goes = before ∙ window_more (rows_in l) reached.read c (reverse rest) child.2;
            depth =
                omega (
                  arith,
                  reached.depth,
                  length-append reached.read (c ∷ []),
                  length-append rest (c ∷ []),
                  ap length last,
                );
            short = child_short;
            few = reached.few;
            counted = omega (arith, reached.counted, length-append reached.read (c ∷ []));
            kept = kept;
          }

      keyed : (n : ℕ)
          → own (get_or ws (row_cells * i + 4) 0) ≡ Some n
          → Reached l t end begun (questions + 1) (met ++ (n ∷ [])) rest i
      keyed n some =
          let stands : key_of backward (keywords_in l) (reached.read ++ (c ∷ [])) ≡ n + 1 = sym key_is ∙ owned _ n some in
          let w = key_at backward (reached.read ++ (c ∷ [])) known.sound (λ z. omega (arith, stands)) in
          let number : n ≡ w.0.number = omega (arith, stands, w.1.number) in
          rw number (grown (kept_key reached.kept c known.sound w.0 w.1))

      pub onward : Onward l t ws end begun questions met rest i
      onward =
          record {
            room = omega (arith, child.0, known.safe.laid.tree.room);
            free = omega (arith, reached.kept.fits, child_short, length-append reached.read (c ∷ []));
            more = λ none. grown (kept_more reached.kept c (sym key_is ∙ unowned _ none));
            key = keyed;
          }

-- The whole window at `end`: it stopped at `row`, with the bytes `unread` not read, and the numbers kept give its hits.
pub record Stopped (l t : List ℕ) (end begun questions : ℕ) (met unread : List ℕ) (row : ℕ) : Type 0 where
  pub number : row ≡ row_of (rows_in l) (window_at (rows_in l) t end).read
  pub depth : length (window_at (rows_in l) t end).read + length unread ≡ end
  pub stops : (window_at (rows_in l) t end).stop ≡ stop_at (last_of unread)
  pub counted : questions ≡ begun + asked (window_at (rows_in l) t end)
  pub kept : Kept l (window_at (rows_in l) t end).read met

module _ {l t : List ℕ} {end begun questions : ℕ} {met unread : List ℕ} {row : ℕ}
    (reached : Reached l t end begun questions met unread row) where
  stopped : (stop : Stop) (n : ℕ)
      → window_at (rows_in l) t end ≡ record { read = reached.read; stop = stop }
      → stop ≡ stop_at (last_of unread)
      → n ≡ begun + asked_of (length reached.read) stop
      → Stopped l t end begun n met unread row
  unfolding asked
  stopped stop n at stops counted =
      record {
        number = rw at reached.number;
        depth = rw at reached.depth;
        stops = rw at stops;
        counted = rw at counted;
        kept = rw at reached.kept;
      }

  -- no byte is left
  pub stopped-start : length unread ≡ 0 → Stopped l t end begun questions met unread row
  unfolding window_from asked_of
  stopped-start none =
      stopped start questions
      (reached.goes ∙ rw (nil_from_length unread none))
      (rw (last_none unread none))
      reached.counted

-- the byte has no child
pub stopped_missing : {l t rowf bytef ws : List ℕ}
    → Known l t rowf bytef ws
    → {end begun questions : ℕ} {met unread : List ℕ} {row : ℕ}
    → Reached l t end begun questions met unread row
    → (rest : List ℕ) (c : ℕ)
    → unread ≡ rest ++ (c ∷ [])
    → {r : Asked}
    → Answered (rows_in l) (get_or (rows_in l) row []) c r
    → r.child ≡ None
    → Stopped l t end begun (questions + 1) met unread row
unfolding asked_of
stopped_missing {l} known {questions = questions} reached rest c last answered none =
    let childless = answered_none (rowed_rows backward (keywords_in l)) (answer known reached rest c last answered) none in
    stopped reached (missing c) (questions + 1)
    (before known reached rest c last answered ∙ window_stop (rows_in l) reached.read c (reverse rest) childless.0)
    (rw (last, last_some))
    (omega (arith, reached.counted))
