-- What making and the check answer, outcome by outcome: the first test that shows a fault is the verdict.
use Prim.Native.Nat.{ℕ, ◌*◌, ◌≤◌, ◌<◌}
use mathlib.Core.Path.{◌≡◌, sym, ◌∙◌, ap}
use mathlib.Core.List.{List}
use lib.ListN.{length}
use borrow.Author.Tests.{lt-ltb, le-ltb}
use Rattle.rules.specs.declared.Refusal.{Refusal}
use Rattle.rules.specs.declared.Refusal.TheVariants.{RowBufferShort, ByteBufferShort}
use Rattle.std.specs.Prelude.{Ok, Err}
use Rattle.rules.specs.sets.Limits.{row_record, byte_file_size}
use Rattle.rules.specs.sets.Sets.{Keyword, keywords}
use Rattle.rules.specs.rows.Rows.{backward}
use Rattle.rules.specs.scans.Hits.{over}
use Rattle.rules.specs.skips.Skips.{row_file, byte_file}
use Rattle.rules.specs.answers.Refusals.{pass, refuse, refuse_if, or_else, file_verdict, workspace_verdict, entry_verdict, table_verdict, buffer_verdict}
use Rattle.rules.specs.answers.Answers.{Told, number_of, place_of, told_count, told_counted}
use Rattle.rules.specs.answers.Promises.{on_pass, kept, answer_or, table_entry, rows_told, Make, MakeOf, make_verdict, Check, CheckOf}
use Rattle.rules.proofs.answers.Verdicts.{pass-or_else, refuse-or_else}
use Rattle.rules.proofs.answers.Entering.{entry_untraced}
use Rattle.rules.proofs.answers.Counts.{answer_refused, answer_passed}
use Rattle.rows.specs.Beginning.{Begun}
use Rattle.rows.proofs.Begun.{begun_refused, begun_laid}

-- The check: refused on entry, or as the table's tests say.
module _ {ks : List Keyword} {n : ℕ} {rowf bytef ws ws' : List ℕ} where
  pub check_entry : (fault : Refusal) → Begun backward ks n ws (Err fault) ws'
      → CheckOf (entry_verdict backward ks n (length ws)) ks rowf bytef ws (told_counted (Err fault)) ws'
  check_entry fault begun =
      record {
        answered = answer_refused (rows_told ks) (refuse-or_else _ (begun_refused fault begun).0);
        rows = begun.rows;
      }

  module _ {rows : ℕ} (begun : Begun backward ks n ws (Ok rows) ws') where
    pub check_refused : (fault : Refusal) → refuse (number_of fault) (place_of fault) ≡ table_verdict ks rowf bytef
        → CheckOf (entry_verdict backward ks n (length ws)) ks rowf bytef ws (told_counted (Err fault)) ws'
    check_refused fault e =
        record {
          answered = answer_refused (rows_told ks) (pass-or_else (table_verdict ks rowf bytef) (begun_laid begun).0 ∙ sym e);
          rows = begun.rows;
        }

    pub check_safe : pass ≡ table_verdict ks rowf bytef
        → CheckOf (entry_verdict backward ks n (length ws)) ks rowf bytef ws (told_counted (Ok rows)) ws'
    unfolding rows_told
    check_safe e =
        record {
          answered =
              ap told_count (begun_laid begun).1
              ∙ answer_passed (rows_told ks) (pass-or_else (table_verdict ks rowf bytef) (begun_laid begun).0 ∙ sym e);
          rows = begun.rows;
        }

-- Making: refused on entry, by a short buffer, or not.
module _ {ks : List Keyword} {ws ws' : List ℕ} (rowb byteb : List ℕ) where
  pub make_entry : (fault : Refusal) → Begun backward ks 0 ws (Err fault) ws'
      → MakeOf (entry_verdict backward ks 0 (length ws)) ks ws rowb byteb (told_counted (Err fault)) ws' rowb byteb
  unfolding make_verdict answer_or kept on_pass or_else
  make_entry fault begun =
      let no = (begun_refused fault begun).0 in
      record { answered = rw no; rows = begun.rows; rows_made = rw no; bytes_made = rw no }

  module _ {rows : ℕ} (begun : Begun backward ks 0 ws (Ok rows) ws') where
    pub make_rows_short : length rowb < row_record * rows
        → MakeOf (entry_verdict backward ks 0 (length ws)) ks ws rowb byteb (told_counted (Err (RowBufferShort rows))) ws' rowb byteb
    unfolding make_verdict buffer_verdict answer_or kept on_pass or_else refuse_if
    make_rows_short short =
        let fine = begun_laid begun in
        let no = lt-ltb (length rowb) (row_record * rows) short in
        record {
          answered = rw (fine.0, ← fine.1, no);
          rows = begun.rows;
          rows_made = rw (fine.0, ← fine.1, no);
          bytes_made = rw (fine.0, ← fine.1, no);
        }

    module _ (room : row_record * rows ≤ length rowb) where
      pub make_bytes_short : length byteb < byte_file_size
          → MakeOf (entry_verdict backward ks 0 (length ws)) ks ws rowb byteb (told_counted (Err ByteBufferShort)) ws' rowb byteb
      unfolding make_verdict buffer_verdict answer_or kept on_pass or_else refuse_if
      make_bytes_short short =
          let fine = begun_laid begun in
          let fits = le-ltb (length rowb) (row_record * rows) room in
          let no = lt-ltb (length byteb) byte_file_size short in
          record {
            answered = rw (fine.0, ← fine.1, fits, no);
            rows = begun.rows;
            rows_made = rw (fine.0, ← fine.1, fits, no);
            bytes_made = rw (fine.0, ← fine.1, fits, no);
          }

      pub make_done : {rowb' byteb' : List ℕ}
          → byte_file_size ≤ length byteb
          → rowb' ≡ over (row_file ks) rowb
          → byteb' ≡ over (byte_file ks) byteb
          → MakeOf (entry_verdict backward ks 0 (length ws)) ks ws rowb byteb (told_counted (Ok rows)) ws' rowb' byteb'
      unfolding make_verdict buffer_verdict answer_or kept on_pass or_else refuse_if rows_told
      make_done enough rows_put bytes_put =
          let fine = begun_laid begun in
          let fits = le-ltb (length rowb) (row_record * rows) room in
          let good = le-ltb (length byteb) byte_file_size enough in
          record {
            answered = rw (fine.0, ← fine.1, fits, good);
            rows = begun.rows;
            rows_made = rw (fine.0, ← fine.1, fits, good) rows_put;
            bytes_made = rw (fine.0, ← fine.1, fits, good) bytes_put;
          }

-- With the keywords ks of a set that was read, and with a set that was refused.
module _ (s : List ℕ) (room : ℕ) where
  entry_read : file_verdict s ≡ pass → table_entry s room ≡ entry_verdict backward (keywords s) 0 room
  unfolding table_entry
  entry_read e = pass-or_else (workspace_verdict backward (keywords s) room) e ∙ sym (entry_untraced backward (keywords s) room)

  entry_unread : {n p : ℕ} → file_verdict s ≡ refuse n p → table_entry s room ≡ refuse n p
  unfolding table_entry
  entry_unread e = refuse-or_else (workspace_verdict backward (keywords s) room) e

module _ (s : List ℕ) {ws : List ℕ} {ks : List Keyword} {a : Told} {ws' : List ℕ} (read : (file_verdict s ≡ pass) × (ks ≡ keywords s)) where
  pub make_read : {rowb byteb rowb' byteb' : List ℕ}
      → MakeOf (entry_verdict backward ks 0 (length ws)) ks ws rowb byteb a ws' rowb' byteb'
      → Make s ws rowb byteb a ws' rowb' byteb'
  make_read promise = rw (entry_read s (length ws) read.0) (rw read.1 at promise)

  pub check_read : {rowf bytef : List ℕ}
      → CheckOf (entry_verdict backward ks 0 (length ws)) ks rowf bytef ws a ws'
      → Check s rowf bytef ws a ws'
  check_read promise = rw (entry_read s (length ws) read.0) (rw read.1 at promise)

module _ (s : List ℕ) {ws : List ℕ} (fault : Refusal) (unread : file_verdict s ≡ refuse (number_of fault) (place_of fault)) where
  pub make_unread : {rowb byteb : List ℕ} → Make s ws rowb byteb (told_counted (Err fault)) ws rowb byteb
  unfolding make_verdict answer_or kept on_pass or_else
  make_unread =
      let no = entry_unread s (length ws) unread in
      record { answered = rw no; rows = rw no; rows_made = rw no; bytes_made = rw no }

  pub check_unread : {rowf bytef : List ℕ} → Check s rowf bytef ws (told_counted (Err fault)) ws
  unfolding answer_or kept on_pass or_else
  check_unread =
      let no = entry_unread s (length ws) unread in
      record { answered = rw no; rows = rw no }
