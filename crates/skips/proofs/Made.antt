-- What making writes, the check accepts: the fronts of the buffers are the files with the largest numbers.
use Prim.Native.Nat.{ℕ, ◌*◌, ◌<◌}
use native.Mathlib.Omega.{arith}
use mathlib.Core.Path.{◌≡◌, sym, ◌∙◌, ap}
use mathlib.Core.List.{List}
use lib.ListN.{length, take, get_or}
use Rattle.rules.specs.sets.Limits.{row_record, byte_file_size, opcodes}
use Rattle.rules.specs.sets.Sets.{Keyword, keywords}
use Rattle.rules.specs.rows.Rows.{backward, rows_of}
use Rattle.rules.specs.scans.Hits.{over}
use Rattle.rules.specs.skips.Skips.{row_file, byte_file}
use Rattle.rules.specs.answers.Refusals.{Verdict, pass, buffer_verdict}
use Rattle.rules.specs.answers.Answers.{Told}
use Rattle.rules.specs.answers.Promises.{on_pass, kept, rows_told, table_entry, make_verdict, Make, MakeOf, Check, CheckOf}
use Rattle.rules.specs.scans.Audit.{Accepted}
use Rattle.rules.specs.Beside.{Sound}
use Rattle.rules.proofs.answers.Verdicts.{or_else_pass}
use Rattle.rules.proofs.answers.Refused.{Numbered, numbered_if, numbered_both, answered_passed}
use Rattle.rules.proofs.sets.Bytes.{bytes_sound}
use Rattle.rules.proofs.scans.Buffers.{over-front}
use Rattle.rules.proofs.skips.Tables.{row_file-length, byte_file-length, made-accepted}
use Rattle.skips.proofs.Accepts.{check_answers, entry-numbered}

-- the front of a buffer, as much as a file has
front : (new old : List ℕ) (n : ℕ) → length new ≡ n → take n (over new old) ≡ new
front new old n e = ap (λ (k : ℕ). take k (over new old)) (sym e) ∙ over-front new old

make-numbered : {v : Verdict} (ks : List Keyword) (row_room byte_room : ℕ)
    → Numbered v
    → Numbered (make_verdict v ks row_room byte_room)
unfolding make_verdict buffer_verdict
make-numbered ks row_room byte_room fine =
    numbered_both _ _ fine (numbered_both _ _ (numbered_if _ 15 _ (omega arith)) (numbered_if _ 16 0 (omega arith)))

-- Whatever the tests v before it are.
module _ {v : Verdict} {ks : List Keyword} {ws rowb byteb : List ℕ} {answer : Told} {ws' rowb' byteb' : List ℕ}
    (made : MakeOf v ks ws rowb byteb answer ws' rowb' byteb') (fine : Numbered v) (done : answer.number ≡ 0) where
  passed : make_verdict v ks (length rowb) (length byteb) ≡ pass
  passed =
      answered_passed (rows_told ks) (make_verdict v ks (length rowb) (length byteb))
      (make-numbered ks (length rowb) (length byteb) fine)
      made.answered
      done

  pub made_entry : v ≡ pass
  unfolding make_verdict
  made_entry = (or_else_pass _ _ passed).0

  pub made_safe : Sound ks → Accepted ks (take (row_record * length (rows_of backward ks)) rowb') (take byte_file_size byteb')
  unfolding kept on_pass
  made_safe sound =
      let rows : take (row_record * length (rows_of backward ks)) rowb' ≡ row_file ks =
      rw (made.rows_made, passed) (front (row_file ks) rowb (row_record * length (rows_of backward ks)) (row_file-length sound)) in
      let fars : take byte_file_size byteb' ≡ byte_file ks =
      rw (made.bytes_made, passed) (front (byte_file ks) byteb byte_file_size (byte_file-length ks)) in
      rw (rows, fars) (made-accepted sound)

  pub made_checked : Sound ks → {u : Verdict} {us : List ℕ} {told : Told} {us' : List ℕ}
      → CheckOf u ks (take (row_record * length (rows_of backward ks)) rowb') (take byte_file_size byteb') us told us'
      → u ≡ pass
      → told ≡ rows_told ks
  made_checked sound checked entry = check_answers checked entry (made_safe sound)

-- For a set's bytes.
entry_sound : (s : List ℕ) (room : ℕ) → ((i : ℕ) → get_or s i 0 < opcodes) → table_entry s room ≡ pass → Sound (keywords s)
unfolding table_entry
entry_sound s room bytes p = bytes_sound s bytes (or_else_pass _ _ p).0

pub made_checks : (s : List ℕ) {ws rowb byteb : List ℕ} {answer : Told} {ws' rowb' byteb' : List ℕ}
    → ((i : ℕ) → get_or s i 0 < opcodes)
    → Make s ws rowb byteb answer ws' rowb' byteb'
    → answer.number ≡ 0
    → {us : List ℕ} {told : Told} {us' : List ℕ}
    → Check s (take (row_record * length (rows_of backward (keywords s))) rowb') (take byte_file_size byteb') us told us'
    → table_entry s (length us) ≡ pass
    → told ≡ rows_told (keywords s)
made_checks s {ws = ws} bytes made done checked entry =
    let fine = entry-numbered s (length ws) in
    made_checked made fine done (entry_sound s (length ws) bytes (made_entry made fine done)) checked entry
