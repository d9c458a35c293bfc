-- The scan's answer and what it leaves: the tests decide, and where they pass the run has found all that the trace
-- holds.
use Prim.Native.Nat.{ℕ, suc, ◌*◌, ◌≤◌}
use native.Mathlib.Omega.{arith}
use mathlib.Core.Path.{◌≡◌, refl}
use mathlib.Core.List.{List}
use lib.ListN.{length}
use Rattle.std.specs.Prelude.{Ok, Err}
use Rattle.rules.specs.declared.Refusal.{Refusal}
use Rattle.rules.specs.sets.Limits.{longest_trace, longest_word}
use Rattle.rules.specs.sets.Sets.{Keyword, keywords}
use Rattle.rules.specs.rows.Rows.{backward, cells}
use Rattle.rules.specs.scans.Hits.{over}
use Rattle.rules.specs.answers.Refusals.{Verdict, pass, refuse, or_else, file_verdict, entry_verdict, table_verdict}
use Rattle.rules.specs.answers.Answers.{Told, told, told_counted, number_of, place_of}
use Rattle.rules.specs.answers.Promises.{Backward, backward_entry, BackwardOf, CheckOf, on_pass, kept, answer_or, with_rows, rows_told, backward_told}
use Rattle.rules.specs.Beside.{Sound}
use Rattle.rules.proofs.answers.Verdicts.{pass-or_else, refuse-or_else}
use Rattle.rules.proofs.answers.Refused.{numbered_entry}
use Rattle.rules.proofs.answers.Counts.{counted_refused}
use Rattle.rules.proofs.scans.Hits.{hits_few}
use Rattle.rules.proofs.skips.Runs.{run_asks}
use Rattle.rules.proofs.answers.Entering.{Entry}
use Rattle.words.specs.Items.{keywords_in}
use Rattle.words.specs.declared.Keywords.{Keywords}
use Rattle.sets.specs.Reading.{Lent}
use Rattle.rows.proofs.Laying.{over_laid}
use Rattle.skips.proofs.Accepts.{check_passed}
use Rattle.backward.specs.declared.Seen.{Seen}
use Rattle.backward.specs.Windowed.{Safe, Ran}

-- the tests before the rows are laid refuse: nothing is changed
pub backward_refused : (v : Verdict) {ks : List Keyword} {t rowf bytef ws hs : List ℕ} (r : Refusal)
    → v ≡ refuse (number_of r) (place_of r)
    → BackwardOf v ks t rowf bytef ws hs (told (Err r)) ws hs
unfolding answer_or kept on_pass or_else
backward_refused v r p = record { answered = rw p; rows = rw p; listed = rw p }

-- the check of the table refuses: the workspace is as the check leaves it
pub backward_unsafe : (v : Verdict) {ks : List Keyword} {t rowf bytef ws hs ws' : List ℕ} (r : Refusal)
    → CheckOf v ks rowf bytef ws (told_counted (Err r)) ws'
    → BackwardOf v ks t rowf bytef ws hs (told (Err r)) ws' hs
unfolding answer_or kept on_pass rows_told
backward_unsafe v {ks} {t} {rowf} {bytef} r checked =
    let said = counted_refused r (rows_told ks) (or_else v (table_verdict ks rowf bytef)) refl checked.answered in
    record { answered = rw said; rows = checked.rows; listed = rw said }

-- it accepts: all tests passed, and the workspace holds the rows
pub backward_safe : (ks : List Keyword) (n : ℕ) {m : ℕ} {rowf bytef ws ws' : List ℕ}
    → CheckOf (entry_verdict backward ks n (length ws)) ks rowf bytef ws (told_counted (Ok m)) ws'
    → (entry_verdict backward ks n (length ws) ≡ pass)
    × (table_verdict ks rowf bytef ≡ pass)
    × (ws' ≡ over (cells backward ks) ws)
unfolding kept on_pass with_rows
backward_safe ks n {ws = ws} checked =
    let all = check_passed checked (numbered_entry backward ks n (length ws)) refl in
    (all.0, all.1, rw all.0 at checked.rows)

-- all tests passed: the run may begin
pub run_safe : {l : List ℕ} (t ws : List ℕ)
    → Sound (keywords_in l)
    → Entry backward (keywords_in l) (length t) (length ws)
    → {rowf bytef ws' : List ℕ}
    → table_verdict (keywords_in l) rowf bytef ≡ pass
    → ws' ≡ over (cells backward (keywords_in l)) ws
    → Safe l t rowf bytef ws'
run_safe {l} t ws sound entry passed laid =
    record { near = entry.near; safe = passed; laid = rw laid (over_laid backward (keywords_in l) ws sound entry.room) }

-- after the run: the counters have room for what it found
module _ {ks : List Keyword} (t : List ℕ) {rowf bytef hs hs' : List ℕ} {seen : Seen}
    (sound : Sound ks) (near : length t ≤ longest_trace) (ran : Ran ks t rowf bytef hs seen hs') where
  pub count_few : seen.tally.count ≤ longest_word * longest_trace
  count_few = omega (arith, ran.tallied.counted, hits_few sound t)

  pub questions_few : seen.questions ≤ suc longest_word * longest_trace
  questions_few = omega (arith, ran.asked, run_asks sound rowf bytef t)

-- and what it answers
pub backward-found : (v : Verdict) {ks : List Keyword} {t rowf bytef ws hs : List ℕ} {seen : Seen} {ws' hs' : List ℕ}
    → v ≡ pass
    → ws' ≡ over (cells backward ks) ws
    → table_verdict ks rowf bytef ≡ pass
    → Ran ks t rowf bytef hs seen hs'
    → BackwardOf v ks t rowf bytef ws hs
    (told (Ok (record { count = seen.tally.count; questions = seen.questions; energy = seen.tally.energy })))
    ws'
    hs'
unfolding answer_or kept on_pass or_else with_rows backward_told
backward-found v p laid q ran =
    record {
      answered = rw (p, q, ran.tallied.counted, ran.asked, ran.tallied.charged);
      rows = rw p laid;
      listed = rw (p, q) ran.tallied.buffer;
    }

-- with the keywords of a set that was read, and with a set that was refused
pub backward_read : (s : List ℕ) (words : Keywords) {t rowf bytef ws hs : List ℕ} {a : Told} {ws' hs' : List ℕ}
    → Lent s (Ok words)
    → let ks = keywords_in words.list.now in
    BackwardOf (entry_verdict backward ks (length t) (length ws)) ks t rowf bytef ws hs a ws' hs'
    → Backward s t rowf bytef ws hs a ws' hs'
unfolding backward_entry
backward_read s words {t} {ws = ws} so promise =
    rw (pass-or_else (entry_verdict backward (keywords s) (length t) (length ws)) so.0) (rw so.1 at promise)

pub backward_unread : (s : List ℕ) {t rowf bytef ws hs : List ℕ} (r : Refusal)
    → file_verdict s ≡ refuse (number_of r) (place_of r)
    → Backward s t rowf bytef ws hs (told (Err r)) ws hs
unfolding backward_entry
backward_unread s r e = backward_refused _ r (refuse-or_else _ e)
