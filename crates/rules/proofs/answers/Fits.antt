-- Nothing is lost in an answer's twenty bytes: a refusal's number and place are small because the table's are, and the
-- numbers of a job that is not refused because keywords, rows and trace are bounded. So each has a bound for which its
-- bytes have room, and the bytes tell the answer.
use Prim.Native.Nat.{ℕ, suc, ◌*◌, ◌≤◌, ◌<◌}
use native.Mathlib.Omega.{arith}
use mathlib.Core.Path.{◌≡◌, refl}
use mathlib.Core.List.{List}
use lib.ListN.{length, get_or}
use Rattle.rules.specs.sets.Limits.{longest_word, longest_trace, most_hits, most_total, opcodes, byte_file_size}
use Rattle.rules.specs.sets.Sets.{Keyword, keywords}
use Rattle.rules.specs.rows.Rows.{backward, rows_of}
use Rattle.rules.specs.scans.Hits.{hits, energy}
use Rattle.rules.specs.answers.Refusals.{Verdict, pass, refuse, file_verdict}
use Rattle.rules.specs.answers.Answers.{Told, answer_bytes}
use Rattle.rules.specs.answers.Promises.{on_pass, answer_or, forward_told, Forward, forward_verdict, backward_told, Backward, backward_entry, table_entry, rows_told, make_verdict, Make, Check, host_verdict, host_told}
use Rattle.rules.specs.Beside.{Sound}
use Rattle.rules.proofs.answers.Verdicts.{or_else_pass}
use Rattle.rules.proofs.sets.Bytes.{bytes_sound}
use Rattle.rules.proofs.scans.Questions.{questions_bound}
use Rattle.rules.proofs.scans.Totals.{hits_most, total_most}
use Rattle.rules.proofs.skips.Runs.{run_asks}
use Rattle.rules.proofs.answers.Entering.{trace_passed, entry_passed}
use Rattle.rules.proofs.answers.Refused.{Line, Tabled, file_rows, tabled_forward, tabled_backward, tabled_make, tabled_check, tabled_host}
use Rattle.rules.proofs.answers.Answers.{Fits, answer_bytes_injective}

-- What each number of an answer is at most. A scan's count and energy can be just that: `totals_reached`.
pub record Within (a : Told) : Type 0 where
  pub number : a.number ≤ 17
  pub place : a.place ≤ byte_file_size
  pub count : a.count ≤ most_hits
  pub questions : a.questions ≤ suc longest_word * longest_trace
  pub energy : a.energy ≤ most_total

-- two bytes are enough for the first two, four for the next two, and eight for the energy
pub within_fits : {a : Told} → Within a → Fits a
within_fits w =
    record {
      number_fits = omega (arith, w.number);
      place_fits = omega (arith, w.place);
      count_fits = omega (arith, w.count);
      questions_fits = omega (arith, w.questions);
      energy_fits = omega (arith, w.energy);
    }

-- a refusal is within by its table, and else the job's own answer is to be
answer_within : {a b : Told} {v : Verdict} → Tabled byte_file_size v → (v ≡ pass → Within a) → b ≡ answer_or a v → Within b
unfolding answer_or on_pass
answer_within {v = pass} tabled own e = rw e (own refl)
answer_within {v = refuse n p} tabled own e =
    let entry : Line byte_file_size n p = tabled n p refl in
    rw e
    (record {
      number = omega (arith, entry.number.known);
      place = omega (arith, entry.near);
      count = omega arith;
      questions = omega arith;
      energy = omega arith;
    })

-- what a scan answers
scan_within : {ks : List Keyword} → Sound ks → (t : List ℕ) (asked : ℕ)
    → length t ≤ longest_trace
    → asked ≤ suc longest_word * length t
    → Within (record { number = 0; place = 0; count = length (hits ks t); questions = asked; energy = energy (hits ks t) })
scan_within sound t asked near few =
    record {
      number = omega arith;
      place = omega arith;
      count = hits_most sound t near;
      questions = omega arith;
      energy = total_most sound t near;
    }

forward-told_within : {ks : List Keyword} → Sound ks → (t : List ℕ) → length t ≤ longest_trace → Within (forward_told ks t)
unfolding forward_told
forward-told_within {ks} sound t near = scan_within sound t _ near (omega (arith, questions_bound ks t))

-- what making and the check answer
rows-told_within : (s : List ℕ) → file_verdict s ≡ pass → Within (rows_told (keywords s))
unfolding rows_told
rows-told_within s passed =
    let few : length (rows_of backward (keywords s)) ≤ byte_file_size = file_rows backward s passed in
    record {
      number = omega arith;
      place = omega arith;
      count = omega arith;
      questions = omega arith;
      energy = omega arith;
    }

-- Each job's answer is within them: a scan's where the set is of bytes, making's and the check's anyway.
module _ (s : List ℕ) where
  pub make_within : {ws rowb byteb : List ℕ} {a : Told} {ws' rowb' byteb' : List ℕ}
      → Make s ws rowb byteb a ws' rowb' byteb'
      → Within a
  unfolding make_verdict table_entry
  make_within {ws} {rowb} {byteb} promise =
      answer_within (tabled_make s (length ws) (length rowb) (length byteb))
      (λ passed. rows-told_within s (or_else_pass _ _ (or_else_pass _ _ passed).0).0)
      promise.answered

  pub check_within : {rowf bytef ws : List ℕ} {a : Told} {ws' : List ℕ} → Check s rowf bytef ws a ws' → Within a
  unfolding table_entry
  check_within {rowf} {bytef} {ws} promise =
      answer_within (tabled_check s rowf bytef (length ws))
      (λ passed. rows-told_within s (or_else_pass _ _ (or_else_pass _ _ passed).0).0)
      promise.answered

  module _ (bytes : (i : ℕ) → get_or s i 0 < opcodes) where
    pub forward_within : {t ws hs : List ℕ} {a : Told} {ws' hs' : List ℕ} → Forward s t ws hs a ws' hs' → Within a
    unfolding forward_verdict
    forward_within {t} {ws} promise =
        answer_within (tabled_forward s t (length ws))
        (λ passed.
        let both = or_else_pass _ _ passed in
        forward-told_within (bytes_sound s bytes both.0) t (entry_passed _ _ _ _ both.1).near)
        promise.answered

    pub backward_within : {t rowf bytef ws hs : List ℕ} {a : Told} {ws' hs' : List ℕ}
        → Backward s t rowf bytef ws hs a ws' hs'
        → Within a
    unfolding backward_entry backward_told
    backward_within {t} {rowf} {bytef} {ws} promise =
        answer_within (tabled_backward s t rowf bytef (length ws))
        (λ passed.
        let both = or_else_pass _ _ (or_else_pass _ _ passed).0 in
        let sound : Sound (keywords s) = bytes_sound s bytes both.0 in
        scan_within sound t _ (entry_passed _ _ _ _ both.1).near (run_asks sound rowf bytef t))
        promise.answered

    pub host_within : (t : List ℕ) → Within (host_told s t)
    unfolding host_told host_verdict
    host_within t =
        answer_within (tabled_host s t)
        (λ passed.
        let both = or_else_pass _ _ passed in
        forward-told_within (bytes_sound s bytes both.0) t (trace_passed (length t) both.1))
        refl

-- So the twenty bytes of the host call say which numbers they were.
pub host_bytes_determined : (s t s' t' : List ℕ)
    → ((i : ℕ) → get_or s i 0 < opcodes)
    → ((i : ℕ) → get_or s' i 0 < opcodes)
    → answer_bytes (host_told s t) ≡ answer_bytes (host_told s' t')
    → host_told s t ≡ host_told s' t'
host_bytes_determined s t s' t' bytes bytes' e =
    answer_bytes_injective (host_told s t) (host_told s' t') (within_fits (host_within s bytes t)) (within_fits (host_within s' bytes' t')) e
