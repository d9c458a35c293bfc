-- The scan's answer and what it leaves: the tests decide, and where they pass the scan has found all that the trace
-- holds.
use Prim.Native.Nat.{ℕ, ◌*◌, ◌≤◌}
use native.Mathlib.Omega.{arith}
use mathlib.Core.Path.{◌≡◌, sym, ap, subst}
use mathlib.Core.List.{List, [], ◌++◌}
use lib.ListN.{length, take}
use Rattle.std.specs.Prelude.{Ok, Err}
use Rattle.rules.specs.declared.Refusal.{Refusal}
use Rattle.rules.specs.sets.Limits.{longest_trace, longest_word}
use Rattle.rules.specs.sets.Sets.{Keyword, keywords}
use Rattle.rules.specs.rows.Rows.{forward, cells}
use Rattle.rules.specs.scans.Hits.{over}
use Rattle.rules.specs.answers.Refusals.{Verdict, pass, refuse, file_verdict, entry_verdict}
use Rattle.rules.specs.answers.Answers.{Told, told, number_of, place_of}
use Rattle.rules.specs.answers.Promises.{Forward, forward_verdict, ForwardOf, on_pass, kept, answer_or, with_rows, forward_told}
use Rattle.rules.specs.Beside.{Sound}
use Rattle.rules.proofs.answers.Verdicts.{pass-or_else, refuse-or_else}
use Rattle.rules.proofs.scans.Hits.{hits_few}
use Rattle.rules.proofs.scans.Questions.{questions_bound}
use Rattle.words.specs.Items.{keywords_in}
use Rattle.words.specs.declared.Keywords.{Keywords}
use Rattle.sets.specs.Reading.{Lent}
use Rattle.rows.specs.Beginning.{Begun}
use Rattle.rows.proofs.Begun.{begun_refused}
use Rattle.forward.specs.declared.Running.{Running}
use Rattle.forward.specs.Progress.{Scanning, Going}

-- a refusal changes nothing
pub forward_refused : (v : Verdict) {ks : List Keyword} {t ws hs : List ℕ} (r : Refusal)
    → v ≡ refuse (number_of r) (place_of r)
    → ForwardOf v ks t ws hs (told (Err r)) ws hs
unfolding answer_or kept on_pass
forward_refused v r p = record { answered = rw p; rows = rw p; listed = rw p }

pub forward_entry : {ks : List Keyword} {t ws hs ws' : List ℕ} (r : Refusal)
    → Begun forward ks (length t) ws (Err r) ws'
    → ForwardOf (entry_verdict forward ks (length t) (length ws)) ks t ws hs (told (Err r)) ws' hs
unfolding answer_or kept on_pass
forward_entry r begun =
    let said = (begun_refused r begun).0 in
    record { answered = rw said; rows = begun.rows; listed = rw said }

-- the scan has read nothing of a trace that is not too long
pub start_going : {ks : List Keyword} {t hs : List ℕ} {run : Running}
    → length t ≤ longest_trace
    → Scanning ks [] hs run hs
    → Going ks (record { whole = t; old = hs }) run hs × (t ≡ take run.end t ++ t)
start_going {ks} {t} {hs} {run} near fresh =
    let From : List ℕ → Type 0 = λ u. Scanning ks u hs run hs in
    let none : [] ≡ take run.end t = ap (λ n. take n t) (sym fresh.end) in
    (record { near = near; scanning = subst From none fresh }, ap (λ u. u ++ t) none)

-- after the last: the counters have room for what it found
module _ {ks : List Keyword} (t : List ℕ) {hs : List ℕ} {run : Running} {hs' : List ℕ}
    (near : length t ≤ longest_trace) (scanned : Scanning ks t hs run hs') where
  pub count_few : Sound ks → run.tally.count ≤ longest_word * longest_trace
  count_few sound = omega (arith, scanned.found.counted, hits_few sound t)

  pub questions_few : run.questions ≤ 2 * longest_trace
  questions_few = omega (arith, scanned.asked, questions_bound ks t)

-- and what it answers
pub forward-found : (v : Verdict) {ks : List Keyword} {t ws hs : List ℕ} {run : Running} {ws' hs' : List ℕ}
    → v ≡ pass
    → ws' ≡ over (cells forward ks) ws
    → Scanning ks t hs run hs'
    → ForwardOf v ks t ws hs
    (told (Ok (record { count = run.tally.count; questions = run.questions; energy = run.tally.energy })))
    ws'
    hs'
unfolding answer_or kept on_pass with_rows forward_told
forward-found v p laid scanned =
    record {
      answered = rw (p, scanned.found.counted, scanned.asked, scanned.found.charged);
      rows = rw p laid;
      listed = rw p scanned.found.buffer;
    }

-- with the keywords of a set that was read
pub forward_read : (s : List ℕ) (words : Keywords) {t ws hs : List ℕ} {a : Told} {ws' hs' : List ℕ}
    → Lent s (Ok words)
    → let ks = keywords_in words.list.now in
    ForwardOf (entry_verdict forward ks (length t) (length ws)) ks t ws hs a ws' hs'
    → Forward s t ws hs a ws' hs'
unfolding forward_verdict
forward_read s words {t} {ws} so promise =
    rw (pass-or_else (entry_verdict forward (keywords s) (length t) (length ws)) so.0) (rw so.1 at promise)

pub forward_unread : (s : List ℕ) {t ws hs : List ℕ} (r : Refusal)
    → file_verdict s ≡ refuse (number_of r) (place_of r)
    → Forward s t ws hs (told (Err r)) ws hs
unfolding forward_verdict
forward_unread s r e = forward_refused _ r (refuse-or_else _ e)
