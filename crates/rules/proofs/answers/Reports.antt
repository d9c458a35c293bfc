-- What the promises say of an answer that is no refusal, read from Rattle or from C: its tests passed, so its numbers
-- are the definitions', and the laws of the definitions hold of them. Demand 2's audit, demand 3's equation and its
-- bound, and that both scans agree.
use Prim.Native.Nat.{ℕ, ◌≤◌, ◌<◌}
use native.Mathlib.Omega.{arith}
use mathlib.Core.Path.{◌≡◌, refl, ap}
use mathlib.Core.List.{List}
use lib.ListN.{length, get_or}
use Rattle.rules.specs.sets.Limits.{opcodes}
use Rattle.rules.specs.sets.Sets.{keywords}
use Rattle.rules.specs.scans.Hits.{hits, energy, hit_buffer}
use Rattle.rules.specs.scans.Audit.{Audited}
use Rattle.rules.specs.scans.Questions.{questions, most_questions}
use Rattle.rules.specs.skips.Runs.{run_questions}
use Rattle.rules.specs.answers.Refusals.{pass, or_else, file_verdict, table_verdict}
use Rattle.rules.specs.answers.Answers.{Told}
use Rattle.rules.specs.answers.Promises.{Forward, Backward, on_pass, kept, answer_or, forward_told, forward_verdict, backward_told, backward_entry, host_told, host_verdict}
use Rattle.rules.proofs.answers.Verdicts.{or_else_pass}
use Rattle.rules.proofs.sets.Bytes.{bytes_sound}
use Rattle.rules.proofs.scans.Questions.{questions_bound}
use Rattle.rules.proofs.scans.Audited.{hits_audited}
use Rattle.rules.proofs.answers.Refused.{answered_passed, numbered_forward, numbered_backward, numbered_host}

-- the forward scan
module _ (s : List ℕ) {t ws hs : List ℕ} {a : Told} {ws' hs' : List ℕ}
    (promise : Forward s t ws hs a ws' hs') (found : a.number ≡ 0) where
  pub found_passed : forward_verdict s t (length ws) ≡ pass
  found_passed =
      answered_passed (forward_told (keywords s) t) _ (numbered_forward s t (length ws)) promise.answered found

  found-told : a ≡ forward_told (keywords s) t
  unfolding answer_or on_pass
  found-told = rw found_passed at promise.answered

  pub found-count : a.count ≡ length (hits (keywords s) t)
  unfolding forward_told
  found-count = ap (λ (b : Told). b.count) found-told

  pub found-energy : a.energy ≡ energy (hits (keywords s) t)
  unfolding forward_told
  found-energy = ap (λ (b : Told). b.energy) found-told

  pub found_listed : hs' ≡ hit_buffer (hits (keywords s) t) hs
  unfolding kept on_pass
  found_listed = rw found_passed at promise.listed

  -- demand 2
  pub found_audited : ((i : ℕ) → get_or s i 0 < opcodes) → Audited (keywords s) t hs a hs'
  unfolding forward_verdict
  found_audited bytes =
      hits_audited (bytes_sound s bytes (or_else_pass _ _ found_passed).0) found-count found-energy found_listed

  -- demand 3: the number found from set and trace alone, at most twice the bytes less one, and 0 where there are none
  pub found-questions : a.questions ≡ questions (keywords s) t
  unfolding forward_told
  found-questions = ap (λ (b : Told). b.questions) found-told

  pub found_bound : a.questions ≤ most_questions (length t)
  found_bound = omega (arith, found-questions, questions_bound (keywords s) t)

-- the backward scan
module _ (s : List ℕ) {t rowf bytef ws hs : List ℕ} {a : Told} {ws' hs' : List ℕ}
    (promise : Backward s t rowf bytef ws hs a ws' hs') (found : a.number ≡ 0) where
  pub backward_passed : or_else (backward_entry s t (length ws)) (table_verdict (keywords s) rowf bytef) ≡ pass
  backward_passed =
      answered_passed (backward_told (keywords s) t rowf bytef) _ (numbered_backward s t rowf bytef (length ws))
      promise.answered
      found

  backward-told : a ≡ backward_told (keywords s) t rowf bytef
  unfolding answer_or on_pass
  backward-told = rw backward_passed at promise.answered

  pub backward-count : a.count ≡ length (hits (keywords s) t)
  unfolding backward_told
  backward-count = ap (λ (b : Told). b.count) backward-told

  pub backward-energy : a.energy ≡ energy (hits (keywords s) t)
  unfolding backward_told
  backward-energy = ap (λ (b : Told). b.energy) backward-told

  pub backward_listed : hs' ≡ hit_buffer (hits (keywords s) t) hs
  unfolding kept on_pass
  backward_listed = rw backward_passed at promise.listed

  -- demand 2
  pub backward_audited : ((i : ℕ) → get_or s i 0 < opcodes) → Audited (keywords s) t hs a hs'
  unfolding backward_entry
  backward_audited bytes =
      let file : file_verdict s ≡ pass = (or_else_pass _ _ (or_else_pass _ _ backward_passed).0).0 in
      hits_audited (bytes_sound s bytes file) backward-count backward-energy backward_listed

  -- the questions of the run
  pub backward-questions : a.questions ≡ run_questions (keywords s) rowf bytef t
  unfolding backward_told
  backward-questions = ap (λ (b : Told). b.questions) backward-told

-- Both scans agree, whatever their workspaces: the same count and energy, and in hit buffers that began the same the
-- same numbers.
pub record Agreed (a b : Told) (hs hs' : List ℕ) : Type 0 where
  pub count : a.count ≡ b.count
  pub energy : a.energy ≡ b.energy
  pub listed : hs ≡ hs'

pub found_agree : (s : List ℕ) {t ws hs : List ℕ} {a : Told} {ws' fs rowf bytef vs : List ℕ} {b : Told} {vs' bs : List ℕ}
    → Forward s t ws hs a ws' fs
    → a.number ≡ 0
    → Backward s t rowf bytef vs hs b vs' bs
    → b.number ≡ 0
    → Agreed a b fs bs
found_agree s ahead found back met =
    record {
      count = cc (found-count s ahead found, backward-count s back met);
      energy = cc (found-energy s ahead found, backward-energy s back met);
      listed = cc (found_listed s ahead found, backward_listed s back met);
    }

-- the host call
module _ (s t : List ℕ) (found : (host_told s t).number ≡ 0) where
  pub host_passed : host_verdict s t ≡ pass
  unfolding host_told
  host_passed = answered_passed (forward_told (keywords s) t) (host_verdict s t) (numbered_host s t) refl found

  host-told : host_told s t ≡ forward_told (keywords s) t
  unfolding host_told answer_or on_pass
  host-told = rw host_passed

  pub host-count : (host_told s t).count ≡ length (hits (keywords s) t)
  unfolding forward_told
  host-count = ap (λ (b : Told). b.count) host-told

  pub host-energy : (host_told s t).energy ≡ energy (hits (keywords s) t)
  unfolding forward_told
  host-energy = ap (λ (b : Told). b.energy) host-told

  pub host-questions : (host_told s t).questions ≡ questions (keywords s) t
  unfolding forward_told
  host-questions = ap (λ (b : Told). b.questions) host-told

  pub host_bound : (host_told s t).questions ≤ most_questions (length t)
  host_bound = omega (arith, host-questions, questions_bound (keywords s) t)
