-- The host call's answer is the forward scan's: a workspace of 961 rows is enough for every set that passes its
-- tests, so test 9 never speaks.
use Prim.Native.Nat.{ℕ, ◌*◌, ◌≤◌, ◌<◌}
use mathlib.Core.Path.{◌≡◌, ◌∙◌, ap}
use mathlib.Core.List.{List}
use lib.ListN.{length}
use lib.Dec.{ltb}
use borrow.Author.Tests.{lt-ltb, le-ltb, ltb-true, ltb-false}
use Rattle.rules.specs.sets.Limits.{answer_size, row_cells, most_rows}
use Rattle.rules.specs.sets.Sets.{keywords}
use Rattle.rules.specs.scans.Hits.{over}
use Rattle.rules.specs.answers.Refusals.{pass, refuse, answer_verdict}
use Rattle.rules.specs.answers.Answers.{Told, answer_bytes}
use Rattle.rules.specs.answers.Promises.{on_pass, kept, answer_or, Forward, forward_told, host_told, Host}
use Rattle.rules.proofs.strings.Strings.{either}
use Rattle.rules.proofs.answers.Verdicts.{refuse_if_true, refuse_if_false}
use Rattle.rules.proofs.answers.Entering.{forward_ample}

-- the scan's answer is the host call's
pub host_answered : (s t : List ℕ) {ws hs ws' hs' : List ℕ} {a : Told}
    → row_cells * most_rows ≤ length ws
    → Forward s t ws hs a ws' hs'
    → a ≡ host_told s t
unfolding host_told
host_answered s t {ws} room promise =
    promise.answered ∙ ap (answer_or (forward_told (keywords s) t)) (forward_ample s t (length ws) room)

-- a buffer is shorter than an answer, or it is not
pub by_size : {C : Type 0} (answer : List ℕ) → (length answer < answer_size → C) → (answer_size ≤ length answer → C) → C
by_size answer short long =
    either (ltb (length answer) answer_size) (λ t. short (ltb-true (length answer) answer_size t))
    (λ f. long (ltb-false (length answer) answer_size f))

-- a short buffer is refused and left as it was, and else the answer a is written
pub host_called : (s t answer : List ℕ) (a : Told) {answer' : List ℕ}
    → (length answer < answer_size → (a.number ≡ 17) × (answer' ≡ answer))
    → (answer_size ≤ length answer → (a ≡ host_told s t) × (answer' ≡ over (answer_bytes a) answer))
    → Host s t answer a.number answer'
unfolding answer_verdict on_pass kept
host_called s t answer a short long =
    by_size answer
    (λ h.
    let no : answer_verdict (length answer) ≡ refuse 17 0 = refuse_if_true 17 0 (lt-ltb (length answer) answer_size h) in
    let (number, same) = short h in
    record { numbered = rw no number; written = rw no same })
    (λ h.
    let fine : answer_verdict (length answer) ≡ pass = refuse_if_false 17 0 (le-ltb (length answer) answer_size h) in
    let (told, written) = long h in
    record {
      numbered = rw fine (ap (λ (x : Told). x.number) told);
      written = rw fine (written ∙ ap (λ (x : Told). over (answer_bytes x) answer) told);
    })
