-- What each of the five jobs promises on every input: its answer in numbers, and each lent buffer afterwards.
use Rattle.std.specs.Prelude.{ℕ, ◌≡◌, List, length, Result, Ok, Err}
use Rattle.rules.specs.declared.Refusal.{Refusal}
use Rattle.rules.specs.sets.Sets.{Keyword, keywords}
use Rattle.rules.specs.rows.Rows.{Way, forward, backward, rows_of, cells}
use Rattle.rules.specs.scans.Hits.{hits, energy, over, hit_buffer}
use Rattle.rules.specs.scans.Questions.{questions}
use Rattle.rules.specs.skips.Skips.{row_file, byte_file}
use Rattle.rules.specs.skips.Runs.{run_questions}
use Rattle.rules.specs.answers.Refusals.{Verdict, pass, refuse, or_else, file_verdict, trace_verdict, workspace_verdict, entry_verdict, table_verdict, buffer_verdict, answer_verdict}
use Rattle.rules.specs.answers.Answers.{Told, number_of, place_of, told_refusal, told_count, answer_bytes}

-- document 01's verdict by the code's answer: whatever a test or a job gives where it passes
abbrev pub verdict_of : {A : Type 0} → Result A Refusal → Verdict
verdict_of (Ok a) = pass
verdict_of (Err fault) = refuse (number_of fault) (place_of fault)

-- what is left on a refusal, and what where there is none
unfoldable pub on_pass {ℓ} : {A : Type ℓ} → (ℕ → ℕ → A) → A → Verdict → A
on_pass f a pass = a
on_pass f a (refuse n p) = f n p

-- a buffer that a refusal leaves as it was, and its new content else
unfoldable pub kept : List ℕ → List ℕ → Verdict → List ℕ
kept old new v = on_pass (λ n p. old) new v

-- an answer: the refusal's, or the job's own
unfoldable pub answer_or : Told → Verdict → Told
answer_or a v = on_pass told_refusal a v

-- a workspace with the rows of the keywords ks at its front
unfoldable pub with_rows : Way → List Keyword → List ℕ → List ℕ
with_rows way ks ws = over (cells way ks) ws

-- The forward scan for the keywords ks, where the tests said v.
unfoldable pub forward_told : List Keyword → List ℕ → Told
forward_told ks t =
    record {
      number = 0;
      place = 0;
      count = length (hits ks t);
      questions = questions ks t;
      energy = energy (hits ks t);
    }

pub record ForwardOf (v : Verdict) (ks : List Keyword) (t ws hs : List ℕ) (answer : Told) (ws' hs' : List ℕ) : Type 0 where
  pub answered : answer ≡ answer_or (forward_told ks t) v
  pub rows : ws' ≡ kept ws (with_rows forward ks ws) v
  pub listed : hs' ≡ kept hs (hit_buffer (hits ks t) hs) v

-- its tests: 1 to 6, 8 and 9
unfoldable pub forward_verdict : List ℕ → List ℕ → ℕ → Verdict
forward_verdict s t room = or_else (file_verdict s) (entry_verdict forward (keywords s) (length t) room)

abbrev pub Forward : List ℕ → List ℕ → List ℕ → List ℕ → Told → List ℕ → List ℕ → Type 0
Forward s t ws hs = ForwardOf (forward_verdict s t (length ws)) (keywords s) t ws hs

-- The backward scan, where the same tests said v: then 10 to 14, after which the workspace holds the rows.
unfoldable pub backward_told : List Keyword → List ℕ → List ℕ → List ℕ → Told
backward_told ks t rowf bytef =
    record {
      number = 0;
      place = 0;
      count = length (hits ks t);
      questions = run_questions ks rowf bytef t;
      energy = energy (hits ks t);
    }

pub record BackwardOf (v : Verdict) (ks : List Keyword) (t rowf bytef ws hs : List ℕ) (answer : Told) (ws' hs' : List ℕ) : Type 0 where
  pub answered : answer ≡ answer_or (backward_told ks t rowf bytef) (or_else v (table_verdict ks rowf bytef))
  pub rows : ws' ≡ kept ws (with_rows backward ks ws) v
  pub listed : hs' ≡ kept hs (hit_buffer (hits ks t) hs) (or_else v (table_verdict ks rowf bytef))

unfoldable pub backward_entry : List ℕ → List ℕ → ℕ → Verdict
backward_entry s t room = or_else (file_verdict s) (entry_verdict backward (keywords s) (length t) room)

abbrev pub Backward : List ℕ → List ℕ → List ℕ → List ℕ → List ℕ → List ℕ → Told → List ℕ → List ℕ → Type 0
Backward s t rowf bytef ws hs = BackwardOf (backward_entry s t (length ws)) (keywords s) t rowf bytef ws hs

-- Making and the check have no trace: tests 1 to 6 and 9 before the workspace is written.
unfoldable pub table_entry : List ℕ → ℕ → Verdict
table_entry s room = or_else (file_verdict s) (workspace_verdict backward (keywords s) room)

-- how many rows there are, as making and the check answer it
unfoldable pub rows_told : List Keyword → Told
rows_told ks = told_count (length (rows_of backward ks))

-- Making, where those tests said v: then 15 and 16.
unfoldable pub make_verdict : Verdict → List Keyword → ℕ → ℕ → Verdict
make_verdict v ks row_room byte_room = or_else v (buffer_verdict ks row_room byte_room)

pub record MakeOf (v : Verdict) (ks : List Keyword) (ws rowb byteb : List ℕ) (answer : Told) (ws' rowb' byteb' : List ℕ) : Type 0 where
  pub answered : answer ≡ answer_or (rows_told ks) (make_verdict v ks (length rowb) (length byteb))
  pub rows : ws' ≡ kept ws (with_rows backward ks ws) v
  pub rows_made : rowb' ≡ kept rowb (over (row_file ks) rowb) (make_verdict v ks (length rowb) (length byteb))
  pub bytes_made : byteb' ≡ kept byteb (over (byte_file ks) byteb) (make_verdict v ks (length rowb) (length byteb))

abbrev pub Make : List ℕ → List ℕ → List ℕ → List ℕ → Told → List ℕ → List ℕ → List ℕ → Type 0
Make s ws rowb byteb = MakeOf (table_entry s (length ws)) (keywords s) ws rowb byteb

-- The check, where they said v: then 10 to 14.
pub record CheckOf (v : Verdict) (ks : List Keyword) (rowf bytef ws : List ℕ) (answer : Told) (ws' : List ℕ) : Type 0 where
  pub answered : answer ≡ answer_or (rows_told ks) (or_else v (table_verdict ks rowf bytef))
  pub rows : ws' ≡ kept ws (with_rows backward ks ws) v

abbrev pub Check : List ℕ → List ℕ → List ℕ → List ℕ → Told → List ℕ → Type 0
Check s rowf bytef ws = CheckOf (table_entry s (length ws)) (keywords s) rowf bytef ws

-- The host call: 17, then 1 to 6 and 8, on which the answer is written too.
unfoldable pub host_verdict : List ℕ → List ℕ → Verdict
host_verdict s t = or_else (file_verdict s) (trace_verdict (length t))

unfoldable pub host_told : List ℕ → List ℕ → Told
host_told s t = answer_or (forward_told (keywords s) t) (host_verdict s t)

pub record Host (s t answer : List ℕ) (result : ℕ) (answer' : List ℕ) : Type 0 where
  pub numbered : result ≡ on_pass (λ n p. n) (host_told s t).number (answer_verdict (length answer))
  pub written : answer' ≡ kept answer (over (answer_bytes (host_told s t)) answer) (answer_verdict (length answer))
