-- The calls of the bench group: the job's own promise, with the answer in its twenty bytes; 17 where the buffer is
-- shorter.
use Rattle.std.specs.Prelude.{ℕ, ◌≤◌, ◌<◌, ◌≡◌, List, length}
use Rattle.rules.specs.sets.Limits.{answer_size}
use Rattle.rules.specs.scans.Hits.{over}
use Rattle.rules.specs.answers.Answers.{Told, answer_bytes}
use Rattle.rules.specs.answers.Promises.{Forward, Backward, Make, Check}
use Rattle.bezowik.specs.declared.answer.Answer.{Answer}

-- an answer's value in document 01's numbers
abbrev pub told_of : Answer → Told
told_of a =
    record { number = a.number; place = a.place; count = a.count; questions = a.questions; energy = a.energy }

-- the answer a is told: its number is the result, and its bytes stand at the front of the buffer
pub record Telling (answer : List ℕ) (a : Told) (result : ℕ) (answer' : List ℕ) : Type 0 where
  pub numbered : result ≡ a.number
  pub written : answer' ≡ over (answer_bytes a) answer

-- the forward scan
pub record ForwardCall (s t ws hs answer : List ℕ) (result : ℕ) (ws' hs' answer' : List ℕ) : Type 0 where
  pub short : length answer < answer_size → (result ≡ 17) × (ws' ≡ ws) × (hs' ≡ hs) × (answer' ≡ answer)
  pub called : answer_size ≤ length answer → (a : Told) × Forward s t ws hs a ws' hs' × Telling answer a result answer'

-- the backward scan
pub record BackwardCall (s t rowf bytef ws hs answer : List ℕ) (result : ℕ) (ws' hs' answer' : List ℕ) : Type 0 where
  pub short : length answer < answer_size → (result ≡ 17) × (ws' ≡ ws) × (hs' ≡ hs) × (answer' ≡ answer)
  pub called : answer_size ≤ length answer → (a : Told) × Backward s t rowf bytef ws hs a ws' hs' × Telling answer a result answer'

-- making
pub record MakeCall (s ws rowb byteb answer : List ℕ) (result : ℕ) (ws' rowb' byteb' answer' : List ℕ) : Type 0 where
  pub short : length answer < answer_size → (result ≡ 17) × (ws' ≡ ws) × (rowb' ≡ rowb) × (byteb' ≡ byteb) × (answer' ≡ answer)
  pub called : answer_size ≤ length answer → (a : Told) × Make s ws rowb byteb a ws' rowb' byteb' × Telling answer a result answer'

-- the check
pub record CheckCall (s rowf bytef ws answer : List ℕ) (result : ℕ) (ws' answer' : List ℕ) : Type 0 where
  pub short : length answer < answer_size → (result ≡ 17) × (ws' ≡ ws) × (answer' ≡ answer)
  pub called : answer_size ≤ length answer → (a : Told) × Check s rowf bytef ws a ws' × Telling answer a result answer'
