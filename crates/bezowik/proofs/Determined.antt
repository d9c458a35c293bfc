-- No input has two outcomes: a short answer buffer leaves everything as it was, and else the job's promise fixes its
-- answer and its buffers, and the answer fixes the result and the twenty bytes.
use Prim.Native.Nat.{ℕ}
use mathlib.Core.Path.{◌≡◌, sym, ◌∙◌, ap}
use mathlib.Core.List.{List}
use Rattle.rules.specs.answers.Answers.{Told}
use Rattle.bezowik.specs.declared.answer.Answer.{Answer}
use Rattle.bezowik.specs.Calls.{told_of, Telling, ForwardCall, BackwardCall, MakeCall, CheckCall}
use Rattle.bezowik.proofs.Telling.{by_size}

-- an answer's numbers are all that it has
pub answer_determined : (a b : Answer) → told_of a ≡ told_of b → a ≡ b
answer_determined a b e = ap answer_of e
  where
    answer_of : Told → Answer
    answer_of t = record { number = t.number; place = t.place; count = t.count; questions = t.questions; energy = t.energy }

-- one answer told twice
told_once : {answer : List ℕ} {a b : Told} {r q : ℕ} {answer' answer'' : List ℕ} → a ≡ b → Telling answer a r answer' → Telling answer b q answer'' → (r ≡ q) × (answer' ≡ answer'')
told_once e f g = (cc, cc)

module _ {s answer : List ℕ} {r q : ℕ} {answer' answer'' : List ℕ} where
  pub forward_call_determined : {t ws hs ws' ws'' hs' hs'' : List ℕ}
      → ForwardCall s t ws hs answer r ws' hs' answer'
      → ForwardCall s t ws hs answer q ws'' hs'' answer''
      → (r ≡ q) × (ws' ≡ ws'') × (hs' ≡ hs'') × (answer' ≡ answer'')
  forward_call_determined f g =
      by_size answer
      (λ h. let (a, b, c, d) = f.short h in let (a', b', c', d') = g.short h in (a ∙ sym a', b ∙ sym b', c ∙ sym c', d ∙ sym d'))
      (λ h.
      let (a, job, telling) = f.called h in
      let (b, job', telling') = g.called h in
      let (number, bytes) = told_once (job.answered ∙ sym job'.answered) telling telling' in
      (number, job.rows ∙ sym job'.rows, job.listed ∙ sym job'.listed, bytes))

  pub backward_call_determined : {t rowf bytef ws hs ws' ws'' hs' hs'' : List ℕ}
      → BackwardCall s t rowf bytef ws hs answer r ws' hs' answer'
      → BackwardCall s t rowf bytef ws hs answer q ws'' hs'' answer''
      → (r ≡ q) × (ws' ≡ ws'') × (hs' ≡ hs'') × (answer' ≡ answer'')
  backward_call_determined f g =
      by_size answer
      (λ h. let (a, b, c, d) = f.short h in let (a', b', c', d') = g.short h in (a ∙ sym a', b ∙ sym b', c ∙ sym c', d ∙ sym d'))
      (λ h.
      let (a, job, telling) = f.called h in
      let (b, job', telling') = g.called h in
      let (number, bytes) = told_once (job.answered ∙ sym job'.answered) telling telling' in
      (number, job.rows ∙ sym job'.rows, job.listed ∙ sym job'.listed, bytes))

  pub make_call_determined : {ws rowb byteb ws' ws'' rowb' rowb'' byteb' byteb'' : List ℕ}
      → MakeCall s ws rowb byteb answer r ws' rowb' byteb' answer'
      → MakeCall s ws rowb byteb answer q ws'' rowb'' byteb'' answer''
      → (r ≡ q) × (ws' ≡ ws'') × (rowb' ≡ rowb'') × (byteb' ≡ byteb'') × (answer' ≡ answer'')
  make_call_determined f g =
      by_size answer
      (λ h.
      let (a, b, c, d, e) = f.short h in
      let (a', b', c', d', e') = g.short h in
      (a ∙ sym a', b ∙ sym b', c ∙ sym c', d ∙ sym d', e ∙ sym e'))
      (λ h.
      let (a, job, telling) = f.called h in
      let (b, job', telling') = g.called h in
      let (number, bytes) = told_once (job.answered ∙ sym job'.answered) telling telling' in
      (number, job.rows ∙ sym job'.rows, job.rows_made ∙ sym job'.rows_made, job.bytes_made ∙ sym job'.bytes_made, bytes))

  pub check_call_determined : {rowf bytef ws ws' ws'' : List ℕ}
      → CheckCall s rowf bytef ws answer r ws' answer'
      → CheckCall s rowf bytef ws answer q ws'' answer''
      → (r ≡ q) × (ws' ≡ ws'') × (answer' ≡ answer'')
  check_call_determined f g =
      by_size answer (λ h. let (a, b, c) = f.short h in let (a', b', c') = g.short h in (a ∙ sym a', b ∙ sym b', c ∙ sym c'))
      (λ h.
      let (a, job, telling) = f.called h in
      let (b, job', telling') = g.called h in
      let (number, bytes) = told_once (job.answered ∙ sym job'.answered) telling telling' in
      (number, job.rows ∙ sym job'.rows, bytes))
