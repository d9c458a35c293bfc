-- Nothing is lost in the twenty bytes: the numbers of each call's answer fit their places, so the bytes say which
-- numbers they were.
use Prim.Native.Nat.{ℕ, ◌≤◌, ◌<◌}
use mathlib.Core.Path.{◌≡◌, sym, ◌∙◌, ap}
use mathlib.Core.List.{List}
use lib.ListN.{length, get_or, take, drop}
use lib.Seq.{take_at}
use Rattle.rules.specs.sets.Limits.{answer_size, opcodes}
use Rattle.rules.specs.scans.Hits.{over}
use Rattle.rules.specs.answers.Answers.{Told, answer_bytes}
use Rattle.rules.specs.answers.Promises.{Forward, Backward, Make, Check}
use Rattle.rules.proofs.answers.Answers.{Fits, length-answer_bytes, answer_bytes_injective}
use Rattle.rules.proofs.answers.Fits.{within_fits, forward_within, backward_within, make_within, check_within}
use Rattle.bezowik.specs.Calls.{Telling, ForwardCall, BackwardCall, MakeCall, CheckCall}

-- the first twenty bytes are the answer's, and no other answer's
telling_bytes : {answer : List ℕ} {a : Told} {r : ℕ} {answer' : List ℕ} → Telling answer a r answer' → take answer_size answer' ≡ answer_bytes a
unfolding over
telling_bytes {answer} {a} told =
    ap (take answer_size) told.written
    ∙ take_at (answer_bytes a) (drop (length (answer_bytes a)) answer) answer_size (length-answer_bytes a)

-- what the call answered: its numbers, which its bytes determine
pub record Numbers (P : Told → Type 0) (r : ℕ) (answer' : List ℕ) : Type 0 where
  pub told : Told
  pub promised : P told
  pub numbered : r ≡ told.number
  pub only : (b : Told) → Fits b → take answer_size answer' ≡ answer_bytes b → b ≡ told

numbers : (P : Told → Type 0) {answer : List ℕ} {r : ℕ} {answer' : List ℕ}
    → ((a : Told) → P a → Fits a)
    → ((a : Told) × P a × Telling answer a r answer')
    → Numbers P r answer'
numbers P fits (a, promise, telling) =
    record {
      told = a;
      promised = promise;
      numbered = telling.numbered;
      only = λ b fit e. answer_bytes_injective b a fit (fits a promise) (sym e ∙ telling_bytes telling);
    }

module _ (s : List ℕ) {answer : List ℕ} {r : ℕ} {answer' : List ℕ} (room : answer_size ≤ length answer) where
  pub make_numbers : {ws rowb byteb ws' rowb' byteb' : List ℕ}
      → MakeCall s ws rowb byteb answer r ws' rowb' byteb' answer'
      → Numbers (λ a. Make s ws rowb byteb a ws' rowb' byteb') r answer'
  make_numbers call = numbers _ (λ a promise. within_fits (make_within s promise)) (call.called room)

  pub check_numbers : {rowf bytef ws ws' : List ℕ}
      → CheckCall s rowf bytef ws answer r ws' answer'
      → Numbers (λ a. Check s rowf bytef ws a ws') r answer'
  check_numbers call = numbers _ (λ a promise. within_fits (check_within s promise)) (call.called room)

  -- a scan's counters have room for what bytes can say
  module _ (bytes : (i : ℕ) → get_or s i 0 < opcodes) where
    pub forward_numbers : {t ws hs ws' hs' : List ℕ}
        → ForwardCall s t ws hs answer r ws' hs' answer'
        → Numbers (λ a. Forward s t ws hs a ws' hs') r answer'
    forward_numbers call = numbers _ (λ a promise. within_fits (forward_within s bytes promise)) (call.called room)

    pub backward_numbers : {t rowf bytef ws hs ws' hs' : List ℕ}
        → BackwardCall s t rowf bytef ws hs answer r ws' hs' answer'
        → Numbers (λ a. Backward s t rowf bytef ws hs a ws' hs') r answer'
    backward_numbers call = numbers _ (λ a promise. within_fits (backward_within s bytes promise)) (call.called room)
