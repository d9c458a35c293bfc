-- An answer that is one number tells the verdict and the number: no refusal has the number 0, and each has its own.
use Prim.Native.Nat.{ℕ, ◌≤◌}
use native.Mathlib.Omega.{arith}
use mathlib.Core.Path.{◌≡◌, refl, ap}
use mathlib.Core.Bool.{true}
use Rattle.std.specs.Prelude.{Ok, Err}
use Rattle.rules.specs.declared.Refusal.{Refusal}
use Rattle.rules.specs.declared.Refusal.TheVariants.{SetEmpty, SetSize, TooManyKeywords, Length, Padding, Repeated, TraceTooLong, WorkspaceShort, RowFileSize, RowNamesAnother, RowNumber, ByteFileSize, FarNumber, RowBufferShort, ByteBufferShort, AnswerShort}
use Rattle.rules.specs.answers.Refusals.{Verdict, pass, refuse}
use Rattle.rules.specs.answers.Answers.{Told, number_of, place_of, told_count, told_counted, told_refusal}
use Rattle.rules.specs.answers.Promises.{on_pass, answer_or}
use Rattle.rules.proofs.answers.Refused.{in_table, given, Numbered, answered_passed}

-- each refusal's number is one of the table's
pub refusal_given : (r : Refusal) → in_table (number_of r) ≡ true
refusal_given SetEmpty = refl
refusal_given SetSize = refl
refusal_given TooManyKeywords = refl
refusal_given (Length i) = refl
refusal_given (Padding i) = refl
refusal_given (Repeated i) = refl
refusal_given TraceTooLong = refl
refusal_given (WorkspaceShort n) = refl
refusal_given (RowFileSize n) = refl
refusal_given (RowNamesAnother i) = refl
refusal_given (RowNumber i) = refl
refusal_given ByteFileSize = refl
refusal_given (FarNumber p) = refl
refusal_given (RowBufferShort n) = refl
refusal_given ByteBufferShort = refl
refusal_given AnswerShort = refl

pub refusal-numbered : (r : Refusal) → 1 ≤ number_of r
refusal-numbered r = (given (number_of r) (refusal_given r)).some

-- a refusal's answer, whatever would have been answered else
pub answer_refused : (a : Told) {v : Verdict} {n p : ℕ} → v ≡ refuse n p → told_refusal n p ≡ answer_or a v
unfolding answer_or on_pass
answer_refused a e = rw e

pub answer_passed : (a : Told) {v : Verdict} → v ≡ pass → a ≡ answer_or a v
unfolding answer_or on_pass
answer_passed a e = rw e

-- what a number says, and what a refusal
pub counted_number : {m : ℕ} (n : ℕ) (v : Verdict) → Numbered v → told_counted (Ok m) ≡ answer_or (told_count n) v → (v ≡ pass) × (m ≡ n)
unfolding answer_or on_pass
counted_number {m} n v numbered e =
    let passed : v ≡ pass = answered_passed (told_count n) v numbered e refl in
    (passed, ap (λ (a : Told). a.count) (rw passed at e))

pub counted_refused : (fault : Refusal) (a : Told) (v : Verdict) → a.number ≡ 0 → told_counted (Err fault) ≡ answer_or a v → v ≡ refuse (number_of fault) (place_of fault)
unfolding answer_or on_pass
counted_refused fault a pass zero e = absurd (omega (arith, ap (λ (t : Told). t.number) e, refusal-numbered fault))
counted_refused fault a (refuse n p) zero e =
    let number : number_of fault ≡ n = ap (λ (t : Told). t.number) e in
    let place : place_of fault ≡ p = ap (λ (t : Told). t.place) e in
    rw (number, place)
