-- The numbers of an answer say which answer it was: from them it can be read back.
use Prim.Native.Nat.{ℕ, zero, suc, ◌^◌, ◌/◌, ◌%◌, ◌<◌}
use mathlib.Core.Path.{◌≡◌, refl, sym, ◌∙◌, ap}
use mathlib.Core.List.{List, [], ◌∷◌}
use lib.ListN.{length, get_or}
use native.Mathlib.Nat.{pow-suc}
use native.Mathlib.Omega.{arith}
use Rattle.std.specs.Prelude.{Result, Ok, Err}
use Rattle.rules.specs.declared.Totals.{Totals}
use Rattle.rules.specs.declared.Refusal.{Refusal}
use Rattle.rules.specs.declared.Refusal.TheVariants.{SetEmpty, SetSize, TooManyKeywords, Length, Padding, Repeated, TraceTooLong, WorkspaceShort, RowFileSize, RowNamesAnother, RowNumber, ByteFileSize, FarNumber, RowBufferShort, ByteBufferShort, AnswerShort}
use Rattle.rules.specs.sets.Limits.{answer_size}
use Rattle.rules.specs.answers.Answers.{number_of, place_of, Told, told, told_counted, low_first, answer_bytes}

-- what can be read back loses nothing
pub read_back {ℓ κ} : {A : Type ℓ} {B : Type κ} (f : A → B) (g : B → A) → ((a : A) → g (f a) ≡ a) → (a b : A) → f a ≡ f b → a ≡ b
read_back f g back a b e = sym (back a) ∙ ap g e ∙ back b

-- the refusals by number, from 1 on, each with the place p where it has one; at the number 7, which none has, any
refusals : ℕ → List Refusal
refusals p =
    SetEmpty
    ∷ SetSize
    ∷ TooManyKeywords
    ∷ Length p
    ∷ Padding p
    ∷ Repeated p
    ∷ SetEmpty
    ∷ TraceTooLong
    ∷ WorkspaceShort p
    ∷ RowFileSize p
    ∷ RowNamesAnother p
    ∷ RowNumber p
    ∷ ByteFileSize
    ∷ FarNumber p
    ∷ RowBufferShort p
    ∷ ByteBufferShort
    ∷ AnswerShort
    ∷ []

-- an answer by number and place: a where there is no refusal
answer_by : {A : Type 0} → A → (Refusal → A) → ℕ → ℕ → A
answer_by a f zero p = a
answer_by a f (suc n) p = f (get_or (refusals p) n SetEmpty)

answer_by_refusal : {A : Type 0} (a : A) (f : Refusal → A) (r : Refusal) → answer_by a f (number_of r) (place_of r) ≡ f r
unfolding answer_by refusals
answer_by_refusal a f SetEmpty = refl
answer_by_refusal a f SetSize = refl
answer_by_refusal a f TooManyKeywords = refl
answer_by_refusal a f (Length i) = refl
answer_by_refusal a f (Padding i) = refl
answer_by_refusal a f (Repeated i) = refl
answer_by_refusal a f TraceTooLong = refl
answer_by_refusal a f (WorkspaceShort n) = refl
answer_by_refusal a f (RowFileSize n) = refl
answer_by_refusal a f (RowNamesAnother i) = refl
answer_by_refusal a f (RowNumber i) = refl
answer_by_refusal a f ByteFileSize = refl
answer_by_refusal a f (FarNumber p) = refl
answer_by_refusal a f (RowBufferShort n) = refl
answer_by_refusal a f ByteBufferShort = refl
answer_by_refusal a f AnswerShort = refl

pub told_injective : (r q : Result Totals Refusal) → told r ≡ told q → r ≡ q
unfolding answer_by
told_injective = read_back told scanned_by back
  where
    found : Told → Result Totals Refusal
    found a = Ok (record { count = a.count; questions = a.questions; energy = a.energy })

    scanned_by : Told → Result Totals Refusal
    scanned_by a = answer_by (found a) Err a.number a.place

    back : (r : Result Totals Refusal) → scanned_by (told r) ≡ r
    back (Ok t) = refl
    back (Err r) = answer_by_refusal (found (told (Err r))) Err r

pub told_counted_injective : (r q : Result ℕ Refusal) → told_counted r ≡ told_counted q → r ≡ q
unfolding answer_by
told_counted_injective = read_back told_counted counted_by back
  where
    counted_by : Told → Result ℕ Refusal
    counted_by a = answer_by (Ok a.count) Err a.number a.place

    back : (r : Result ℕ Refusal) → counted_by (told_counted r) ≡ r
    back (Ok n) = refl
    back (Err r) = answer_by_refusal (Ok 0) Err r

-- The bytes of an answer.
pub length-answer_bytes : (a : Told) → length (answer_bytes a) ≡ answer_size
unfolding answer_bytes low_first
length-answer_bytes a = refl

pub low_first_injective : (n x y : ℕ) → x < 256 ^ n → y < 256 ^ n → low_first n x ≡ low_first n y → x ≡ y
unfolding low_first
low_first_injective zero x y p q e = omega arith
low_first_injective (suc n) x y p q e =
    let low : x % 256 ≡ y % 256 = cc in
    let rest : low_first n (x / 256) ≡ low_first n (y / 256) = cc in
    let smaller-x : x / 256 < 256 ^ n = omega (arith, pow-suc 256 n) in
    let smaller-y : y / 256 < 256 ^ n = omega (arith, pow-suc 256 n) in
    let high : x / 256 ≡ y / 256 = low_first_injective n (x / 256) (y / 256) smaller-x smaller-y rest in
    omega arith

-- an answer whose numbers have room in the twenty bytes
pub record Fits (a : Told) : Type 0 where
  pub number_fits : a.number < 256 ^ 2
  pub place_fits : a.place < 256 ^ 2
  pub count_fits : a.count < 256 ^ 4
  pub questions_fits : a.questions < 256 ^ 4
  pub energy_fits : a.energy < 256 ^ 8

pub answer_bytes_injective : (a b : Told) → Fits a → Fits b → answer_bytes a ≡ answer_bytes b → a ≡ b
unfolding answer_bytes low_first
answer_bytes_injective a b f g e =
    let n : a.number ≡ b.number = low_first_injective 2 a.number b.number f.number_fits g.number_fits (cc) in
    let p : a.place ≡ b.place = low_first_injective 2 a.place b.place f.place_fits g.place_fits (cc) in
    let c : a.count ≡ b.count = low_first_injective 4 a.count b.count f.count_fits g.count_fits (cc) in
    let q : a.questions ≡ b.questions = low_first_injective 4 a.questions b.questions f.questions_fits g.questions_fits (cc) in
    let j : a.energy ≡ b.energy = low_first_injective 8 a.energy b.energy f.energy_fits g.energy_fits (cc) in
    λ i. record { number = n i; place = p i; count = c i; questions = q i; energy = j i }
