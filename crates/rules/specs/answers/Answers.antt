-- What document 01 says of each answer: its number, its place and its values.
use Rattle.std.specs.Prelude.{ℕ, zero, suc, ◌/◌, ◌%◌, List, [], ◌∷◌, ◌++◌, Result, Ok, Err, codes, decimal}
use Rattle.rules.specs.declared.Totals.{Totals}
use Rattle.rules.specs.declared.Refusal.{Refusal}
use Rattle.rules.specs.declared.Refusal.TheVariants.{SetEmpty, SetSize, TooManyKeywords, Length, Padding, Repeated, TraceTooLong, WorkspaceShort, RowFileSize, RowNamesAnother, RowNumber, ByteFileSize, FarNumber, RowBufferShort, ByteBufferShort, AnswerShort}

-- document 01's table of refusals: the number, and the place or 0 where none is named; no refusal has the number 7
abbrev pub number_and_place : Refusal → ℕ × ℕ
number_and_place SetEmpty = (1, 0)
number_and_place SetSize = (2, 0)
number_and_place TooManyKeywords = (3, 0)
number_and_place (Length i) = (4, i)
number_and_place (Padding i) = (5, i)
number_and_place (Repeated i) = (6, i)
number_and_place TraceTooLong = (8, 0)
number_and_place (WorkspaceShort n) = (9, n)
number_and_place (RowFileSize n) = (10, n)
number_and_place (RowNamesAnother i) = (11, i)
number_and_place (RowNumber i) = (12, i)
number_and_place ByteFileSize = (13, 0)
number_and_place (FarNumber p) = (14, p)
number_and_place (RowBufferShort n) = (15, n)
number_and_place ByteBufferShort = (16, 0)
number_and_place AnswerShort = (17, 0)

abbrev pub number_of : Refusal → ℕ
number_of r = (number_and_place r).0

abbrev pub place_of : Refusal → ℕ
place_of r = (number_and_place r).1

-- what the program prints of it
abbrev pub refusal_text : Refusal → List ℕ
refusal_text r = codes "refusal " ++ decimal (number_of r) ++ codes " " ++ decimal (place_of r)

-- an answer in document 01's numbers; number 0 is no refusal
pub record Told : Type 0 where
  pub number : ℕ
  pub place : ℕ
  pub count : ℕ
  pub questions : ℕ
  pub energy : ℕ

-- on a refusal the last three are zero
abbrev pub told_refusal : ℕ → ℕ → Told
told_refusal n p = record { number = n; place = p; count = 0; questions = 0; energy = 0 }

-- what a scan answers
abbrev pub told : Result Totals Refusal → Told
told (Ok t) =
    record { number = 0; place = 0; count = t.count; questions = t.questions; energy = t.energy }
told (Err r) = told_refusal (number_of r) (place_of r)

-- a number alone, of keywords or of rows: it stands where a scan has its count
abbrev pub told_count : ℕ → Told
told_count n = record { number = 0; place = 0; count = n; questions = 0; energy = 0 }

-- what tests answer, and making and the check
abbrev pub told_counted : Result ℕ Refusal → Told
told_counted (Ok n) = told_count n
told_counted (Err r) = told_refusal (number_of r) (place_of r)

-- the n low bytes of x, the lowest first
unfoldable pub low_first : ℕ → ℕ → List ℕ
low_first zero x = []
low_first (suc n) x = x % 256 ∷ low_first n (x / 256)

-- the host call's answer: number, place, count, questions, energy
unfoldable pub answer_bytes : Told → List ℕ
answer_bytes a =
    low_first 2 a.number
    ++ low_first 2 a.place
    ++ low_first 4 a.count
    ++ low_first 4 a.questions
    ++ low_first 8 a.energy
