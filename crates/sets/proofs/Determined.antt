-- The verdict says which refusal it was; where it passes, the keywords are the set's, and so is how many there are.
use Prim.Native.Nat.{ℕ}
use mathlib.Core.Path.{◌≡◌, sym, ◌∙◌, ap}
use mathlib.Core.List.{List}
use lib.ListN.{length}
use Rattle.std.specs.Prelude.{Result, Ok, Err}
use Rattle.rules.specs.declared.Refusal.{Refusal}
use Rattle.rules.specs.sets.Sets.{Keyword, keywords}
use Rattle.rules.specs.answers.Refusals.{pass, refuse, file_verdict}
use Rattle.rules.specs.answers.Promises.{on_pass, answer_or}
use Rattle.rules.specs.answers.Answers.{told_count, number_of, place_of}
use Rattle.rules.proofs.answers.Answers.{told_counted_injective}
use Rattle.rules.proofs.answers.Verdicts.{refuse_no_pass}
use Rattle.words.specs.Items.{keywords_in}
use Rattle.words.specs.declared.Keywords.{Keywords}
use Rattle.sets.specs.Reading.{Read, Lent}

-- an answer of the tests 1 to 6: a where they pass, and else the refusal
abbrev Says : {A : Type 0} → List ℕ → A → Result A Refusal → Type 0
Says s a (Ok b) = (file_verdict s ≡ pass) × (b ≡ a)
Says s a (Err fault) = file_verdict s ≡ refuse (number_of fault) (place_of fault)

says_once : {A : Type 0} (s : List ℕ) (a : A) (r q : Result A Refusal) → Says s a r → Says s a q → r ≡ q
unfolding answer_or on_pass
says_once s a (Ok x) (Ok y) (p, e) (p', e') = ap Ok (e ∙ sym e')
says_once s a (Ok x) (Err g) (p, e) e' = absurd (refuse_no_pass (sym e' ∙ p))
says_once s a (Err f) (Ok y) e (p, e') = absurd (refuse_no_pass (sym e ∙ p))
says_once s a (Err f) (Err g) e e' =
    ap (elim [ Ok n ↦ Err f | Err h ↦ Err h ]) (told_counted_injective (Err f) (Err g) (ap (answer_or (told_count 0)) (sym e ∙ e')))

-- the answer of the reader says how many keywords the set has
read_says : (s : List ℕ) (r : Result ℕ Refusal) (l : List ℕ) → Read s r l → Says s (length (keywords s)) r
read_says s (Ok n) l (p, counted, begins, sound) = (p, counted)
read_says s (Err fault) l e = e

pub read_determined : (s : List ℕ) (r q : Result ℕ Refusal) (l l' : List ℕ) → Read s r l → Read s q l' → r ≡ q
read_determined s r q l l' so so' = says_once s (length (keywords s)) r q (read_says s r l so) (read_says s q l' so')

-- what a caller has who is lent the keywords: them, or the refusal
abbrev pub told_keywords : Result Keywords Refusal → Result (List Keyword) Refusal
told_keywords (Ok words) = Ok (keywords_in words.list.now)
told_keywords (Err fault) = Err fault

lent_says : (s : List ℕ) (r : Result Keywords Refusal) → Lent s r → Says s (keywords s) (told_keywords r)
lent_says s (Ok words) so = so
lent_says s (Err fault) e = e

pub lent_determined : (s : List ℕ) (r q : Result Keywords Refusal) → Lent s r → Lent s q → told_keywords r ≡ told_keywords q
lent_determined s r q so so' = says_once s (keywords s) (told_keywords r) (told_keywords q) (lent_says s r so) (lent_says s q so')
