-- A set's records while they are read, one by one.
use Rattle.std.specs.Prelude.{Result, Ok, Err, ℕ, ◌+◌, ◌-◌, ◌*◌, ◌≤◌, ◌<◌, ◌≡◌, Bool, not, List, [], length, take, get_or, drop, eqb}
use Rattle.rules.specs.declared.Refusal.{Refusal}
use Rattle.rules.specs.sets.Limits.{record_size, longest_word, most_keywords}
use Rattle.rules.specs.strings.Strings.{any}
use Rattle.rules.specs.sets.Sets.{keywords, keywords_from}
use Rattle.rules.specs.answers.Refusals.{pass, refuse, record_verdict, record_verdicts, file_verdict}
use Rattle.rules.specs.answers.Answers.{number_of, place_of}
use Rattle.rules.specs.answers.Promises.{verdict_of}
use Rattle.rules.specs.Beside.{Sound, record_at}
use Rattle.words.specs.Items.{item_size, keywords_in, Begins}
use Rattle.words.specs.declared.Keywords.{Keywords}

-- the record r is whole and states the length n, which a keyword may have
pub record Stated (r : List ℕ) (n : ℕ) : Type 0 where
  pub whole : length r ≡ record_size
  pub stated : get_or r 0 0 ≡ n
  pub short : n ≤ longest_word

-- some byte of the record r behind the n of its keyword is not zero
unfoldable pub padding_fault : List ℕ → ℕ → Bool
padding_fault r n = any (λ b. not (eqb b 0)) (take (longest_word - n) (drop (1 + n) r))

-- before record i is read: it is whole, those before it passed, and their keywords stand at the front of the list
pub record Reading (s : List ℕ) (i : ℕ) (l : List ℕ) : Type 0 where
  pub whole : record_size * i + record_size ≤ length s
  pub few : i < most_keywords
  pub room : item_size * most_keywords ≤ length l
  pub passed : record_verdicts i 0 [] s ≡ pass
  pub begins : Begins l (keywords_from 0 i s)

-- then: the tests 4, 5 and 6 of record i, and where they pass its keyword behind the others
pub record RecordRead (s : List ℕ) (i : ℕ) (r : Result (Unit {0}) Refusal) (l' : List ℕ) : Type 0 where
  pub told : verdict_of r ≡ record_verdict i (keywords_from 0 i s) (record_at s i)
  pub begins : record_verdict i (keywords_from 0 i s) (record_at s i) ≡ pass → Begins l' (keywords_from 0 (i + 1) s)

-- all records: the tests 1 to 6; where they pass the number of keywords, which are sound and stand at the front of the
-- list
abbrev pub Read : List ℕ → Result ℕ Refusal → List ℕ → Type 0
Read s (Ok n) l' = (file_verdict s ≡ pass) × (n ≡ length (keywords s)) × Begins l' (keywords s) × Sound (keywords s)
Read s (Err fault) l' = file_verdict s ≡ refuse (number_of fault) (place_of fault)

-- the keywords as a value, lent from the list where the tests pass, and else the refusal
abbrev pub Lent : List ℕ → Result Keywords Refusal → Type 0
Lent s (Ok words) = (file_verdict s ≡ pass) × (keywords_in words.list.now ≡ keywords s)
Lent s (Err fault) = file_verdict s ≡ refuse (number_of fault) (place_of fault)
