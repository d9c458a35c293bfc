-- What a job begins with, once its keywords are read.
use Rattle.std.specs.Prelude.{ℕ, ◌≡◌, List, length, Result}
use Rattle.rules.specs.declared.Refusal.{Refusal}
use Rattle.rules.specs.sets.Sets.{Keyword}
use Rattle.rules.specs.rows.Rows.{Way, rows_of}
use Rattle.rules.specs.answers.Refusals.{entry_verdict}
use Rattle.rules.specs.answers.Answers.{told_count, told_counted}
use Rattle.rules.specs.answers.Promises.{kept, answer_or, with_rows}

-- the tests 8 and 9 for a trace of n bytes, the number of rows where they pass, and the workspace with the rows then
pub record Begun (way : Way) (ks : List Keyword) (n : ℕ) (ws : List ℕ) (r : Result ℕ Refusal) (ws' : List ℕ) : Type 0 where
  pub told : told_counted r ≡ answer_or (told_count (length (rows_of way ks))) (entry_verdict way ks n (length ws))
  pub rows : ws' ≡ kept ws (with_rows way ks ws) (entry_verdict way ks n (length ws))
