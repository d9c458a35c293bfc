-- The check answers with no refusal exactly where the tests before it pass and the table is safe: no refusal has the
-- number 0.
use Prim.Native.Nat.{ℕ}
use mathlib.Core.Path.{◌≡◌, refl, ap, ◌∙◌, sym}
use mathlib.Core.Logic.{◌↔◌}
use mathlib.Core.List.{List}
use lib.ListN.{length}
use Rattle.rules.specs.sets.Sets.{Keyword, keywords}
use Rattle.rules.specs.rows.Rows.{backward}
use Rattle.rules.specs.answers.Refusals.{Verdict, pass, or_else, table_verdict}
use Rattle.rules.specs.answers.Answers.{Told}
use Rattle.rules.specs.answers.Promises.{rows_told, table_entry, Check, CheckOf}
use Rattle.rules.specs.scans.Audit.{Accepted}
use Rattle.rules.proofs.answers.Verdicts.{or_else_pass, or_else_exactly}
use Rattle.rules.proofs.answers.Refused.{Numbered, numbered_both, numbered_file, numbered-workspace, numbered_table, answered_passed}
use Rattle.rules.proofs.answers.Counts.{answer_passed}
use Rattle.rules.proofs.skips.Tables.{accepted_exactly}

pub rows-told : (ks : List Keyword) → (rows_told ks).number ≡ 0
unfolding rows_told
rows-told ks = refl

-- Whatever the tests v before it are.
module _ {v : Verdict} {ks : List Keyword} {rowf bytef ws : List ℕ} {answer : Told} {ws' : List ℕ}
    (checked : CheckOf v ks rowf bytef ws answer ws') where
  pub check_answers : v ≡ pass → Accepted ks rowf bytef → answer ≡ rows_told ks
  check_answers entry safe =
      let passed : or_else v (table_verdict ks rowf bytef) ≡ pass =
      (or_else_exactly v (table_verdict ks rowf bytef)).1 (entry, (accepted_exactly ks rowf bytef).1 safe) in
      checked.answered ∙ sym (answer_passed (rows_told ks) passed)

  pub check_passed : Numbered v → answer.number ≡ 0 → (v ≡ pass) × (table_verdict ks rowf bytef ≡ pass)
  check_passed fine e =
      or_else_pass v (table_verdict ks rowf bytef)
      (answered_passed (rows_told ks) (or_else v (table_verdict ks rowf bytef))
      (numbered_both v (table_verdict ks rowf bytef) fine (numbered_table ks rowf bytef))
      checked.answered
      e)

  pub check_exactly : Numbered v → (answer.number ≡ 0) ↔ ((v ≡ pass) × Accepted ks rowf bytef)
  check_exactly fine = (
    λ e. let both = check_passed fine e in (both.0, (accepted_exactly ks rowf bytef).0 both.1),
    λ k. ap (λ (t : Told). t.number) (check_answers k.0 k.1) ∙ rows-told ks,
  )

-- The check of a set's bytes accepts exactly the safe tables.
pub entry-numbered : (s : List ℕ) (room : ℕ) → Numbered (table_entry s room)
unfolding table_entry
entry-numbered s room = numbered_both _ _ (numbered_file s) (numbered-workspace backward (keywords s) room)

pub check_accepts : (s : List ℕ) {rowf bytef ws : List ℕ} {answer : Told} {ws' : List ℕ} → Check s rowf bytef ws answer ws'
    → (answer.number ≡ 0) ↔ ((table_entry s (length ws) ≡ pass) × Accepted (keywords s) rowf bytef)
check_accepts s {ws = ws} checked = check_exactly checked (entry-numbered s (length ws))
