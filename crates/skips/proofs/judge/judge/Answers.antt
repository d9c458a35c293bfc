-- Each way out is the first test of the table that shows a fault, and the last where none does.
use Prim.Native.Nat.{◌≤◌}
use native.Mathlib.Omega.{arith}
use mathlib.Core.Path.{◌≡◌, sym, ◌∙◌, ap}
use Rattle.std.proofs.lemmas.Result.{err_from_is_err_and}
use Rattle.rules.specs.sets.Limits.{most_rows}
use Rattle.rules.specs.rows.Rows.{backward}
use Rattle.rules.specs.skips.Skips.{suffix_rows}
use Rattle.rules.specs.answers.Refusals.{pass, row_verdicts}
use Rattle.rules.specs.answers.Promises.{verdict_of}
use Rattle.rules.proofs.rows.Most.{rows_few}
use Rattle.words.specs.Items.{keywords_in}
use Rattle.skips.proofs.Tested.{table_size, table_rows, table_bytes, table_fars}
use Rattle.skips.proofs.judge.judge.Goals as goal
use Rattle.skips.proofs.judge.judge.Goals.{In_ok-judge_rows, Start}

few : (c : Start) → c.args.set.rows ≤ most_rows
few c =
    let set = c.args.set in
    omega (arith, set.counted, rows_few backward (keywords_in set.words.list.now) set.words.sound)

pub overflow_mul-set : goal.overflow_mul-set
overflow_mul-set c = omega (arith, few (goal.at.overflow_mul-set c).Start)

pub overflow_cast-result : goal.overflow_cast-result
overflow_cast-result c = omega (arith, few (goal.at.overflow_cast-result c).Start)

pub returns-then-table-set : goal.returns-then-table-set
returns-then-table-set c = sym (table_size _ _ _ _ c.args.set.counted c.if-table-set.true)

pub returns-in_err-judge_rows : goal.returns-in_err-judge_rows
returns-in_err-judge_rows c =
    let p = err_from_is_err_and c.from_residual.result c.from_residual.ensures.1 in
    let fault = sym c.judge_rows.ensures ∙ ap verdict_of c.in_err-judge_rows.was in
    rw (p.1, p.2) (sym (table_rows _ _ _ _ c.args.set.counted c.if-table-set.false fault))

-- the row file passed
passed : (c : In_ok-judge_rows)
    → let ks = keywords_in c.args.set.words.list.now in
    row_verdicts ks 0 (suffix_rows ks) c.args.table.row_file.now ≡ pass
passed c = sym c.judge_rows.ensures ∙ ap verdict_of c.in_ok-judge_rows.was

pub returns-then-table-ne-BYTES : goal.returns-then-table-ne-BYTES
returns-then-table-ne-BYTES c =
    let rows = passed (goal.at.returns-then-table-ne-BYTES c).In_ok-judge_rows in
    sym (table_bytes _ _ _ _ c.args.set.counted c.if-table-set.false rows c.if-table-ne-BYTES.true)

pub returns : goal.returns
returns c =
    let rows = passed (goal.at.returns c).In_ok-judge_rows in
    c.judge_bytes.ensures ∙ table_fars _ _ _ _ c.args.set.counted c.if-table-set.false rows c.if-table-ne-BYTES.false
