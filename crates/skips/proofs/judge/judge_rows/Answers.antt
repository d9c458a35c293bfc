-- The rows before one passed, and the walk is at its suffix, so its record's fault decides.
use native.Mathlib.Omega.{arith}
use mathlib.Core.Path.{◌∙◌, ap}
use Rattle.std.proofs.lemmas.Result.{err_from_is_err_and}
use Rattle.rules.specs.rows.Rows.{backward}
use Rattle.rules.specs.answers.Promises.{verdict_of}
use Rattle.rules.proofs.rows.Most.{rows_few}
use Rattle.rules.proofs.skips.Tables.{suffix_rows-length}
use Rattle.words.specs.Items.{keywords_in}
use Rattle.skips.proofs.Rowwise.{RowTold, rows_none, row_told, rows_stop, rows_more, rows_all}
use Rattle.skips.proofs.judge.judge_rows.Goals as goal
use Rattle.skips.proofs.judge.judge_rows.Goals.{After-fault, After-fault-in-loop-row}

-- what is known of row 0 once its record is compared
told_first : (c : After-fault)
    → RowTold (keywords_in c.args.set.words.list.now) c.args.file.now c.first-row.result.number (verdict_of c.fault.result)
told_first c =
    let row = c.first-row in
    row_told (ap keywords_in row.ensures.1) row.result.stands c.record_of.ensures c.fault.ensures (rw row.ensures.0 (rows_none _ _))

pub returns-in_err-fault : goal.returns-in_err-fault
returns-in_err-fault c =
    let p = err_from_is_err_and c.from_residual.result c.from_residual.ensures.1 in
    let told = told_first (goal.at.returns-in_err-fault c).After-fault in
    rw (p.1, p.2) (rows_stop told (ap verdict_of c.in_err-fault.was))

pub loop-row-init : goal.loop-row-init
loop-row-init c =
    (c.first-row.ensures.1, rows_more (told_first (goal.at.loop-row-init c).After-fault) (ap verdict_of c.in_ok-fault.was))

pub fault-requires-in-loop-row : goal.fault-requires-in-loop-row
fault-requires-in-loop-row c =
    let set = c.args.set in
    let low = c.loop-row-test.true in
    let number = c.next-row.ensures.0 in
    (omega (arith, low, number, c.requires), omega (arith, low, number, set.counted, rows_few backward (keywords_in set.words.list.now) set.words.sound))

-- and of a later one
told : (c : After-fault-in-loop-row)
    → RowTold (keywords_in c.args.set.words.list.now) c.args.file.now c.next-row.result.number (verdict_of c.fault-in-loop-row.result)
told c =
    let so = c.loop-row.invariant in
    let row = c.next-row in
    row_told (ap keywords_in (row.ensures.1 ∙ so.0)) row.result.stands c.record_of-in-loop-row.ensures c.fault-in-loop-row.ensures (rw row.ensures.0 so.1)

pub returns-in_err-fault-2 : goal.returns-in_err-fault-2
returns-in_err-fault-2 c =
    let p = err_from_is_err_and c.from_residual-in_err-fault-2.result c.from_residual-in_err-fault-2.ensures.1 in
    rw (p.1, p.2) (rows_stop (told (goal.at.returns-in_err-fault-2 c).After-fault-in-loop-row) (ap verdict_of c.in_err-fault-2.was))

pub loop-row-preserved : goal.loop-row-preserved
loop-row-preserved c =
    (c.next-row.ensures.1 ∙ c.loop-row.invariant.0, rows_more (told (goal.at.loop-row-preserved c).After-fault-in-loop-row) (ap verdict_of c.in_ok-fault-2.was))

pub returns : goal.returns
returns c =
    let set = c.args.set in
    let ks = keywords_in set.words.list.now in
    rows_all c.loop-row.invariant.1 (omega (arith, c.loop-row-test.false, set.counted, suffix_rows-length ks))
