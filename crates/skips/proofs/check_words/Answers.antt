-- The first tests decide, and where they pass the table's own.
use mathlib.Core.Path.{◌≡◌, sym, ◌∙◌, ap}
use Rattle.std.proofs.lemmas.Result.{err_from_is_err_and}
use Rattle.std.specs.Prelude.{Ok}
use Rattle.rules.specs.rows.Rows.{backward}
use Rattle.rules.specs.answers.Refusals.{table_verdict}
use Rattle.rules.specs.answers.Promises.{verdict_of}
use Rattle.words.specs.Items.{keywords_in}
use Rattle.words.specs.Read.{way_of}
use Rattle.rows.specs.Beginning.{Begun}
use Rattle.rows.proofs.Begun.{begun_laid}
use Rattle.skips.proofs.Outcomes.{check_entry, check_refused, check_safe}
use Rattle.skips.proofs.check_words.Goals as goal
use Rattle.skips.proofs.check_words.Goals.{In_ok-rows, After-judge}

-- the tests passed, and the rows are laid and counted
begun : (c : In_ok-rows)
    → let a = c.args in
    Begun backward (keywords_in a.words.list.now) a.trace a.workspace.now (Ok c.in_ok-rows.rows) c.begin.new.ws
unfolding way_of
begun c = c.in_ok-rows.ensures

pub returns-in_err-rows : goal.returns-in_err-rows
unfolding way_of
returns-in_err-rows c =
    let p = err_from_is_err_and c.from_residual.result c.from_residual.ensures.1 in
    rw (p.1, p.2) (check_entry c.in_err-rows.field-0.0 c.in_err-rows.ensures)

pub measure-requires : goal.measure-requires
measure-requires c = (begun_laid (begun (goal.at.measure-requires c).In_ok-rows)).1

-- what the table's tests say of these keywords
judged : (c : After-judge) → verdict_of c.judge.result ≡ table_verdict (keywords_in c.args.words.list.now) c.args.table.row_file.now c.args.table.byte_file.now
judged c = rw (← c.measure.ensures.0) c.judge.ensures

pub returns-in_err-judge : goal.returns-in_err-judge
returns-in_err-judge c =
    let p = err_from_is_err_and c.from_residual-in_err-judge.result c.from_residual-in_err-judge.ensures.1 in
    let fault = ap verdict_of (sym c.in_err-judge.was) ∙ judged (goal.at.returns-in_err-judge c).After-judge in
    rw (p.1, p.2) (check_refused (begun (goal.at.returns-in_err-judge c).In_ok-rows) c.in_err-judge.field-0.0 fault)

pub returns : goal.returns
returns c =
    let safe = ap verdict_of (sym c.in_ok-judge.was) ∙ judged (goal.at.returns c).After-judge in
    check_safe (begun (goal.at.returns c).In_ok-rows) safe
