-- The tests decide; where they pass, the workspace holds the rows and the table is safe, and the run finds every hit.
use native.Mathlib.Omega.{arith}
use mathlib.Core.Path.{◌≡◌}
use lib.ListN.{length}
use Rattle.std.proofs.lemmas.Result.{err_from_is_err_and}
use Rattle.rules.specs.rows.Rows.{backward, cells}
use Rattle.rules.specs.scans.Hits.{over}
use Rattle.rules.specs.answers.Refusals.{pass, entry_verdict, table_verdict}
use Rattle.rules.proofs.answers.Entering.{Entry, entry_passed}
use Rattle.words.specs.Items.{keywords_in}
use Rattle.backward.proofs.Outcomes.{backward_unsafe, backward_safe, run_safe, count_few, questions_few, backward-found}
use Rattle.backward.proofs.scan_words.Goals as goal
use Rattle.backward.proofs.scan_words.Goals.{In_ok-check_words}

pub returns-in_err-check_words : goal.returns-in_err-check_words
returns-in_err-check_words c =
    let p = err_from_is_err_and c.from_residual.result c.from_residual.ensures.1 in
    rw (p.1, p.2) (backward_unsafe _ _ c.in_err-check_words.ensures)

-- the check accepted
passed : (c : In_ok-check_words)
    → let a = c.args in
    let ks = keywords_in a.words.list.now in
    (entry_verdict backward ks (length a.trace.now) (length a.workspace.now) ≡ pass)
    × (table_verdict ks a.table.row_file.now a.table.byte_file.now ≡ pass)
    × (c.check_words.new.workspace ≡ over (cells backward ks) a.workspace.now)
passed c = backward_safe (keywords_in c.args.words.list.now) (length c.args.trace.now) c.in_ok-check_words.ensures

entry : (c : In_ok-check_words)
    → let a = c.args in
    Entry backward (keywords_in a.words.list.now) (length a.trace.now) (length a.workspace.now)
entry c = entry_passed backward _ _ _ (passed c).0

pub run-seen-requires : goal.run-seen-requires
run-seen-requires c =
    let place = (goal.at.run-seen-requires c).In_ok-check_words in
    let so = passed place in
    run_safe c.args.trace.now c.args.workspace.now c.args.words.sound (entry place) so.1 so.2

pub totals-requires : goal.totals-requires
totals-requires c =
    let near = (entry (goal.at.totals-requires c).In_ok-check_words).near in
    let seen = c.run-seen.ensures in
    (omega (arith, count_few _ c.args.words.sound near seen), omega (arith, questions_few _ c.args.words.sound near seen))

pub returns : goal.returns
returns c =
    let so = passed (goal.at.returns c).In_ok-check_words in
    rw c.totals.ensures (backward-found _ so.0 so.2 so.1 c.run-seen.ensures)
