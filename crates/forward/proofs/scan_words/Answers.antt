-- The tests decide; where they pass, the workspace holds the rows, and the scan reads the whole trace from nothing on.
use native.Mathlib.Omega.{arith}
use lib.ListN.{length}
use Rattle.std.specs.Prelude.{Ok}
use Rattle.std.proofs.lemmas.Result.{err_from_is_err_and}
use Rattle.rules.specs.rows.Rows.{forward}
use Rattle.rules.proofs.answers.Entering.{Entry, entry_passed}
use Rattle.words.specs.Items.{keywords_in}
use Rattle.words.specs.Read.{way_of}
use Rattle.rows.specs.Beginning.{Begun}
use Rattle.rows.proofs.Begun.{begun_laid}
use Rattle.rows.proofs.Laying.{over_laid}
use Rattle.forward.proofs.Outcomes.{forward_entry, start_going, count_few, questions_few, forward-found}
use Rattle.forward.proofs.scan_words.Goals as goal
use Rattle.forward.proofs.scan_words.Goals.{In_ok-begin}

pub returns-in_err-begin : goal.returns-in_err-begin
unfolding way_of
returns-in_err-begin c =
    let p = err_from_is_err_and c.from_residual.result c.from_residual.ensures.1 in
    rw (p.1, p.2) (forward_entry _ c.in_err-begin.ensures)

-- they passed
began : (c : In_ok-begin)
    → let a = c.args in
    Begun forward (keywords_in a.words.list.now) (length a.trace.now) a.workspace.now (Ok c.in_ok-begin.field-0)
    c.begin.new.ws
unfolding way_of
began c = c.in_ok-begin.ensures

entry : (c : In_ok-begin)
    → let a = c.args in
    Entry forward (keywords_in a.words.list.now) (length a.trace.now) (length a.workspace.now)
entry c = entry_passed forward _ _ _ (begun_laid (began c)).0

pub invariant_of-scan : goal.invariant_of-scan
invariant_of-scan c =
    let place = (goal.at.invariant_of-scan c).In_ok-begin in
    let a = c.args in
    let rows = over_laid forward (keywords_in a.words.list.now) a.workspace.now a.words.sound (entry place).room in
    record { laid = rw (begun_laid (began place)).2 rows }

pub proceed-found-requires : goal.proceed-found-requires
proceed-found-requires c =
    start_going (entry (goal.at.proceed-found-requires c).In_ok-begin).near
    (c.fresh.ensures (keywords_in c.args.words.list.now) c.args.hits.now)

pub totals-requires : goal.totals-requires
totals-requires c =
    let near = (entry (goal.at.totals-requires c).In_ok-begin).near in
    let found = c.proceed-found.ensures in
    (omega (arith, count_few _ near found c.args.words.sound), omega (arith, questions_few _ near found))

pub returns : goal.returns
returns c =
    let so = begun_laid (began (goal.at.returns c).In_ok-begin) in
    rw c.totals.ensures (forward-found _ so.0 so.2 c.proceed-found.ensures)
