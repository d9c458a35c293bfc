-- The tests decide; where they pass, the workspace has room for the rows, and holds them.
use native.Mathlib.Omega.{arith}
use mathlib.Core.Path.{◌≡◌, sym}
use lib.ListN.{length}
use Rattle.std.proofs.lemmas.Result.{err_from_is_err_and}
use Rattle.rules.specs.answers.Refusals.{pass, entry_verdict}
use Rattle.rules.proofs.rows.Most.{rows_few}
use Rattle.rules.proofs.answers.Entering.{entry_passed}
use Rattle.words.specs.Items.{keywords_in}
use Rattle.words.specs.Read.{way_of}
use Rattle.rows.proofs.Begun.{begin_refused, begin_laid}
use Rattle.rows.proofs.begin.Goals as goal
use Rattle.rows.proofs.begin.Goals.{In_ok-enter}

pub returns-in_err-enter : goal.returns-in_err-enter
returns-in_err-enter c =
    let p = err_from_is_err_and c.from_residual.result c.from_residual.ensures.1 in
    rw (p.1, p.2) (begin_refused _ (sym c.in_err-enter.ensures))

-- where they pass
passed : (c : In_ok-enter)
    → let a = c.args in
    entry_verdict (way_of a.way) (keywords_in a.words.list.now) a.trace (length a.ws.now) ≡ pass
passed c = sym c.in_ok-enter.ensures

pub lay-requires : goal.lay-requires
lay-requires c = (entry_passed _ _ _ _ (passed (goal.at.lay-requires c).In_ok-enter)).room

pub overflow_cast-result : goal.overflow_cast-result
overflow_cast-result c = omega (arith, c.lay.ensures.0, rows_few (way_of c.args.way) _ c.args.words.sound)

pub returns : goal.returns
returns c = begin_laid (passed (goal.at.returns c).In_ok-enter) c.lay.ensures.0 c.lay.ensures.1
