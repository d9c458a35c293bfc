-- The set's own tests decide; where they pass, the job is done for its keywords.
use Rattle.std.proofs.lemmas.Result.{err_from_is_err_and}
use Rattle.skips.proofs.Outcomes.{check_read, check_unread}
use Rattle.skips.proofs.check.Goals as goal

pub returns-in_err-words : goal.returns-in_err-words
returns-in_err-words c =
    let p = err_from_is_err_and c.from_residual.result c.from_residual.ensures.1 in
    rw (p.1, p.2) (check_unread c.args.set.now c.in_err-words.field-0.0 c.in_err-words.ensures)

pub returns : goal.returns
returns c = check_read c.args.set.now c.in_ok-words.ensures c.check_words.ensures
