-- The set's own tests decide; where they pass, its words are scanned.
use Rattle.std.proofs.lemmas.Result.{err_from_is_err_and}
use Rattle.backward.proofs.Outcomes.{backward_read, backward_unread}
use Rattle.backward.proofs.scan.Goals as goal

pub returns-in_err-words : goal.returns-in_err-words
returns-in_err-words c =
    let p = err_from_is_err_and c.from_residual.result c.from_residual.ensures.1 in
    rw (p.1, p.2) (backward_unread _ _ c.in_err-words.ensures)

pub returns : goal.returns
returns c = backward_read _ c.in_ok-words.words c.in_ok-words.ensures c.scan_words.ensures
