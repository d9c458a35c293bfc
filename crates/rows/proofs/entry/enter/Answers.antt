-- The tests are made in the order of the table, and each return has the verdict of the first that shows a fault.
use native.Mathlib.Omega.{arith}
use mathlib.Core.Path.{sym}
use Rattle.rules.proofs.answers.Entering.{entry-trace, entry_uncounted, entry_room, entry_pass}
use Rattle.rows.proofs.entry.enter.Goals as goal

pub returns-then-trace-gt-TRACE : goal.returns-then-trace-gt-TRACE
returns-then-trace-gt-TRACE c = sym (entry-trace _ _ _ _ (omega (arith, c.if-trace-gt-TRACE.true)))

pub returns-then-room-ge-WORKSPACE : goal.returns-then-room-ge-WORKSPACE
returns-then-room-ge-WORKSPACE c =
    sym (entry_uncounted _ _ _ _ c.args.words.sound (omega (arith, c.if-trace-gt-TRACE.false)) (omega (arith, c.if-room-ge-WORKSPACE.true)))

pub returns-then-room-rows : goal.returns-then-room-rows
returns-then-room-rows c =
    let near = c.if-trace-gt-TRACE.false in
    sym (entry_room _ _ _ _ (omega (arith, near)) c.count_rows-rows.ensures.0 (omega (arith, c.if-room-rows.true)))

pub returns : goal.returns
returns c =
    let near = c.if-trace-gt-TRACE.false in
    sym (entry_pass _ _ _ _ (omega (arith, near)) c.count_rows-rows.ensures.0 (omega (arith, c.if-room-rows.false)))
