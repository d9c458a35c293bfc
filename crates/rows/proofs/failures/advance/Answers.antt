-- Wherever the chain of failures stands, it leads on to the same row, and each question has taken a byte, of which
-- there are few.
use native.Mathlib.Omega.{arith}
use Rattle.rows.proofs.Chain.{falling_none, falling_more, falling_child, falling-root}
use Rattle.rows.proofs.failures.advance.Goals as goal

pub loop-next-init : goal.loop-next-init
loop-next-init c = λ R d ready. falling_none ready c.args.c

pub ask-found-requires : goal.ask-found-requires
ask-found-requires c =
    let known = c.requires in
    (known.0, known.2.tree, (c.loop-next.invariant known.0 known.1 known.2).within)

pub overflow_add-asked : goal.overflow_add-asked
overflow_add-asked c =
    let known = c.requires in
    omega (arith, (c.loop-next.invariant known.0 known.1 known.2).shorter, known.2.shallow, known.2.short)

pub returns-in-Some : goal.returns-in-Some
returns-in-Some c = λ R d ready.
    let f = c.loop-next.invariant R d ready in
    falling_child ready f (c.ask-found.ensures R ready.tree f.within) c.in-Some.is

pub returns-then-at-eq0 : goal.returns-then-at-eq0
returns-then-at-eq0 c = λ R d ready.
    let f = c.loop-next.invariant R d ready in
    falling-root ready f (c.ask-found.ensures R ready.tree f.within) c.in_default.is c.if-at-eq0.true

pub failure-at-requires : goal.failure-at-requires
failure-at-requires c =
    let known = c.requires in
    omega (arith, (c.loop-next.invariant known.0 known.1 known.2).within, known.2.tree.room)

pub loop-next-smaller : goal.loop-next-smaller
loop-next-smaller c =
    let known = c.requires in
    omega (arith, (c.loop-next.invariant known.0 known.1 known.2).shorter, known.2.shallow, known.2.short)

pub loop-next-preserved : goal.loop-next-preserved
loop-next-preserved c = λ R d ready.
    let f = c.loop-next.invariant R d ready in
    rw c.failure-at.ensures.0
    (falling_more ready f (c.ask-found.ensures R ready.tree f.within) c.in_default.is c.if-at-eq0.false)
