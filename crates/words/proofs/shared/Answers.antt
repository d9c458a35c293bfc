-- The strings agree on the k units passed, so what they share is k and what they share behind them.
use native.Mathlib.Omega.{arith}
use Rattle.words.specs.Read.{way_of}
use Rattle.rules.proofs.rows.Rows.{read_by-length}
use Rattle.words.proofs.Compared.{agreed_none, agreed_end, agreed_stop, agreed_more}
use Rattle.words.proofs.shared.Goals as goal

pub loop-k-init : goal.loop-k-init
loop-k-init c = agreed_none _ _

pub returns-then-unit : goal.returns-then-unit
returns-then-unit c =
    let way = way_of c.args.way in
    agreed_stop c.loop-k.invariant
    (omega (arith, read_by-length way c.args.string.now))
    (omega (arith, read_by-length way c.args.other.now))
    (λ alike. c.if-unit.true (rw (c.unit.ensures, c.unit-in-loop-k.ensures) alike))

pub loop-k-preserved : goal.loop-k-preserved
loop-k-preserved c =
    let way = way_of c.args.way in
    agreed_more c.loop-k.invariant
    (omega (arith, read_by-length way c.args.string.now))
    (omega (arith, read_by-length way c.args.other.now))
    (rw (← c.unit.ensures, ← c.unit-in-loop-k.ensures) c.if-unit.false)

pub returns : goal.returns
returns c =
    let way = way_of c.args.way in
    agreed_end c.loop-k.invariant
    (omega (arith, c.min-least.ensures, read_by-length way c.args.string.now, read_by-length way c.args.other.now))
    (omega arith)
