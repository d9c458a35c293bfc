-- The first sixteen bytes name the row, and each of the two numbers is tested, in the definition's order.
use mathlib.Core.Path.{sym, ◌∙◌}
use Rattle.skips.proofs.Compared.{cut, fault_name, fault-inner, fault-edge, fault_none}
use Rattle.skips.proofs.judge.fault.Goals as goal
use Rattle.skips.proofs.judge.fault.Goals.{then-faulty-via-then-faulty, then-faulty-via-else-faulty+then-faulty-2}

pub returns-then-ne : goal.returns-then-ne
returns-then-ne c =
    let a = c.args in
    fault_name a.row a.best _ (rw (cut a.file.now a.row) at (sym c.if-ne.true ∙ c.ne.ensures))

pub returns-then-faulty : goal.returns-then-faulty
returns-then-faulty c =
    let a = c.args in
    let named = rw (cut a.file.now a.row) at (sym c.if-ne.false ∙ c.ne.ensures) in
    elim c.then-faulty.branch [
      | then-faulty-via-then-faulty w ↦
          fault-inner a.row a.best _ named (rw (cut a.file.now a.row) at (sym w.if-faulty.true ∙ c.faulty.ensures))
      | then-faulty-via-else-faulty+then-faulty-2 w ↦
          fault-edge a.row a.best _ named (rw (cut a.file.now a.row) at (sym w.if-faulty-2.true ∙ w.faulty-else-faulty.ensures))
    ]

pub returns : goal.returns
returns c =
    let a = c.args in
    fault_none a.row a.best _
    (rw (cut a.file.now a.row) at (sym c.if-ne.false ∙ c.ne.ensures))
    (rw (cut a.file.now a.row) at (sym c.if-faulty.false ∙ c.faulty.ensures))
    (rw (cut a.file.now a.row) at (sym c.if-faulty-2.false ∙ c.faulty-else-faulty.ensures))
