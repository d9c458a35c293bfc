-- A unit as it is read is counted from the first or from the last.
use Prim.Native.Nat.{suc, ◌-◌}
use mathlib.Core.Path.{◌≡◌, refl, sym, ◌∙◌, ap}
use lib.ListN.{length, get_or}
use native.Mathlib.Omega.{arith}
use Rattle.rules.specs.rows.Rows.{read_by}
use Rattle.rules.proofs.strings.Lists.{get_or_reverse}
use Rattle.words.specs.Read.{way_of}
use Rattle.words.proofs.unit.Goals as goal

pub returns-in-Forward : goal.returns-in-Forward
unfolding way_of read_by
returns-in-Forward c = rw c.in-Forward.is refl

pub returns-in-Backward : goal.returns-in-Backward
unfolding way_of read_by
returns-in-Backward c =
    let s = c.args.string.now in
    let k = c.args.k in
    let place : length s - 1 - k ≡ length s - suc k = omega arith in
    rw c.in-Backward.is (ap (λ m. get_or s m 0) place ∙ sym (get_or_reverse s k 0 c.requires))
