-- Each number is read at its place in a file, and the library takes the lesser and the greater. The check finds this too;
-- it stands here so that another move is refused for the fact.
use Prim.Native.Nat.{min, max}
use native.Mathlib.Omega.{arith}
use mathlib.Core.Path.{◌≡◌, refl}
use Rattle.std.specs.Prelude.{Some}
use Rattle.rules.specs.skips.Runs.{move_by, inner_in, edge_in, far_in}
use Rattle.backward.specs.Windowed.{move_in}
use Rattle.backward.proofs.move_on.Goals as goal

pub returns : goal.returns
unfolding move_by
returns c =
    let a = c.args in
    let byte = c.in-Some.byte in
    let is : a.missing ≡ Some byte = c.in-Some.is in
    let rowf = a.table.row_file.now in
    let bytef = a.table.byte_file.now in
    let known : move_in rowf bytef a.row a.depth (Some byte) ≡ min (edge_in rowf a.row) (max (inner_in rowf a.row) (far_in bytef byte a.depth)) = refl in
    let far = rw c.from.ensures at c.from-far.ensures in
    rw is (omega (arith, known, far))
