-- Each part of the keyword stands at its place in the list.
use Prim.Native.Nat.{◌+◌, ◌-◌, ◌*◌}
use mathlib.Core.Path.{◌≡◌, sym, ◌∙◌, ap}
use lib.ListN.{take, drop, get_or}
use native.Mathlib.Omega.{arith}
use Rattle.words.specs.Items.{item_size}
use Rattle.words.proofs.Items.{number_at, energy_at, word_is}
use Rattle.words.proofs.item_at.Goals as goal

pub returns-clause-number : goal.returns-clause-number
returns-clause-number c = sym (number_at c.requires)

pub returns-clause-units : goal.returns-clause-units
returns-clause-units c =
    let l = c.args.words.now in
    let from = item_size * c.args.i + 2 in
    let long : from + c.from.result - from ≡ get_or l (item_size * c.args.i + 1) 0 = omega (arith, c.from.ensures) in
    ap (λ n. take n (drop from l)) long ∙ sym (word_is c.requires)

pub returns-clause-energy : goal.returns-clause-energy
returns-clause-energy c = omega (arith, c.from-low.ensures, c.from-high.ensures, energy_at c.requires)
