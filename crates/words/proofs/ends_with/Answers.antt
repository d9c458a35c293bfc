-- A longer string ends no other; else the end of the one is compared with the other.
use Prim.Native.Nat.{◌-◌}
use native.Mathlib.Omega.{arith}
use mathlib.Core.Path.{sym, ◌∙◌, ap}
use lib.ListN.{length, drop, length-drop}
use lib.Pointwise.{pointwise}
use lib.Dec.{eqb}
use lib.Seq.{take_all}
use Rattle.rules.proofs.strings.Parts.{ends_listed, ends-longer}
use Rattle.words.proofs.ends_with.Goals as goal

pub returns-then-string-other : goal.returns-then-string-other
returns-then-string-other c = sym (ends-longer _ _ c.if-string-other.true)

pub returns : goal.returns
returns c =
    let s = c.args.string.now in
    let other = c.args.other.now in
    let from = length s - length other in
    c.eq.ensures
    ∙ ap (pointwise eqb other) (take_all (length s - from) (drop from s) (omega (arith, length-drop from s)))
    ∙ sym (ends_listed other s)
