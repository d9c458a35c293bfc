-- The padding is a part of the record, and `any` asks each of its bytes whether it is another than zero.
use mathlib.Core.Path.{sym, ◌∙◌}
use Prim.Native.Nat.{◌+◌, ◌-◌}
use mathlib.Core.Bool.{not}
use lib.ListN.{take, drop}
use lib.Dec.{eqb}
use Rattle.std.proofs.Common.{rules, tests}
use Rattle.std.proofs.lemmas.Iterator.{YieldsList-from_slice}
use Rattle.std.proofs.lemmas.Iterator.Search.{any_from_yields_List}
use Rattle.sets.proofs.Padding.{padding_listed}
use Rattle.sets.proofs.unpadded.Goals as goal

pub returns : goal.returns
returns c =
    any_from_yields_List (λ b. not (eqb b 0)) _ _ _ c.any.ensures.ran
    (YieldsList-from_slice (take (16 - (1 + c.args.n)) (drop (1 + c.args.n) c.args.bytes.now)) cc)
    (λ x b q k. search (rules, tests))
    ∙ sym (padding_listed _ _ c.requires)
