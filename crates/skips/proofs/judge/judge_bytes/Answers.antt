-- The numbers before place p passed, so the first that is 0 or above the table's decides.
use Prim.Native.Nat.{ℕ, ◌/◌, ◌%◌, ◌<◌}
use native.Mathlib.Omega.{arith}
use mathlib.Core.Path.{◌≡◌, sym, ◌∙◌, ap}
use mathlib.Core.List.{List, []}
use lib.ListN.{get_or}
use Rattle.rules.specs.sets.Limits.{byte_file_size}
use Rattle.rules.specs.skips.Skips.{far}
use Rattle.rules.specs.answers.Refusals.{faulty}
use Rattle.words.specs.Items.{keywords_in}
use Rattle.skips.proofs.Written.{table_place}
use Rattle.skips.proofs.Bytewise.{fars_none, fars_stop, fars_more, fars_all}
use Rattle.skips.proofs.judge.judge_bytes.Goals as goal
use Rattle.skips.proofs.judge.judge_bytes.Goals.{After-faulty}

pub loop-p-init : goal.loop-p-init
loop-p-init c = fars_none _ _

-- the place in hand, and whether its number is allowed
within : (c : After-faulty) → c.loop-p.p < byte_file_size
within c = omega (arith, c.loop-p-test.true, c.requires)

tested : (c : After-faulty)
    → c.faulty.result
    ≡ faulty (far (keywords_in c.args.set.words.list.now) (c.loop-p.p / 16) (c.loop-p.p % 16)) (get_or c.args.file.now c.loop-p.p 0)
tested c =
    let p = c.loop-p.p in
    let n = get_or c.args.file.now p 0 in
    c.faulty.ensures
    ∙ ap (λ (t : List (List ℕ)). faulty (get_or (get_or t (p / 16) []) (p % 16) 0) n) c.far_numbers-far.ensures
    ∙ ap (λ (k : ℕ). faulty k n) (table_place (keywords_in c.args.set.words.list.now) p (within c))

pub returns-then-faulty : goal.returns-then-faulty
returns-then-faulty c =
    let place = (goal.at.returns-then-faulty c).After-faulty in
    sym (fars_stop c.loop-p.invariant (within place) (sym (tested place) ∙ c.if-faulty.true))

pub loop-p-preserved : goal.loop-p-preserved
loop-p-preserved c =
    let place = (goal.at.loop-p-preserved c).After-faulty in
    fars_more c.loop-p.invariant (within place) (sym (tested place) ∙ c.if-faulty.false)

pub returns : goal.returns
returns c = sym (fars_all c.loop-p.invariant (omega (arith, c.loop-p-test.false, c.requires)))
