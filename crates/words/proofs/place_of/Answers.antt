-- The keyword with the number stands at a place that is still to be looked at, so it is met on the way down.
use Prim.Native.Nat.{ℕ, ◌-◌}
use mathlib.Core.Path.{◌≡◌, sym, ◌∙◌, ap}
use native.Mathlib.Omega.{arith}
use Rattle.rules.specs.sets.Sets.{Keyword}
use Rattle.rules.specs.Beside.{no_keyword, nth}
use Rattle.words.specs.Items.{keywords_in, Has}
use Rattle.rules.proofs.strings.Orders.{mem_at}
use Rattle.words.proofs.Items.{has_at}
use Rattle.words.proofs.Places.{place_below, place_names}
use Rattle.words.proofs.place_of.Goals as goal
use Rattle.words.proofs.place_of.Goals.{In-loop-i}

pub loop-i-init : goal.loop-i-init
loop-i-init c = λ j q e. omega (arith, c.count_of.ensures, place_below c.args.words.sound j q)

-- there is a keyword at the place looked at
has : (c : In-loop-i) → Has c.args.words.list.now (c.loop-i.i - 1)
has c = has_at c.args.words.shaped (omega (arith, c.count_of.ensures))

pub item_at-requires : goal.item_at-requires
item_at-requires c = has (goal.at.item_at-requires c).In-loop-i

pub loop-i-preserved : goal.loop-i-preserved
loop-i-preserved c =
    let ks = keywords_in c.args.words.list.now in
    λ j q e.
    let other : j ≡ c.loop-i.i - 1 → ⊥ =
    λ same. c.if-from-number.false (c.from.ensures ∙ c.item_at.ensures.number ∙ ap (λ (i : ℕ). (nth ks i).number) (sym same) ∙ e) in
    omega (arith, c.loop-i.invariant j q e)

pub returns-then-from-number : goal.returns-then-from-number
returns-then-from-number c =
    let here = has (goal.at.returns-then-from-number c).In-loop-i in
    (here, λ k m e. place_names c.args.words.sound (c.loop-i.i - 1) here.within k m (e ∙ sym c.if-from-number.true ∙ c.from.ensures ∙ c.item_at.ensures.number))

pub unreachable-requires : goal.unreachable-requires
unreachable-requires c =
    let some = c.requires in
    let (j, within, is) = mem_at some.1 in
    omega (arith, c.loop-i.invariant j within (ap (λ (k : Keyword). k.number) (is no_keyword) ∙ some.2))
