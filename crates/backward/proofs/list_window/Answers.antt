-- Each turn lists the hit of the last number that is left, and where none is left all are listed.
use mathlib.Core.Path.{◌≡◌, refl, ◌∙◌}
use mathlib.Core.List.{[], ◌∷◌, ◌++◌}
use Rattle.std.proofs.lemmas.List.{nil_from_length}
use Rattle.backward.proofs.Closings.{left_in, closed_none, closed_hit, closed_more, closed_all}
use Rattle.backward.proofs.list_window.Goals as goal
use Rattle.backward.proofs.list_window.Goals.{After-from}

pub loop-number-init : goal.loop-number-init
loop-number-init c =
    let all : left_in c.into_iter-number-iterator.result ≡ c.args.met.now = cc in
    (refl, λ done old closing. rw all (closed_none c.args.words.sound closing))

-- the number at hand is the last of those left
last : (c : After-from)
    → left_in c.loop-number.number-iterator ≡ left_in c.next.new.self ++ (c.from.result ∷ [])
last c = rw c.from.ensures c.in-Some.ensures.steps

pub list-next-requires : goal.list-next-requires
list-next-requires c =
    let p = c.requires in
    (_, p.1, closed_hit c.args.words.sound p.2 (c.loop-number.invariant.1 p.0 p.1 p.2) _ _ (last (goal.at.list-next-requires c).After-from))

pub loop-number-preserved : goal.loop-number-preserved
loop-number-preserved c = (
  c.list-next.auto.hits ∙ c.loop-number.invariant.0,
  λ done old closing.
      let closed = c.loop-number.invariant.1 done old closing in
      let next = last (goal.at.loop-number-preserved c).After-from in
      closed_more c.args.words.sound closing closed _ _ next (c.list-next.ensures _ old (closed_hit c.args.words.sound closing closed _ _ next)),
)

pub returns : goal.returns
returns c = λ done old closing.
    closed_all c.args.words.sound closing (rw (nil_from_length _ c.in-None.ensures.steps.0) at (c.loop-number.invariant.1 done old closing))
