-- The link is written at the parent or at the last sibling, and behind the rows the new row's six numbers.
use Prim.Native.Nat.{ℕ, ◌+◌, ◌*◌}
use native.Mathlib.Omega.{arith}
use native.Mathlib.Numerals.{add-one}
use mathlib.Core.Path.{◌≡◌, sym, ◌∙◌, ap}
use mathlib.Core.List.{List, ◌∷◌}
use lib.ListN.{length, set, replicate, length-set, length-take, length-drop}
use lib.Seq.{sets, sets-eq}
use Rattle.std.proofs.lemmas.Slice.{put_mid-paste}
use Rattle.rules.specs.sets.Limits.{row_cells}
use Rattle.rows.specs.Tree.{link_at, appended}
use Rattle.rows.proofs.tree.append.Goals as goal
use Rattle.rows.proofs.tree.append.Goals.{Joined-last, After-fill, in-None, in-Some}

-- where the arms meet, one link is written
linked : (c : Joined-last) → c.match-last.ws ≡ set c.args.ws.now (link_at c.args.parent c.args.last) c.args.rows
unfolding link_at
linked c =
    elim c.match-last.branch [
      | in-None w ↦ w.ws-is ∙ w.put.ensures ∙ (rw w.in-None.is)
      | in-Some w ↦ w.ws-is ∙ w.put-in-Some.ensures ∙ (rw w.in-Some.is)
    ]

-- behind its byte a new row has five zeros
abbrev zeros : List ℕ
zeros = replicate 5 0

cleared : (c : After-fill) → c.fill.new.self ≡ zeros
cleared c = five _ (c.fill.ensures.after (λ y same. same)) (simp (length-take, length-drop, length-set) (omega arith))
  where
    five : {l : List ℕ} (n : ℕ) → l ≡ replicate n 0 → n ≡ 5 → l ≡ zeros
    five n e is = rw is at e

pub returns : goal.returns
unfolding appended
returns c =
    let ws = c.match-last.ws in
    let at = row_cells * c.args.rows in
    let born : List ℕ = set c.match-last.ws (row_cells * c.args.rows) c.args.c in
    let long : length born ≡ length c.args.ws.now = length-set ws at c.args.c ∙ c.match-last.auto.ws in
    put_mid-paste (at + 1) _ born c.fill.new.self zeros 5 (cleared (goal.at.returns c).After-fill) (omega arith) (omega arith)
    ∙ sym (sets-eq zeros born (at + 1) (omega (arith, c.requires.0, long)))
    ∙ (rw (add-one at))
    ∙ ap (λ (l : List ℕ). sets l at (c.args.c ∷ zeros)) (linked (goal.at.returns c).Joined-last)
