-- The hit is counted and charged, and stored at the two places behind those of the hits before it, where there are two.
use Prim.Native.Nat.{ℕ, ◌+◌}
use mathlib.Core.Path.{refl, ◌∙◌, ap}
use Rattle.rules.specs.scans.Hits.{Hit}
use Rattle.words.specs.Items.{keywords_in}
use Rattle.hits.specs.Tallies.{hit_of}
use Rattle.hits.proofs.Tallying.{hitting-named, hitting_charged, tallied_more, tallied_full}
use Rattle.hits.proofs.list.Goals as goal
use Rattle.hits.proofs.list.Goals.{else-at-hits, then-at-hits}

pub returns : goal.returns
unfolding hit_of
returns c = λ done old h.
    let a = c.args in
    let sound = a.words.sound in
    let (has, place) = c.place_of.ensures in
    let hit : Hit = hit_of (keywords_in a.words.list.now) a.end a.number in
    let charge = ap (λ (e : ℕ). a.tally.energy + e) (hitting_charged sound h c.place_of.result (c.from.ensures ∙ c.item_at-keyword.ensures.energy) place) in
    elim c.if-at-hits.branch [
      | then-at-hits w ↦ tallied_more h.tallied hit _ refl charge w.if-at-hits.true w.listed-is (rw (hitting-named sound h) w.hits-is)
      | else-at-hits w ↦ tallied_full h.tallied hit _ refl charge w.if-at-hits.false w.listed-is w.hits-is
    ]
