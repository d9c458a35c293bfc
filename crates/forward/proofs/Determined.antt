-- No input has two outcomes: where a scan stands and what it has counted are functions of the bytes read.
use Prim.Native.Nat.{ℕ}
use mathlib.Core.Path.{◌≡◌}
use mathlib.Core.List.{List}
use Rattle.rules.specs.sets.Sets.{Keyword}
use Rattle.hits.proofs.Determined.{tallied_determined}
use Rattle.forward.specs.declared.Running.{Running}
use Rattle.forward.specs.Progress.{Scanning}

pub scanning_determined : {ks : List Keyword} {u old : List ℕ} (x y : Running) {hs hs' : List ℕ}
    → Scanning ks u old x hs
    → Scanning ks u old y hs'
    → (x ≡ y) × (hs ≡ hs')
scanning_determined x y f g =
    let (tallies, buffers) = tallied_determined x.tally y.tally f.found g.found in
    let same : ◌≡◌ {A = Running} (record { row = x.row; end = x.end; questions = x.questions; tally = x.tally })
    (record { row = y.row; end = y.end; questions = y.questions; tally = y.tally }) =
    rw (f.state, f.end, f.asked, g.state, g.end, g.asked, tallies) in
    (same, buffers)
