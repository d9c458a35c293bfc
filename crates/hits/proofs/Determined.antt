-- No input has two outcomes: a tally's numbers and the buffer are functions of the hits and of what the buffer held.
use Prim.Native.Nat.{ℕ}
use mathlib.Core.Path.{◌≡◌, sym, ◌∙◌}
use mathlib.Core.List.{List}
use Rattle.rules.specs.scans.Hits.{Hit}
use Rattle.hits.specs.declared.Tally.{Tally}
use Rattle.hits.specs.Tallies.{Tallied}

pub tallied_determined : {done : List Hit} {old : List ℕ} (x y : Tally) {hs hs' : List ℕ} → Tallied done old x hs → Tallied done old y hs' → (x ≡ y) × (hs ≡ hs')
tallied_determined x y f g =
    let same : ◌≡◌ {A = Tally} (record { count = x.count; energy = x.energy; listed = x.listed }) (record { count = y.count; energy = y.energy; listed = y.listed }) =
    rw (f.counted, f.charged, f.listed, g.counted, g.charged, g.listed) in
    (same, f.buffer ∙ sym g.buffer)
