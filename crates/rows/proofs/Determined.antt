-- No input has two outcomes: each number of an answer is a function of the rows and of what was asked.
use Prim.Native.Nat.{ℕ}
use mathlib.Core.Path.{◌≡◌}
use mathlib.Core.List.{List}
use Rattle.rows.specs.declared.tree.Asked.{Asked}
use Rattle.rows.specs.declared.failures.Advanced.{Advanced}
use Rattle.rows.specs.Tree.{Answered}
use Rattle.rows.specs.Falls.{Moved}

pub answered_determined : {R : List (List ℕ)} {s : List ℕ} {c : ℕ} (r q : Asked) → Answered R s c r → Answered R s c q → r ≡ q
answered_determined r q f g =
    let same : ◌≡◌ {A = Asked} (record { child = r.child; last = r.last; compared = r.compared }) (record { child = q.child; last = q.last; compared = q.compared }) =
    rw (f.last, f.child, f.compared, g.last, g.child, g.compared) in
    same

pub moved_determined : {R : List (List ℕ)} {s : List ℕ} {c : ℕ} (r q : Advanced) → Moved R s c r → Moved R s c q → r ≡ q
moved_determined r q f g =
    let same : ◌≡◌ {A = Advanced} (record { row = r.row; asked = r.asked }) (record { row = q.row; asked = q.asked }) =
    rw (f.row, f.asked, g.row, g.asked) in
    same
