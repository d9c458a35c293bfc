-- The child's failure and dictionary row are made of the levels above, by the step from the parent's failure.
use Prim.Native.Nat.{ℕ, ◌+◌, ◌*◌, ◌≤◌}
use native.Mathlib.Omega.{arith}
use mathlib.Core.Path.{◌≡◌, sym, ◌∙◌, ap}
use mathlib.Core.List.{List}
use lib.ListN.{length}
use Rattle.std.specs.Prelude.{Option, Some, unwrap_or}
use Rattle.rules.specs.sets.Limits.{row_cells}
use Rattle.rules.specs.sets.Sets.{Keyword}
use Rattle.rules.specs.rows.Rows.{forward, rows_of}
use Rattle.rules.proofs.rows.Most.{rows_few}
use Rattle.rows.specs.Falls.{Fillable}
use Rattle.rows.proofs.Links.{unwrap_or-link}
use Rattle.rows.proofs.Behind.{child_row, fail_row, dict_row, child_found, up_ready, fails-root, fails_up, fail_within, dict_keyed, dict_unkeyed, dict_within, child_within, filled}
use Rattle.rows.proofs.failures.fill_row.Goals as goal
use Rattle.rows.proofs.failures.fill_row.Goals.{Start, After-ask-found, After-unwrap-row, Joined-key, Joined-parent-eq0, else-parent-eq0, then-parent-eq0, in-None, in-Some}

-- what is known of the arguments, at any set
abbrev Known : Start → List Keyword → ℕ → Type 0
Known s ks d = Fillable ks d s.args.parent s.args.c s.args.ws.now

-- the child, its failure and its dictionary row, as they are found
found : (c : After-ask-found) {ks : List Keyword} {d : ℕ}
    → Known (goal.at.After-ask-found c).Start ks d
    → c.ask-found.result.child ≡ Some (child_row ks c.args.parent c.args.c)
found c {ks} f = child_found f (c.ask-found.ensures (rows_of forward ks) f.filling.tree f.within)

row_is : (c : After-unwrap-row) {ks : List Keyword} {d : ℕ}
    → Known (goal.at.After-unwrap-row c).Start ks d
    → c.unwrap-row.result ≡ child_row ks c.args.parent c.args.c
row_is c f = let same = sym c.unwrap-row.ensures ∙ found (goal.at.After-unwrap-row c).After-ask-found f in cc

pub unwrap-row-requires : goal.unwrap-row-requires
unwrap-row-requires c = rw (found (goal.at.unwrap-row-requires c).After-ask-found c.requires.2)

pub advance-requires : goal.advance-requires
advance-requires c =
    let known = c.requires in
    let ready = rw (← c.failure-up.ensures.0) at (up_ready known.2) in
    (rows_of forward known.0, known.1, ready)

fail_is : (c : Joined-parent-eq0) {ks : List Keyword} {d : ℕ}
    → Known (goal.at.Joined-parent-eq0 c).Start ks d
    → c.if-parent-eq0.fail ≡ fail_row ks c.args.parent c.args.c
fail_is c {ks} {d} f =
    elim c.if-parent-eq0.branch [
      | else-parent-eq0 w ↦
          let up = w.failure-up.ensures.0 in
          w.fail-is
          ∙ fails_up f w.if-parent-eq0.false (rw up at (w.advance.ensures (rows_of forward ks) d (rw up (up_ready f))))
      | then-parent-eq0 w ↦ w.fail-is ∙ fails-root f w.if-parent-eq0.true
    ]

dict_is : (c : Joined-key) {ks : List Keyword} {d : ℕ}
    → Known (goal.at.Joined-key c).Start ks d
    → c.match-key.dict ≡ dict_row ks c.args.parent c.args.c
dict_is c {ks} {d} f =
    let fails = fail_is (goal.at.Joined-key c).Joined-parent-eq0 f in
    elim c.match-key.branch [
      | in-Some w ↦ w.dict-is ∙ dict_keyed f fails (sym c.key.ensures.0 ∙ w.in-Some.is)
      | in-None w ↦
          let none = sym c.key.ensures.0 ∙ w.in-None.is in
          w.dict-is
          ∙ w.unwrap_or-dict.ensures
          ∙ ap (λ (o : Option ℕ). unwrap_or o 0) w.dictionary.ensures.0
          ∙ unwrap_or-link _
          ∙ dict_unkeyed f fails none
    ]

-- the failure's cells are in the workspace
fail_room : (c : Joined-parent-eq0) → row_cells * c.if-parent-eq0.fail + row_cells ≤ length c.args.ws.now
fail_room c =
    let known = c.requires.2 in
    omega (arith, fail_is c known, fail_within known, known.filling.tree.room)

pub key-requires : goal.key-requires
key-requires c = fail_room (goal.at.key-requires c).Joined-parent-eq0

pub dictionary-requires : goal.dictionary-requires
dictionary-requires c = fail_room (goal.at.dictionary-requires c).Joined-parent-eq0

pub overflow_cast-fail : goal.overflow_cast-fail
overflow_cast-fail c =
    let known = c.requires.2 in
    omega (arith, fail_is (goal.at.overflow_cast-fail c).Joined-parent-eq0 known, fail_within known, rows_few forward _ known.sound)

-- the child's cells are in the workspace
row_room : (c : After-unwrap-row) → row_cells * c.unwrap-row.result + row_cells ≤ length c.args.ws.now
row_room c =
    let known = c.requires.2 in
    omega (arith, row_is c known, child_within known, known.filling.tree.room)

pub put-requires : goal.put-requires
put-requires c = row_room (goal.at.put-requires c).After-unwrap-row

pub overflow_cast-dict : goal.overflow_cast-dict
overflow_cast-dict c =
    let known = c.requires.2 in
    omega (arith, dict_is (goal.at.overflow_cast-dict c).Joined-key known, dict_within known, rows_few forward _ known.sound)

pub put-requires-2 : goal.put-requires-2
put-requires-2 c = omega (arith, row_room (goal.at.put-requires-2 c).After-unwrap-row, c.put.auto.ws)

pub returns : goal.returns
returns c = λ ks d f.
    let at = goal.at.returns c in
    rw (c.put-2.ensures, c.put.ensures)
    (filled f (row_is at.After-unwrap-row f) (fail_is at.Joined-parent-eq0 f) (dict_is at.Joined-key f))
