-- The child number and the sibling numbers lead over the children of the row in order, so the walk passes each child
-- up to the one with the byte, or all; it ends, since each number is above the one before.
use Prim.Native.Nat.{ℕ}
use native.Mathlib.Omega.{arith}
use mathlib.Core.Path.{sym, ◌∙◌}
use mathlib.Core.List.{List, []}
use lib.ListN.{get_or}
use Rattle.std.specs.Prelude.{unwrap_or}
use Rattle.rows.specs.Tree.{children_of}
use Rattle.rows.proofs.Columns.{tree_room}
use Rattle.rows.proofs.Walk.{Turn, walking_start, walking_none, walking_turn, walking-found, walking_on}
use Rattle.rows.proofs.tree.ask.Goals as goal
use Rattle.rows.proofs.tree.ask.Goals.{In-Some}

pub child-next-requires : goal.child-next-requires
child-next-requires c = let (R, tree, within) = c.requires in tree_room tree c.args.row within

pub loop-next-init : goal.loop-next-init
unfolding children_of
loop-next-init c R tree within =
    let a = c.args in
    walking_start tree.rowed (get_or R a.row []) a.c (rw (← (tree.children a.row within)) c.child-next.ensures.0)

-- in a turn `at` is a row behind the last, by the rows of the `requires`
turn : (c : In-Some)
    → (R : List (List ℕ)) × Turn R c.args.ws.now (unwrap_or c.loop-next.last 0) c.loop-next.compared c.in-Some.at
turn c =
    let (R, tree, within) = c.requires in
    (R, walking_turn (c.loop-next.invariant R tree within) c.in-Some.is tree)

pub overflow_add-compared : goal.overflow_add-compared
overflow_add-compared c = let t = (turn (goal.at.overflow_add-compared c).In-Some).1 in omega (arith, t.few, t.room)

pub byte-requires : goal.byte-requires
byte-requires c = (turn (goal.at.byte-requires c).In-Some).1.room

pub returns-then-byte-c : goal.returns-then-byte-c
returns-then-byte-c c R tree within =
    let walking = c.loop-next.invariant R tree within in
    walking-found walking c.in-Some.is tree.rowed
    (sym (walking_turn walking c.in-Some.is tree).byte ∙ sym c.byte.ensures ∙ c.if-byte-c.true)

pub sibling-next-requires : goal.sibling-next-requires
sibling-next-requires c = (turn (goal.at.sibling-next-requires c).In-Some).1.room

pub loop-next-smaller : goal.loop-next-smaller
loop-next-smaller c = let t = (turn (goal.at.loop-next-smaller c).In-Some).1 in omega (arith, t.behind, t.room)

pub loop-next-preserved : goal.loop-next-preserved
loop-next-preserved c R tree within =
    let walking = c.loop-next.invariant R tree within in
    let t = walking_turn walking c.in-Some.is tree in
    walking_on walking c.in-Some.is (λ here. c.if-byte-c.false (c.byte.ensures ∙ t.byte ∙ here))
    (rw (← t.sibling) c.sibling-next.ensures.0)

pub returns : goal.returns
returns c R tree within = walking_none (c.loop-next.invariant R tree within) c.in_default.is
