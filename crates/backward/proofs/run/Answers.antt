-- What is found and what the windows ahead will find are all the hits; in each window the byte loop follows the
-- definition's.
use Prim.Native.Nat.{◌-◌}
use native.Mathlib.Omega.{arith}
use mathlib.Core.Path.{◌≡◌, sym, ◌∙◌}
use mathlib.Core.List.{[]}
use lib.ListN.{length, get_or}
use Rattle.rows.specs.Tree.{Answered}
use Rattle.backward.specs.Windowed.{move_in}
use Rattle.backward.proofs.Reached.{Known, known_of, rows_in, last_of, Stopped, reached_none, reached_within, Onward, onward, stopped-start, stopped_missing}
use Rattle.backward.proofs.Visits.{first_room, underway_none, underway_few, underway_all, underway_more, window_closing, window_moving, window_some}
use Rattle.backward.proofs.run.Goals as goal
use Rattle.backward.proofs.run.Goals.{After-ask, At-loop-end, In-Some-child, After-move_on-end, Joined-split_last, in_default, in-Some+in_default-child}

pub bounds-table-17 : goal.bounds-table-17
bounds-table-17 c =
    omega (arith, first_room (known_of c.args.words.sound (λ i. (c.type_inv.trace i).fits) c.requires))

pub loop-end-init : goal.loop-end-init
loop-end-init c =
    underway_none (known_of c.args.words.sound (λ i. (c.type_inv.trace i).fits) c.requires) c.args.hits.now
    c.nothing-tally.result _
    (c.nothing-tally.ensures c.args.hits.now)
    c.from-end.ensures

-- what the loops' heads know
known : (c : At-loop-end)
    → let a = c.args in
    Known a.words.list.now a.trace.now a.table.row_file.now a.table.byte_file.now a.ws.now
known c = known_of c.args.words.sound (λ i. (c.type_inv.trace i).fits) c.requires

pub bytes-init : goal.bytes-init
bytes-init c =
    let a = c.args in
    rw c.clear.ensures
    (reached_none a.words.list.now a.trace.now c.loop-end.end c.loop-end.questions c.loop-end-test.true
    (underway_few (known (goal.at.bytes-init c).At-loop-end) c.loop-end.invariant))

pub ask-requires : goal.ask-requires
ask-requires c =
    let here = known (goal.at.ask-requires c).At-loop-end in
    (_, here.safe.laid.tree, reached_within here c.bytes.invariant)

-- the answer to the question for a byte
answered : (c : After-ask)
    → let a = c.args in
    Answered (rows_in a.words.list.now) (get_or (rows_in a.words.list.now) c.bytes.reached [])
    c.in-Some.byte.now
    c.ask.result
answered c =
    let here = known (goal.at.After-ask c).At-loop-end in
    rw c.from.ensures at (c.ask.ensures _ here.safe.laid.tree (reached_within here c.bytes.invariant))

-- the byte has a child
next : (c : In-Some-child)
    → let a = c.args in
    Onward a.words.list.now a.trace.now a.ws.now c.loop-end.end c.loop-end.questions c.bytes.questions c.bytes.met
    c.in-Some.rest.now
    c.in-Some-child.next
next c =
    let at = goal.at.In-Some-child c in
    onward (known at.At-loop-end) c.bytes.invariant _ _ c.in-Some.ensures.cases.0 (answered at.After-ask) _ c.in-Some-child.is

pub key-requires : goal.key-requires
key-requires c = (next (goal.at.key-requires c).In-Some-child).room

pub push-requires : goal.push-requires
push-requires c = (next (goal.at.push-requires c).In-Some-child).free

pub bytes-preserved-in-Some-key : goal.bytes-preserved-in-Some-key
bytes-preserved-in-Some-key c =
    let onward = next (goal.at.bytes-preserved-in-Some-key c).In-Some-child in
    rw c.push.ensures (onward.key _ (sym c.key.ensures.0 ∙ c.in-Some-key.is))

pub bytes-preserved : goal.bytes-preserved
bytes-preserved c =
    let onward = next (goal.at.bytes-preserved c).In-Some-child in
    onward.more (sym c.key.ensures.0 ∙ c.in_default-key.is)

-- the window has stopped, by whichever way
stopped : (c : Joined-split_last)
    → let a = c.args in
    Stopped a.words.list.now a.trace.now c.loop-end.end c.loop-end.questions c.match-split_last.questions c.bytes.met
    c.bytes.unread.now
    c.match-split_last.row
stopped c =
    let here = known (goal.at.Joined-split_last c).At-loop-end in
    let reached = c.bytes.invariant in
    elim c.match-split_last.branch [
      | in_default w ↦ rw (w.questions-is, w.row-is) (stopped-start reached w.in_default.ensures.cases)
      | in-Some+in_default-child w ↦
          let answer = rw w.from.ensures at (w.ask.ensures _ here.safe.laid.tree (reached_within here reached)) in
          rw (w.questions-is, w.row-is)
          (stopped_missing here reached _ _ w.in-Some.ensures.cases.0 answer w.in_default-child.is)
    ]

pub list_window-tally-requires : goal.list_window-tally-requires
list_window-tally-requires c =
    let at = goal.at.list_window-tally-requires c in
    let closing = window_closing (known at.At-loop-end) c.loop-end.invariant c.loop-end-test.true (stopped at.Joined-split_last) in
    (c.loop-end.invariant.done, c.args.hits.now, rw c.numbers.ensures closing)

pub move_on-end-requires : goal.move_on-end-requires
move_on-end-requires c =
    let at = goal.at.move_on-end-requires c in
    window_moving (known at.At-loop-end) c.loop-end.invariant c.loop-end-test.true (stopped at.Joined-split_last)

-- it moves on by the definition's number
moved : (c : After-move_on-end)
    → let a = c.args in
    c.move_on-end.result
    ≡ move_in a.table.row_file.now a.table.byte_file.now c.match-split_last.row (c.loop-end.end - length c.bytes.unread.now)
    (last_of c.bytes.unread.now)
moved c = rw (c.copied.ensures, c.last.ensures.value) at c.move_on-end.ensures.0

pub loop-end-smaller : goal.loop-end-smaller
loop-end-smaller c =
    let at = goal.at.loop-end-smaller c in
    let inside = c.loop-end-test.true in
    omega (
      arith,
      moved at.After-move_on-end,
      inside,
      window_some (known at.At-loop-end) c.loop-end.invariant inside (stopped at.Joined-split_last),
    )

pub loop-end-preserved : goal.loop-end-preserved
loop-end-preserved c =
    let at = goal.at.loop-end-preserved c in
    let here = known at.At-loop-end in
    let inside = c.loop-end-test.true in
    let there = stopped at.Joined-split_last in
    underway_more here c.loop-end.invariant inside there _ (moved at.After-move_on-end)
    ((rw c.numbers.ensures at c.list_window-tally.ensures) c.loop-end.invariant.done _ (window_closing here c.loop-end.invariant inside there))

pub returns : goal.returns
returns c = underway_all (known (goal.at.returns c).At-loop-end) c.loop-end.invariant c.loop-end-test.false
