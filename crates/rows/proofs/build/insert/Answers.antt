-- The rows are met unit by unit, and the row that the word leads to gets the keyword's number plus one.
use Prim.Native.Nat.{ℕ, ◌+◌, ◌*◌, ◌≤◌, ◌<◌}
use native.Mathlib.Omega.{arith}
use mathlib.Core.Path.{◌≡◌, sym, ◌∙◌, ap, subst}
use mathlib.Core.List.{List, []}
use lib.ListN.{length, get_or, take}
use Rattle.rules.specs.sets.Limits.{most_keywords, most_rows, row_cells}
use Rattle.rules.specs.sets.Sets.{Keyword}
use Rattle.rules.specs.rows.Rows.{Way, read_by}
use Rattle.rules.specs.Beside.{no_keyword, nth}
use Rattle.rules.proofs.strings.Orders.{get_or_mem}
use Rattle.rules.proofs.rows.Rows.{read_by-length}
use Rattle.words.specs.Items.{Has, keywords_in}
use Rattle.words.specs.Read.{way_of, read_at}
use Rattle.words.proofs.Items.{has_at}
use Rattle.rows.specs.Tree.{Answered, appended}
use Rattle.rows.proofs.Appended.{Growing, growing_last}
use Rattle.rows.proofs.Spelling.{met, spelled_none, spelled_within, spelled_few, spelled_room, spelled_old, spelled_growing, spelled-new, spelled_all}
use Rattle.rows.proofs.build.insert.Goals as goal
use Rattle.rows.proofs.build.insert.Goals.{After-ask-found, After-unit-c, At-loop-k, In-loop-k, Start, In-None, in-None, in-Some}

-- at the loop's head: the way, the keywords, the word as it is read and the rows met so far
abbrev way-of : At-loop-k → Way
way-of h = way_of h.args.way

abbrev keywords_of : At-loop-k → List Keyword
keywords_of h = keywords_in h.args.words.list.now

abbrev word : At-loop-k → List ℕ
word h = read_at (way-of h) (keywords_of h) h.args.i

abbrev rows-met : At-loop-k → List (List ℕ)
rows-met h = met (way-of h) (keywords_of h) h.args.i h.loop-k.k

-- the list has the keyword, its length is that of the word, and its number is below the most keywords
has : (c : Start) → Has c.args.words.list.now c.args.i
has c = has_at c.args.words.shaped c.requires.within

measured : (h : At-loop-k) → length (word h) ≡ length h.item_at-keyword.result.units.now
unfolding read_at
measured h = read_by-length (way-of h) (nth (keywords_of h) h.args.i).word ∙ ap length (sym h.item_at-keyword.ensures.units)

slot : (h : At-loop-k) → (nth (keywords_of h) h.args.i).number < most_keywords
slot h =
    let before = h.requires in
    h.args.words.sound.slots _ (get_or_mem (keywords_of h) no_keyword h.args.i before.within)

within : (h : At-loop-k) → h.loop-k.row < length (rows-met h)
within h = spelled_within h.requires h.loop-k.invariant

few : (h : At-loop-k) → h.loop-k.count ≤ most_rows
few h = spelled_few h.requires h.loop-k.invariant h.args.words.sound

room : (h : At-loop-k) → row_cells * h.loop-k.row + row_cells ≤ length h.loop-k.ws
room h = spelled_room h.requires h.loop-k.invariant

-- in a turn: there is a unit more, which is asked for, and a missing child is added behind the rows
more : (c : In-loop-k) → c.loop-k.k < length (word (goal.at.In-loop-k c).At-loop-k)
more c = omega (arith, measured (goal.at.In-loop-k c).At-loop-k)

unit_is : (c : After-unit-c) → let h = (goal.at.After-unit-c c).At-loop-k in c.unit-c.result ≡ get_or (word h) h.loop-k.k 0
unfolding read_at
unit_is c =
    let h = (goal.at.After-unit-c c).At-loop-k in
    c.unit-c.ensures ∙ ap (λ (s : List ℕ). get_or (read_by (way-of h) s) h.loop-k.k 0) c.item_at-keyword.ensures.units

answered : (c : After-ask-found)
    → let h = (goal.at.After-ask-found c).At-loop-k in
    Answered (rows-met h) (get_or (rows-met h) h.loop-k.row []) (get_or (word h) h.loop-k.k 0) c.ask-found.result
answered c =
    let h = (goal.at.After-ask-found c).At-loop-k in
    subst (λ (u : ℕ). Answered (rows-met h) (get_or (rows-met h) h.loop-k.row []) u c.ask-found.result) (unit_is (goal.at.After-ask-found c).After-unit-c)
    (c.ask-found.ensures (rows-met h) h.loop-k.invariant.held.tree (within h))

added : (c : In-None)
    → let h = (goal.at.In-None c).At-loop-k in
    Growing (rows-met h) h.loop-k.row (take h.loop-k.k (word h)) (get_or (word h) h.loop-k.k 0) c.ask-found.result.last h.loop-k.ws
added c =
    let at = goal.at.In-None c in
    let h = at.At-loop-k in
    spelled_growing h.requires h.loop-k.invariant (more at.In-loop-k) (answered at.After-ask-found) c.in-None.is

pub item_at-keyword-requires : goal.item_at-keyword-requires
item_at-keyword-requires c = has (goal.at.item_at-keyword-requires c).Start

pub loop-k-init : goal.loop-k-init
loop-k-init c = spelled_none c.requires

pub ask-found-requires : goal.ask-found-requires
ask-found-requires c = (rows-met (goal.at.ask-found-requires c).At-loop-k, c.loop-k.invariant.held.tree, within (goal.at.ask-found-requires c).At-loop-k)

pub append-requires : goal.append-requires
append-requires c =
    let h = (goal.at.append-requires c).At-loop-k in
    let counted = h.loop-k.invariant.counted in
    let g = added (goal.at.append-requires c).In-None in
    (omega (arith, g.room, counted), omega (arith, g.within, counted), rw counted (growing_last g), omega (arith, few h))

pub loop-k-preserved : goal.loop-k-preserved
loop-k-preserved c =
    let h = (goal.at.loop-k-preserved c).At-loop-k in
    let before = h.requires in
    let so = h.loop-k.invariant in
    let on = more (goal.at.loop-k-preserved c).In-loop-k in
    let asked = answered (goal.at.loop-k-preserved c).After-ask-found in
    elim c.match-found.branch [
      | in-Some w ↦ rw (w.ws-is, w.count-is, w.row-is) (spelled_old before so on asked w.in-Some.is)
      | in-None w ↦
          let grow : ℕ → List ℕ = appended h.loop-k.ws h.loop-k.count h.loop-k.row c.ask-found.result.last in
          let grown : c.match-found.ws ≡ grow (get_or (word h) h.loop-k.k 0) =
          w.ws-is ∙ w.append.ensures ∙ ap grow (unit_is (goal.at.loop-k-preserved c).After-unit-c) in
          rw (grown, w.count-is, w.row-is) (spelled-new before so on asked w.in-None.is)
    ]

pub put-requires : goal.put-requires
put-requires c = room (goal.at.put-requires c).At-loop-k

pub overflow_add-keyword : goal.overflow_add-keyword
overflow_add-keyword c = omega (arith, c.item_at-keyword.ensures.number, slot (goal.at.overflow_add-keyword c).At-loop-k)

pub returns : goal.returns
returns c =
    rw (c.put.ensures, c.item_at-keyword.ensures.number) (spelled_all c.requires c.loop-k.invariant c.args.words.sound (omega (arith, measured (goal.at.returns c).At-loop-k)))
