-- The keywords taken stand a byte further at rows that are filled; once all are, so is the level.
use Prim.Native.Nat.{ℕ, ◌<◌}
use native.Mathlib.Omega.{arith}
use mathlib.Core.Path.{◌≡◌, sym, ap}
use mathlib.Core.List.{List}
use lib.ListN.{length, get_or}
use Rattle.rules.specs.sets.Sets.{Keyword}
use Rattle.rules.specs.rows.Rows.{forward}
use Rattle.rules.specs.Beside.{nth}
use Rattle.rules.proofs.rows.Most.{rows_few}
use Rattle.words.specs.Items.{Has, keywords_in}
use Rattle.words.proofs.Items.{has_at}
use Rattle.rows.specs.Falls.{Fillable, Filled}
use Rattle.rows.proofs.Behind.{child_within}
use Rattle.rows.proofs.Depth.{halfway_skip, halfway_fillable, halfway_more, halfway_all}
use Rattle.rows.proofs.levels.fill_level.Goals as goal
use Rattle.rows.proofs.levels.fill_level.Goals.{After-fill_row-row, After-item_at, Then-depth-word, In-loop-i, else-depth-word, then-depth-word}

-- a turn: the keywords, the keyword's word and the row where it stands
abbrev keywords_of : In-loop-i → List Keyword
keywords_of t = keywords_in t.args.words.list.now

abbrev word_of : In-loop-i → List ℕ
word_of t = (nth (keywords_of t) t.loop-i.i).word

abbrev row_of : In-loop-i → ℕ
row_of t = get_or t.loop-i.standing t.loop-i.i 0

-- the keyword is one of the list's, of which there are few, and its length is that of its word
listed : (t : In-loop-i) → t.loop-i.i < length (keywords_of t)
listed t = omega (arith, t.count_of-i-end.ensures)

has : (t : In-loop-i) → Has t.args.words.list.now t.loop-i.i
has t = has_at t.args.words.shaped (listed t)

measured : (c : After-item_at) → length (word_of (goal.at.After-item_at c).In-loop-i) ≡ length c.item_at.result.units.now
measured c = ap length (sym c.item_at.ensures.units)

pub item_at-requires : goal.item_at-requires
item_at-requires c = has (goal.at.item_at-requires c).In-loop-i

-- a keyword that is longer: its next row may be filled, and is
long : (c : After-item_at)
    → c.args.depth < length c.item_at.result.units.now
    → c.args.depth < length (word_of (goal.at.After-item_at c).In-loop-i)
long c more = omega (arith, more, measured c)

-- its next byte
abbrev byte_of : After-item_at → ℕ
byte_of c = get_or c.item_at.result.units.now c.args.depth 0

read : (c : After-item_at) → byte_of c ≡ get_or (word_of (goal.at.After-item_at c).In-loop-i) c.args.depth 0
read c = ap (λ (s : List ℕ). get_or s c.args.depth 0) c.item_at.ensures.units

abbrev Fills : In-loop-i → ℕ → Type 0
Fills t c = Fillable (keywords_of t) t.args.depth (row_of t) c t.loop-i.ws

fillable : (c : Then-depth-word) → Fills (goal.at.Then-depth-word c).In-loop-i (byte_of (goal.at.Then-depth-word c).After-item_at)
fillable c =
    let at = goal.at.Then-depth-word c in
    halfway_fillable c.args.words.sound c.loop-i.invariant (listed at.In-loop-i) (long at.After-item_at c.if-depth-word.true)
    (read at.After-item_at)

pub fill_row-row-requires : goal.fill_row-row-requires
fill_row-row-requires c = (_, _, fillable (goal.at.fill_row-row-requires c).Then-depth-word)

filled : (c : After-fill_row-row)
    → let t = (goal.at.After-fill_row-row c).In-loop-i in
    Filled (keywords_of t) (row_of t) (byte_of (goal.at.After-fill_row-row c).After-item_at) c.fill_row-row.result t.loop-i.ws c.fill_row-row.new.ws
filled c = c.fill_row-row.ensures _ _ (fillable (goal.at.After-fill_row-row c).Then-depth-word)

pub overflow_cast-standing : goal.overflow_cast-standing
overflow_cast-standing c =
    let at = goal.at.overflow_cast-standing c in
    let known = fillable at.Then-depth-word in
    omega (arith, (filled at.After-fill_row-row).child, child_within known, rows_few forward _ known.sound)

pub loop-i-preserved : goal.loop-i-preserved
loop-i-preserved c =
    let at = goal.at.loop-i-preserved c in
    let sound = c.args.words.sound in
    let inv = c.loop-i.invariant in
    let here = listed at.In-loop-i in
    elim c.if-depth-word.branch [
      | then-depth-word w ↦
          let on = long at.After-item_at w.if-depth-word.true in
          let known = halfway_fillable sound inv here on (read at.After-item_at) in
          rw (w.ws-is, w.standing-is) (halfway_more sound inv here on (read at.After-item_at) (w.fill_row-row.ensures _ _ known))
      | else-depth-word w ↦
          rw (w.ws-is, w.standing-is)
          (halfway_skip sound inv here (omega (arith, measured at.After-item_at, w.if-depth-word.false)))
    ]

pub returns : goal.returns
returns c = halfway_all c.args.words.sound c.loop-i.invariant (omega (arith, c.count_of-i-end.ensures))
