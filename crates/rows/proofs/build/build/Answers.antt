-- Row 0 is six zeros, and each keyword's rows are built behind those of the keywords before it.
use Prim.Native.Nat.{◌≤◌}
use native.Mathlib.Omega.{arith}
use mathlib.Core.Path.{◌≡◌, sym}
use lib.ListN.{length, take, length-take}
use lib.Seq.{take_all}
use Rattle.rules.specs.sets.Limits.{row_cells}
use Rattle.rules.proofs.rows.Rows.{rowed_rows}
use Rattle.words.specs.Items.{keywords_in}
use Rattle.words.specs.Read.{way_of}
use Rattle.rows.proofs.Building.{root, built-root, built_inserting, built_more}
use Rattle.rows.proofs.build.build.Goals as goal
use Rattle.rows.proofs.build.build.Goals.{Start, After-fill}

-- there is room for row 0
room : (c : Start) → row_cells ≤ length c.args.ws.now
room c = omega (arith, c.requires, (rowed_rows (way_of c.args.way) (keywords_in c.args.words.list.now)).some)

front : (c : Start) → length (take row_cells c.args.ws.now) ≡ row_cells
front c = omega (arith, length-take row_cells c.args.ws.now, room c)

-- which is zeros
zeros : (c : After-fill) → c.fill.new.self ≡ root
zeros c = rw (front (goal.at.After-fill c).Start) at (c.fill.ensures.after (λ y same. same))

pub slice_bounds-fill-end : goal.slice_bounds-fill-end
slice_bounds-fill-end c = room (goal.at.slice_bounds-fill-end c).Start

pub slice_bounds-fill-end-2 : goal.slice_bounds-fill-end-2
slice_bounds-fill-end-2 c = sym (front (goal.at.slice_bounds-fill-end-2 c).Start)

pub loop-i-init : goal.loop-i-init
loop-i-init c =
    let at = goal.at.loop-i-init c in
    rw (zeros at.After-fill) (built-root c.args.ws.now (room at.Start) (way_of c.args.way))

pub insert-rows-requires : goal.insert-rows-requires
insert-rows-requires c =
    built_inserting (way_of c.args.way) (keywords_in c.args.words.list.now) c.loop-i.i
    (omega (arith, c.count_of-i-end.ensures))
    c.requires
    c.loop-i.invariant

pub loop-i-preserved : goal.loop-i-preserved
loop-i-preserved c =
    built_more (way_of c.args.way) (keywords_in c.args.words.list.now) c.loop-i.i c.loop-i.invariant c.insert-rows.ensures

pub returns : goal.returns
returns c =
    rw (take_all c.loop-i.i (keywords_in c.args.words.list.now) (omega (arith, c.count_of-i-end.ensures))) at c.loop-i.invariant
