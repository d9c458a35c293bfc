-- The backward rows are complete once they are built, and the forward rows once their failures are filled.
use mathlib.Core.Path.{◌≡◌, ap}
use lib.ListN.{length}
use Rattle.rules.specs.rows.Rows.{forward, backward, rows_of}
use Rattle.words.specs.Items.{keywords_in}
use Rattle.words.specs.Read.{way_of}
use Rattle.rows.specs.Builds.{Built}
use Rattle.rows.proofs.Columns.{beyond_trans}
use Rattle.rows.proofs.Building.{built_beyond}
use Rattle.rows.proofs.Laying.{held_backward, filling_forward}
use Rattle.rows.proofs.lay.Goals as goal
use Rattle.rows.proofs.lay.Goals.{In-Forward, In_default}

-- what is built in each of the two ways
built_forward : (c : In-Forward) → (way_of c.args.way ≡ forward) × Built forward (keywords_in c.args.words.list.now) c.build-rows.result c.args.ws.now c.build-rows.new.ws
unfolding way_of
built_forward c =
    let way : way_of c.args.way ≡ forward = ap way_of c.in-Forward.is in
    (way, rw way at c.build-rows.ensures)

built_backward : (c : In_default) → (way_of c.args.way ≡ backward) × Built backward (keywords_in c.args.words.list.now) c.build-rows.result c.args.ws.now c.build-rows.new.ws
unfolding way_of
built_backward c =
    let way : way_of c.args.way ≡ backward = ap way_of c.in_default.is in
    (way, rw way at c.build-rows.ensures)

pub fill-requires : goal.fill-requires
fill-requires c = (built_forward (goal.at.fill-requires c).In-Forward).1.held

pub returns-in-Forward : goal.returns-in-Forward
returns-in-Forward c =
    let ws = c.args.ws.now in
    let built = c.build-rows.new.ws in
    let (way, so) = built_forward (goal.at.returns-in-Forward c).In-Forward in
    let (filling, kept) = c.fill.ensures in
    let n = length (rows_of forward (keywords_in c.args.words.list.now)) in
    let beyond = beyond_trans ws built c.fill.new.ws n (built_beyond ws built so) kept in
    rw way (so.counted, filling_forward ws c.args.words.sound beyond filling)

pub returns-in_default : goal.returns-in_default
returns-in_default c =
    let ws = c.args.ws.now in
    let (way, so) = built_backward (goal.at.returns-in_default c).In_default in
    rw way (so.counted, held_backward ws c.args.words.sound (built_beyond ws c.build-rows.new.ws so) so.held)
