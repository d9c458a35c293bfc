-- Each way out is a line of the table, and past the last of them both files fit at the fronts of their buffers.
use Prim.Native.Nat.{◌*◌, ◌≤◌}
use native.Mathlib.Omega.{arith}
use Rattle.std.proofs.lemmas.Result.{err_from_is_err_and}
use Rattle.std.specs.Prelude.{Ok}
use lib.ListN.{length}
use mathlib.Core.Path.{ap}
use Rattle.rules.specs.sets.Limits.{row_record}
use Rattle.rules.specs.rows.Rows.{backward}
use Rattle.rules.proofs.rows.Most.{rows_few}
use Rattle.words.specs.Items.{keywords_in}
use Rattle.words.specs.Read.{way_of}
use Rattle.rows.specs.Beginning.{Begun}
use Rattle.rows.proofs.Begun.{begun_laid}
use Rattle.skips.proofs.Outcomes.{make_entry, make_rows_short, make_bytes_short, make_done}
use Rattle.skips.proofs.make_words.Goals as goal
use Rattle.skips.proofs.make_words.Goals.{In_ok-rows, Else-row_buffer-set}

-- the tests passed, and the rows are laid and counted
begun : (c : In_ok-rows)
    → let a = c.args in
    Begun backward (keywords_in a.words.list.now) 0 a.workspace.now (Ok c.in_ok-rows.rows) c.begin.new.ws
unfolding way_of
begun c = c.in_ok-rows.ensures

pub returns-in_err-rows : goal.returns-in_err-rows
unfolding way_of
returns-in_err-rows c =
    let p = err_from_is_err_and c.from_residual.result c.from_residual.ensures.1 in
    rw (p.1, p.2) (make_entry _ _ c.in_err-rows.field-0.0 c.in_err-rows.ensures)

pub measure-set-requires : goal.measure-set-requires
measure-set-requires c = (begun_laid (begun (goal.at.measure-set-requires c).In_ok-rows)).1

pub overflow_mul-set : goal.overflow_mul-set
overflow_mul-set c =
    let set = c.measure-set.result in
    omega (arith, set.counted, rows_few backward (keywords_in set.words.list.now) set.words.sound)

-- the buffer has room for the rows
room : (c : Else-row_buffer-set) → row_record * c.in_ok-rows.rows ≤ length c.args.row_buffer.now
room c = omega (arith, c.if-row_buffer-set.false, c.measure-set.ensures.1)

pub returns-then-row_buffer-set : goal.returns-then-row_buffer-set
returns-then-row_buffer-set c =
    make_rows_short _ _ (begun (goal.at.returns-then-row_buffer-set c).In_ok-rows) (omega (arith, c.if-row_buffer-set.true, c.measure-set.ensures.1))

pub returns-then-byte_buffer-lt-BYTES : goal.returns-then-byte_buffer-lt-BYTES
returns-then-byte_buffer-lt-BYTES c =
    let at = goal.at.returns-then-byte_buffer-lt-BYTES c in
    make_bytes_short _ _ (begun at.In_ok-rows) (room at.Else-row_buffer-set) c.if-byte_buffer-lt-BYTES.true

pub returns : goal.returns
returns c =
    let at = goal.at.returns c in
    let same = ap keywords_in c.measure-set.ensures.0 in
    make_done _ _ (begun at.In_ok-rows) (room at.Else-row_buffer-set) c.if-byte_buffer-lt-BYTES.false
    (rw same at c.put_rows.ensures)
    (rw same at c.put_bytes.ensures)
