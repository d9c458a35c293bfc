-- The records of the rows passed lie over the front of the buffer, so at the end the row file.
use native.Mathlib.Omega.{arith}
use mathlib.Core.Path.{◌∙◌, ap}
use Rattle.words.specs.Items.{keywords_in}
use Rattle.skips.proofs.Buffers.{RowsLaid, rows_laid_none, rows_laid_more, rows_laid_all}
use Rattle.skips.proofs.suffixes.put_rows.Goals as goal

pub loop-row-init : goal.loop-row-init
loop-row-init c =
    let set = c.args.set in
    let row = c.first-row in
    let none : RowsLaid (keywords_in set.words.list.now) c.args.buffer.now c.args.buffer.now row.result.number =
    rw row.ensures.0 (rows_laid_none _ _ (omega (arith, set.counted, c.requires))) in
    (row.ensures.1, rows_laid_more (ap keywords_in row.ensures.1) row.result.stands c.record_of.ensures c.put_record.ensures none)

pub loop-row-preserved : goal.loop-row-preserved
loop-row-preserved c =
    let so = c.loop-row.invariant in
    let row = c.next-row in
    let same = row.ensures.1 ∙ so.0 in
    let before : RowsLaid (keywords_in c.args.set.words.list.now) c.args.buffer.now c.loop-row.buffer row.result.number =
    rw row.ensures.0 so.1 in
    (same, rows_laid_more (ap keywords_in same) row.result.stands c.record_of-in-loop-row.ensures c.put_record-in-loop-row.ensures before)

pub returns : goal.returns
returns c =
    let so = c.loop-row.invariant in
    let row = c.loop-row.row in
    let within = rw so.0 at row.stands.within in
    rows_laid_all (keywords_in c.args.set.words.list.now) so.1 (omega (arith, within, c.loop-row-test.false, c.args.set.counted))
