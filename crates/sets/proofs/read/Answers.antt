-- The records before the one at hand passed and their keywords are kept, so the first fault of the next one is the
-- file's.
use mathlib.Core.Path.{◌≡◌, sym, ◌∙◌, ap}
use Rattle.rules.specs.answers.Promises.{verdict_of}
use Prim.Native.Nat.{◌/◌}
use lib.ListN.{length}
use native.Mathlib.Omega.{arith}
use Rattle.rules.specs.sets.Limits.{record_size}
use Rattle.std.proofs.lemmas.Result.{err_from_is_err_and}
use Rattle.rules.proofs.sets.Bytes.{bytes_sound}
use Rattle.sets.proofs.Files.{records_none, records_more, read_empty, read_size, read_many, read_fault, read_all}
use Rattle.sets.proofs.read.Goals as goal

pub returns-then-size-eq0 : goal.returns-then-size-eq0
returns-then-size-eq0 c = read_empty _ c.if-size-eq0.true

pub returns-then-size-ne0 : goal.returns-then-size-ne0
returns-then-size-ne0 c = read_size _ c.if-size-eq0.false c.if-size-ne0.true

pub returns-then-count-gt-KEYWORDS : goal.returns-then-count-gt-KEYWORDS
returns-then-count-gt-KEYWORDS c = read_many _ c.if-size-eq0.false c.if-size-ne0.false c.if-count-gt-KEYWORDS.true

pub loop-i-init : goal.loop-i-init
loop-i-init c = records_none _ c.requires

pub read_record-requires : goal.read_record-requires
read_record-requires c =
    let so = c.loop-i.invariant in
    record { whole = omega arith; few = omega arith; room = so.room; passed = so.passed; begins = so.begins }

pub returns-in_err-read_record : goal.returns-in_err-read_record
returns-in_err-read_record c =
    let p = err_from_is_err_and c.from_residual.result c.from_residual.ensures.1 in
    rw (p.1, p.2) (read_fault _ c.if-size-eq0.false c.if-size-ne0.false c.if-count-gt-KEYWORDS.false _ c.loop-i.invariant c.loop-i-test.true
    (c.in_err-read_record.ensures).told)

pub loop-i-preserved : goal.loop-i-preserved
loop-i-preserved c =
    let read = c.read_record.ensures in
    records_more c.loop-i.invariant c.read_record.auto.list (sym read.told ∙ ap verdict_of c.in_ok-read_record.was) read

pub returns : goal.returns
returns c =
    let s = c.args.set.now in
    let all : c.loop-i.i ≡ length s / record_size = omega arith in
    let (passed, counted, begins) = read_all s c.if-size-eq0.false c.if-size-ne0.false c.if-count-gt-KEYWORDS.false (rw all at c.loop-i.invariant) in
    (passed, counted, begins, bytes_sound s (λ i. (c.type_inv.set i).fits) passed)
