-- The part of the buffer that is written is the record's.
use borrow.Author.Rules.{rules}
use Prim.Native.Nat.{◌+◌, ◌-◌, ◌*◌}
use native.Mathlib.Omega.{arith}
use mathlib.Core.Path.{◌≡◌, sym}
use mathlib.Core.List.{append_assoc}
use lib.ListN.{length, take}
use lib.Seq.{drop-drop}
use Rattle.skips.specs.Records.{put_at}
use Rattle.skips.proofs.records.put_record.Given.{Over}
use Rattle.skips.proofs.records.put_record.Goals as goal
use Rattle.skips.proofs.records.put_record.Goals.{Start}

-- the record is an array, so it has as many numbers as it says
sized : (g : Over) (c : Start g) → length c.args.numbers ≡ g.row.N
sized g c = search rules

pub returns : goal.returns
unfolding put_at
returns g c =
    let N = g.row.N in
    let from = g.row.N * c.args.place in
    let part : g.row.N * c.args.place + g.row.N - from ≡ g.row.N = omega arith in
    rw (c.copy_from_slice.ensures.after, sized g (goal.at.returns g c).Start, part, drop-drop N from c.args.buffer.now)
    (sym (append_assoc (take from c.args.buffer.now) c.args.numbers _))
