-- The numbers of the bytes passed lie over the front of the buffer, so at the end the byte file.
use Prim.Native.Nat.{ℕ, ◌*◌}
use mathlib.Core.Path.{◌∙◌, ap}
use mathlib.Core.List.{List, []}
use lib.ListN.{get_or}
use Rattle.words.specs.Items.{keywords_in}
use Rattle.skips.specs.Records.{put_at}
use Rattle.skips.proofs.Written.{bytes_laid_none, bytes_laid_more, bytes_laid_all}
use Rattle.skips.proofs.fars.put_bytes.Goals as goal

pub loop-a-init : goal.loop-a-init
loop-a-init c = bytes_laid_none (keywords_in c.args.set.words.list.now) c.args.buffer.now c.requires

pub loop-a-preserved : goal.loop-a-preserved
loop-a-preserved c =
    let ks = keywords_in c.args.set.words.list.now in
    let a = c.loop-a.a in
    let put = c.put_record.ensures ∙ ap (λ (t : List (List ℕ)). put_at c.loop-a.buffer (16 * a) (get_or t a [])) c.far_numbers-far.ensures in
    bytes_laid_more ks a c.loop-a-test.true put c.loop-a.invariant

pub returns : goal.returns
returns c = bytes_laid_all (keywords_in c.args.set.words.list.now) c.loop-a.invariant c.loop-a-test.false
