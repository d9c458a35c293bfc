-- What each turn keeps.
use Rattle.words.specs.Items.{keywords_in}
use Rattle.skips.proofs.Written.{BytesLaid}
use Rattle.skips.proofs.fars.put_bytes.Given as goal

abbrev pub invariant-loop-a : goal.invariant-loop-a
invariant-loop-a l = BytesLaid (keywords_in l.set.words.list.now) l.fn.buffer l.buffer l.a
