-- What each turn keeps.
use Rattle.words.specs.Items.{keywords_in}
use Rattle.skips.proofs.Bytewise.{FarsPassed}
use Rattle.skips.proofs.judge.judge_bytes.Given as goal

abbrev pub invariant-loop-p : goal.invariant-loop-p
invariant-loop-p l = FarsPassed (keywords_in l.set.words.list.now) l.file l.p
