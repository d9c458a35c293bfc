-- Each number's bytes are laid behind those before it, and the five together are the answer's twenty.
use Rattle.bezowik.specs.Calls.{told_of}
use Rattle.bezowik.proofs.Digits.{put_all}
use Rattle.bezowik.proofs.answer.Answer.write.Goals as goal

pub returns : goal.returns
returns c = put_all c.args.answer.now (told_of c.args.self) _ _ _ _ _ (cc) (cc) (cc) (cc) (cc)
