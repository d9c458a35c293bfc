-- Each keyword takes as many numbers as any other, so the list has as many as its length says.
use mathlib.Core.Path.{sym}
use Rattle.words.proofs.Items.{length-keywords_in}
use Rattle.words.proofs.count_of.Goals as goal

pub returns : goal.returns
returns c = sym (length-keywords_in c.args.words.now)
