-- A short answer is refused before anything is touched; else the promise of making holds, and its answer is written. The
-- check finds this too; it stands here so that another result is refused for the fact.
use Rattle.std.proofs.Common.{rules}
use mathlib.Core.Path.{refl}
use Rattle.bezowik.specs.Calls.{told_of}
use Rattle.bezowik.proofs.bezowik_make.Goals as goal

pub returns : goal.returns
returns c =
    let promise = c.answered.ensures in
    record {
      short = λ h. let (number, written, same) = promise.short h in (number, search rules, search rules, search rules, written);
      called = λ h.
          let ((found, made, converts), written) = promise.called h in
          (told_of c.answered.result, rw converts (search rules), record { numbered = refl; written = written });
    }
