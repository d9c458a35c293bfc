-- The step leads to the state of what is read with the byte, and its questions are those at the byte; the hits follow.
use native.Mathlib.Omega.{arith}
use mathlib.Core.List.{[]}
use lib.ListN.{get_or}
use Rattle.rules.specs.sets.Limits.{longest_word}
use Rattle.words.specs.Items.{keywords_in}
use Rattle.rows.specs.Falls.{Moved}
use Rattle.forward.proofs.States.{rows_for, going_ready, step_few, step_ending, step_read}
use Rattle.forward.proofs.step.Goals as goal
use Rattle.forward.proofs.step.Goals.{After-advance-moved}
use Rattle.forward.proofs.step.Given.{Over}

pub advance-moved-requires : goal.advance-moved-requires
advance-moved-requires g c =
    let s = c.args.scan in
    (rows_for (keywords_in s.words.list.now), longest_word, going_ready s.words.sound s.laid c.requires.0)

-- where the step leads, over the rows of the keywords
moved : (g : Over) (c : After-advance-moved g)
    → let rows = rows_for (keywords_in c.args.scan.words.list.now) in
    Moved rows (get_or rows c.args.run.row []) c.args.c c.advance-moved.result
moved g c =
    let s = c.args.scan in
    c.advance-moved.ensures (rows_for (keywords_in s.words.list.now)) longest_word
    (going_ready s.words.sound s.laid c.requires.0)

pub overflow_add-questions : goal.overflow_add-questions
overflow_add-questions g c =
    let place = (goal.at.overflow_add-questions g c).After-advance-moved in
    omega (arith, step_few c.args.scan.words.sound c.requires.0 c.requires.1 (moved g place))

pub list_hits-tally-requires : goal.list_hits-tally-requires
list_hits-tally-requires g c =
    let place = (goal.at.list_hits-tally-requires g c).After-advance-moved in
    step_ending c.args.scan.words.sound c.requires.0 c.requires.1 (moved g place)

pub returns-clause-going : goal.returns-clause-going
returns-clause-going g c =
    let place = (goal.at.returns-clause-going g c).After-advance-moved in
    step_read c.args.scan.words.sound c.requires.0 c.requires.1 (moved g place) c.list_hits-tally.ensures
