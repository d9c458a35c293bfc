-- The hits that follow a byte are those of the same scan.
use Rattle.forward.proofs.step.Given as goal

abbrev pub ghost-list_hits : goal.ghost-list_hits
ghost-list_hits g a = g.course
