-- The scan is to read the whole trace.
use Rattle.forward.proofs.scan_words.Given as goal

abbrev pub ghost-proceed : goal.ghost-proceed
ghost-proceed a = record { whole = a.trace.now; old = a.hits.now }
