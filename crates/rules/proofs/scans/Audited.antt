-- An answer with the numbers of `hits`, and a buffer over whose front they were written, pass the audit: `hits` is
-- the audit's list. And the audit leaves nothing open, because there is no other.
use Prim.Native.Nat.{ℕ}
use mathlib.Core.Path.{◌≡◌}
use mathlib.Core.List.{List}
use lib.ListN.{length}
use Rattle.rules.specs.sets.Sets.{Keyword}
use Rattle.rules.specs.scans.Hits.{hits, energy, hit_buffer}
use Rattle.rules.specs.answers.Answers.{Told}
use Rattle.rules.specs.scans.Audit.{Audited}
use Rattle.rules.specs.Beside.{Sound}
use Rattle.rules.proofs.scans.Hits.{hits_exact, hits_ordered, occurrences-only}

pub hits_audited : {ks : List Keyword} {t hs : List ℕ} {a : Told} {hs' : List ℕ}
    → Sound ks
    → a.count ≡ length (hits ks t)
    → a.energy ≡ energy (hits ks t)
    → hs' ≡ hit_buffer (hits ks t) hs
    → Audited ks t hs a hs'
hits_audited {ks} {t} sound counted charged listed =
    record {
      found = hits ks t;
      ordered = hits_ordered sound t;
      exactly = hits_exact sound t;
      counted = counted;
      charged = charged;
      listed = listed;
    }

pub audited_once : {ks : List Keyword} {t hs : List ℕ} {a b : Told} {hs' hs'' : List ℕ}
    → Audited ks t hs a hs'
    → Audited ks t hs b hs''
    → (a.count ≡ b.count) × (a.energy ≡ b.energy) × (hs' ≡ hs'')
audited_once f g =
    let one : f.found ≡ g.found = occurrences-only f.ordered f.exactly g.ordered g.exactly in
    (cc, cc, cc)
