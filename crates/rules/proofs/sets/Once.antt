-- Any two proofs that keywords are sound are one, so that a type may hold it of its values: each part is a fact.
use mathlib.Core.Path.{refl, ◌∙◌, ap}
use mathlib.Core.HLevel.{Π_prop}
use mathlib.Core.List.{List, [], ◌∷◌}
use Rattle.std.proofs.Props.{props}
use Rattle.rules.specs.scans.Audit.{Ordered}
use Rattle.rules.specs.scans.Audit.Ordered.{none, next}
use Rattle.rules.specs.sets.Sets.{Keyword}
use Rattle.rules.specs.Beside.{Sound}

pub ordered_once : {A : Type 0} {R : A → A → Type 0} → ((a b : A) → IsProp (R a b)) → (l : List A) → IsProp (Ordered R l)
ordered_once p [] none none = refl
ordered_once p (a ∷ l) (next f o) (next g q) =
    ap (λ h. next h o) (Π_prop (λ b. Π_prop (λ m. p a b)) f g) ∙ ap (λ r. next g r) (ordered_once p l o q)

pub sound_once : (ks : List Keyword) → IsProp (Sound ks)
sound_once ks = hlevel (props, ordered_once)
