-- The forward scan's questions, from the set and the trace alone.
use Rattle.std.specs.Prelude.{ℕ, ◌+◌, ◌-◌, ◌*◌, List, [], ◌∷◌, ◌++◌}
use Rattle.rules.specs.strings.Strings.{suffixes, keep, count_to}
use Rattle.rules.specs.sets.Sets.{Keyword}
use Rattle.rules.specs.rows.Rows.{forward, starts}

-- at c behind u: the suffixes of u that are prefixes of keywords, longest first, the empty one last; how many there are
-- up to and with the first that still is a keyword's prefix when c is added, or all of them
unfoldable pub questions_at : List Keyword → List ℕ → ℕ → ℕ
questions_at ks u c = count_to (λ s. starts forward ks (s ++ (c ∷ []))) (keep (starts forward ks) (suffixes u))

-- the sum over t, a part of the trace that stands behind u
unfoldable pub questions_after : List Keyword → List ℕ → List ℕ → ℕ
questions_after ks u [] = 0
questions_after ks u (c ∷ t) = questions_at ks u c + questions_after ks (u ++ (c ∷ [])) t

-- the questions of a trace
unfoldable pub questions : List Keyword → List ℕ → ℕ
questions ks t = questions_after ks [] t

-- demand 3's bound for n bytes: twice the bytes less one, and 0 where there are none
abbrev pub most_questions : ℕ → ℕ
most_questions n = 2 * n - 1
