-- Keywords of a list as they are read, whatever the list is kept in.
use Rattle.std.specs.Prelude.{ℕ, List, map, take}
use Rattle.rules.specs.declared.Way.{Way}
use Rattle.rules.specs.declared.Way.TheVariants.{Forward, Backward}
use Rattle.rules.specs.sets.Sets.{Keyword}
use Rattle.rules.specs.Beside.{nth}
use Rattle.rules.specs.rows.Rows as R

-- document 01's ways by the code's
unfoldable pub way_of : Way → R.Way
way_of Forward = R.forward
way_of Backward = R.backward

-- the keyword at place i as it is read, and the earlier ones
unfoldable pub read_at : R.Way → List Keyword → ℕ → List ℕ
read_at way ks i = R.read_by way (nth ks i).word

unfoldable pub earlier : R.Way → List Keyword → ℕ → List (List ℕ)
earlier way ks i = map (λ (k : Keyword). R.read_by way k.word) (take i ks)
