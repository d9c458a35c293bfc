-- The keyword of a record goes behind those before it, so the list then begins with one more, and whether it repeats
-- one is asked of the list.
use Prim.Native.Nat.{ℕ, ◌+◌, ◌*◌}
use native.Mathlib.Omega.{arith}
use native.Mathlib.Numerals.{add-one}
use mathlib.Core.Path.{◌≡◌, sym, ◌∙◌, ap}
use mathlib.Core.Bool.{Bool}
use mathlib.Core.List.{List, [], ◌∷◌, ◌++◌}
use lib.ListN.{length, take, length-append}
use lib.Seq.{take_at, get_or_at}
use Rattle.rules.specs.sets.Sets.{Keyword, keywords_from, is_keyword}
use Rattle.rules.specs.Beside.{no_keyword, nth, keyword_at}
use Rattle.rules.proofs.sets.Sets.{keywords_more, length-keywords_from}
use Rattle.words.specs.Items.{item_size, keywords_in, Words, Has, Stored, Begins}
use Rattle.words.proofs.Items.{has_at}
use Rattle.words.proofs.Storing.{begins_more, begins_cut}
use Rattle.sets.specs.Reading.{Reading}

module _ {s : List ℕ} {i : ℕ} {l l' : List ℕ} (so : Reading s i l) (stored : Stored l i (keyword_at s i) l') where
  pub kept-begins : Begins l' (keywords_from 0 (i + 1) s)
  kept-begins =
      rw (add-one i, keywords_more i s)
      (begins_more (length-keywords_from 0 i s) so.begins (omega (arith, so.few, so.room)) stored)

  part_of : Words (take (item_size * (i + 1)) l') × (keywords_in (take (item_size * (i + 1)) l') ≡ keywords_from 0 i s ++ (keyword_at s i ∷ []))
  part_of =
      let cut = begins_cut (i + 1) (sym (length-keywords_from 0 (i + 1) s)) kept-begins in
      (cut.0, cut.1 ∙ rw (add-one i) (keywords_more i s))

  pub kept_has : Has (take (item_size * (i + 1)) l') i
  kept_has =
      let long = length-append (keywords_from 0 i s) (keyword_at s i ∷ []) in
      has_at part_of.0 (omega (arith, ap length part_of.1, long, length-keywords_from 0 i s))

  -- whether it repeats one
  pub kept_repeated : {b : Bool}
      → b ≡ is_keyword (take i (keywords_in (take (item_size * (i + 1)) l'))) (nth (keywords_in (take (item_size * (i + 1)) l')) i).word
      → is_keyword (keywords_from 0 i s) (keyword_at s i).word ≡ b
  kept_repeated e =
      let ks : List Keyword = keywords_from 0 i s in
      let long : length ks ≡ i = length-keywords_from 0 i s in
      sym (e
      ∙ rw (part_of.1, take_at ks (keyword_at s i ∷ []) i long, get_or_at ks (keyword_at s i) [] no_keyword i long))
