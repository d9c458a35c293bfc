-- A record's verdict is the first of its tests that shows a fault, so each way out of the code is one line of the
-- table.
use Prim.Native.Nat.{ℕ, ◌≤◌, ◌<◌}
use mathlib.Core.Path.{◌≡◌, sym, ◌∙◌}
use mathlib.Core.Bool.{true, false, ◌||◌}
use mathlib.Core.List.{List}
use lib.ListN.{get_or}
use lib.Dec.{eqb, ltb}
use borrow.Author.Tests.{eq-eqb, ne_eqb, lt-ltb, le-ltb}
use Rattle.rules.specs.sets.Limits.{longest_word}
use Rattle.rules.specs.sets.Sets.{Keyword, keyword_of, is_keyword}
use Rattle.rules.specs.answers.Refusals.{pass, refuse, refuse_if, or_else, record_verdict}
use Rattle.rules.proofs.strings.Strings.{or_right}
use Rattle.sets.specs.Reading.{padding_fault}

module _ (r : List ℕ) (i n : ℕ) (ks : List Keyword) (stated : n ≡ get_or r 0 0) where
  tests : record_verdict i ks r
      ≡ or_else (refuse_if (eqb n 0 || ltb longest_word n) 4 i)
      (or_else (refuse_if (padding_fault r n) 5 i) (refuse_if (is_keyword ks (keyword_of i r).word) 6 i))
  unfolding record_verdict padding_fault
  tests = rw (← stated)

  -- the first that shows a fault decides
  judged-length : (eqb n 0 || ltb longest_word n) ≡ true → refuse 4 i ≡ record_verdict i ks r
  unfolding or_else refuse_if
  judged-length p = sym (tests ∙ rw p)

  pub judged_empty : n ≡ 0 → refuse 4 i ≡ record_verdict i ks r
  judged_empty e = judged-length (rw (eq-eqb n 0 e))

  pub judged-long : longest_word < n → refuse 4 i ≡ record_verdict i ks r
  judged-long h = judged-length (or_right (eqb n 0) (lt-ltb longest_word n h))

  module _ (filled : n ≡ 0 → ⊥) (short : n ≤ longest_word) where
    fits : (eqb n 0 || ltb longest_word n) ≡ false
    fits = rw (ne_eqb n 0 filled, le-ltb longest_word n short)

    pub judged_padding : padding_fault r n ≡ true → refuse 5 i ≡ record_verdict i ks r
    unfolding or_else refuse_if
    judged_padding p = sym (tests ∙ rw (fits, p))

    module _ (padded : padding_fault r n ≡ false) where
      pub judged_repeated : is_keyword ks (keyword_of i r).word ≡ true → refuse 6 i ≡ record_verdict i ks r
      unfolding or_else refuse_if
      judged_repeated p = sym (tests ∙ rw (fits, padded, p))

      pub judged_pass : is_keyword ks (keyword_of i r).word ≡ false → pass ≡ record_verdict i ks r
      unfolding or_else refuse_if
      judged_pass p = sym (tests ∙ rw (fits, padded, p))
