-- The record holds the suffix's length and its first k bytes, so at the end the suffix, and then its two numbers.
use Prim.Native.Nat.{ℕ, ◌<◌, ◌≤◌}
use native.Mathlib.Omega.{arith}
use mathlib.Core.Path.{◌≡◌, refl, ap, ◌∙◌}
use mathlib.Core.List.{List}
use lib.ListN.{length}
use Rattle.rules.specs.sets.Limits.{longest_word}
use Rattle.rules.specs.skips.Skips.{inner, edge, holds_before, ends_within, record_of}
use Rattle.rules.specs.sets.Sets.{Keyword}
use Rattle.words.specs.Items.{keywords_in}
use Rattle.skips.specs.Suffixes.{largest_of, some_stops}
use Rattle.skips.proofs.Keywords.{suffix-length, suffix_short, suffix_byte}
use Rattle.skips.proofs.Spelling.{spelled_none, spelled_more, spelled_all}
use Rattle.skips.proofs.suffixes.record_of.Goals as goal
use Rattle.skips.proofs.suffixes.record_of.Goals.{After-suffix_of-suffix, After-largest-2}

-- the suffix is short
short : (c : After-suffix_of-suffix) → length c.suffix_of-suffix.result.now ≤ longest_word
short c =
    let ok = c.args.row.stands.walked.suffix in
    omega (arith, ap length c.suffix_of-suffix.ensures, suffix-length ok, suffix_short ok)

pub overflow_cast-numbers : goal.overflow_cast-numbers
overflow_cast-numbers c = omega (arith, short (goal.at.overflow_cast-numbers c).After-suffix_of-suffix)

pub loop-k-init : goal.loop-k-init
loop-k-init c = spelled_none _ _ refl (short (goal.at.loop-k-init c).After-suffix_of-suffix)

-- and made of bytes
pub overflow_cast-numbers-in-loop-k : goal.overflow_cast-numbers-in-loop-k
overflow_cast-numbers-in-loop-k c =
    let ok = c.args.row.stands.walked.suffix in
    let same = c.suffix_of-suffix.ensures in
    let within : c.loop-k.k < c.args.row.depth = omega (arith, ap length same, suffix-length ok) in
    omega (arith, rw (← same) at (suffix_byte ok c.loop-k.k within))

pub loop-k-preserved : goal.loop-k-preserved
loop-k-preserved c = spelled_more c.loop-k.invariant _ refl c.loop-k-test.true

-- its two numbers are the searches' for the two tests
inner_is : (ks : List Keyword) (v : List ℕ) → largest_of holds_before ks v ≡ inner ks v
unfolding largest_of some_stops inner
inner_is ks v = refl

edge_is : (ks : List Keyword) (v : List ℕ) → largest_of ends_within ks v ≡ edge ks v
unfolding largest_of some_stops edge
edge_is ks v = refl

pub returns : goal.returns
unfolding record_of
returns c =
    let ks = keywords_in c.args.row.set.words.list.now in
    let v = c.suffix_of-suffix.result.now in
    let first : c.largest.result ≡ inner ks v = c.largest.ensures.1 holds_before (record { says = λ w s n b p. p }) ∙ inner_is ks v in
    let second : c.largest-2.result ≡ edge ks v = c.largest-2.ensures.1 ends_within (record { says = λ w s n b p. p }) ∙ edge_is ks v in
    rw (first, second, ← c.suffix_of-suffix.ensures) (spelled_all c.loop-k.invariant (omega arith) (inner ks v) (edge ks v))
