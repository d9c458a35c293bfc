-- The row's own keyword comes first; what is left then are the hits of the next dictionary row, until there is none.
use native.Mathlib.Omega.{arith}
use mathlib.Core.Path.{◌≡◌, sym, ◌∙◌}
use Rattle.words.specs.Items.{keywords_in}
use Rattle.forward.specs.Progress.{Listing, dictionary_in}
use Rattle.rows.proofs.Links.{linked, unlinked}
use Rattle.forward.proofs.Endings.{dictionary_shorter, listing_none, listing_all}
use Rattle.forward.proofs.list_hits.Goals as goal
use Rattle.forward.proofs.list_hits.Goals.{In-Some}
use Rattle.forward.proofs.list_hits.Given.{Over}

pub list_own-next-requires : goal.list_own-next-requires
list_own-next-requires g c = listing_none c.args.scan.words.sound c.requires

pub loop-behind-init : goal.loop-behind-init
loop-behind-init g c =
    record { within = (listing_none c.args.scan.words.sound c.requires).within; listing = c.list_own-next.ensures }

-- a turn: there is a dictionary row, which the code calls `behind`
is : (g : Over) (c : In-Some g)
    → (dictionary_in c.args.scan.ws.now c.loop-behind.at ≡ c.in-Some.behind)
    × (dictionary_in c.args.scan.ws.now c.loop-behind.at ≡ 0 → ⊥)
is g c = let (same, some) = linked _ _ (sym c.dictionary.ensures.0 ∙ c.in-Some.is) in (same, λ z. omega (arith, same, some, z))

listing : (g : Over) (c : In-Some g)
    → Listing (keywords_in c.args.scan.words.list.now) g.course c.in-Some.behind c.args.end c.loop-behind.next
    c.loop-behind.hits
listing g c = rw (is g c).0 at c.loop-behind.invariant.listing

pub list_own-next-requires-in-Some : goal.list_own-next-requires-in-Some
list_own-next-requires-in-Some g c = listing g (goal.at.list_own-next-requires-in-Some g c).In-Some

pub loop-behind-smaller : goal.loop-behind-smaller
loop-behind-smaller g c =
    let s = c.args.scan in
    let (same, some) = is g (goal.at.loop-behind-smaller g c).In-Some in
    rw (← same) (dictionary_shorter s.words.sound s.laid c.loop-behind.at c.loop-behind.invariant.within some)

pub loop-behind-preserved : goal.loop-behind-preserved
loop-behind-preserved g c =
    let place = (goal.at.loop-behind-preserved g c).In-Some in
    record { within = (listing g place).within; listing = c.list_own-next-in-Some.ensures }

pub returns : goal.returns
returns g c =
    let none = unlinked _ (sym c.dictionary.ensures.0 ∙ c.in_default.is) in
    listing_all c.args.scan.words.sound (rw none at c.loop-behind.invariant.listing)
