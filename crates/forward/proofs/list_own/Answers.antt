-- The row's own keyword is one hit more, and where it is none the row ends as its dictionary row does.
use mathlib.Core.Path.{◌≡◌, sym, ◌∙◌}
use Rattle.std.specs.Prelude.{Some}
use Rattle.rows.specs.Tree.{own}
use Rattle.forward.proofs.Endings.{key_in, listing_passed, listing_hit, listing_more}
use Rattle.forward.proofs.list_own.Goals as goal

pub list-requires : goal.list-requires
list-requires g c =
    let s = c.args.scan in
    let some : own (key_in s.ws.now c.args.at) ≡ Some c.from.result = cc in
    (c.requires.done, g.course.old, listing_hit s.words.list.now s.words.sound s.laid c.requires some)

pub returns-in-Some : goal.returns-in-Some
returns-in-Some g c =
    let s = c.args.scan in
    let some : own (key_in s.ws.now c.args.at) ≡ Some c.from.result = cc in
    let hitting = listing_hit s.words.list.now s.words.sound s.laid c.requires some in
    listing_more s.words.list.now s.words.sound s.laid c.requires some (c.list.ensures c.requires.done _ hitting)

pub returns-in-None : goal.returns-in-None
returns-in-None g c =
    let s = c.args.scan in
    listing_passed s.words.list.now s.words.sound s.laid c.requires (sym c.key.ensures.0 ∙ c.in-None.is)
