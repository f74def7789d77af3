use Rattle.std.proofs.Common.{◌∙◌, ap}
use Rattle.std.specs.Prelude.{slice_get}
use Rattle.oe_undo.specs.Shelf.{content_in}
use Rattle.oe_undo.proofs.ShelfPieceFacts.{content_seen, pieces_seen}
use Rattle.oe_undo.proofs.shelf.PlaceShelf.content.Goals as goal

pub content_of-requires : goal.content_of-requires
content_of-requires g c =
    let s = c.self.inside in
    pieces_seen s.starts.items c.deref.result.now s.met.items c.deref-2.result.now c.deref.ensures.value
    c.deref-2.ensures.value c.self.invariant.0

pub returns : goal.returns
returns g c =
    let s = c.self.inside in
    c.content_of.ensures
    ∙ content_seen s.starts.items c.deref.result.now s.met.items c.deref-2.result.now s.count c.args.number
    c.deref.ensures.value c.deref-2.ensures.value c.self.invariant.1
    ∙ ap (λ ps. content_in (slice_get ps c.args.number)) c.self.view_is
