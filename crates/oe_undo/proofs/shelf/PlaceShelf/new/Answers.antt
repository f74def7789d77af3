use Rattle.std.proofs.Common.{◌≡◌, ap, arith, length}
use Rattle.oe_undo.proofs.ShelfPieceFacts.{no_pieces, no_content}
use Rattle.oe_undo.proofs.shelf.PlaceShelf.new.Goals as goal

pub invariant_of-result : goal.invariant_of-result
invariant_of-result g c =
    let starts = c.new.result.items in
    let met = c.new-2.result.items in
    let none : length starts ≡ 0 = ap length c.new.ensures.items in (
      no_pieces starts met c.new.ensures.items c.new-2.ensures.items,
      no_content starts met c.new.ensures.items,
      omega arith,
      omega (arith, none),
      omega (arith, none),
    )
