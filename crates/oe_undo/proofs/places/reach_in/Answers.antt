use Rattle.std.proofs.Common.{◌<◌, ◌+◌, ◌∙◌, refl, ap, arith, [], set, length}
use Rattle.std.proofs.lemmas.List.{get_or_read_under}
use Rattle.std.proofs.lemmas.Result.{on_ok_weaker, on_err_weaker}
use Rattle.oe_undo.specs.Shelf.{spread}
use Rattle.oe_undo.proofs.PlaceFacts.{shelf_reached, no_place}
use Rattle.oe_undo.proofs.places.reach_in.Goals as goal

pub returns-clause-reached : goal.returns-clause-reached
returns-clause-reached g c =
    let old = c.args.shelves.now.items in
    let mid = c.reach_shelf.new.shelves.items in
    let some : c.args.shelf < length mid = omega
    (arith, c.in_ok-reach_shelf.ensures.reached, c.reach_shelf.new.shelves.ok.0) in
    let here = get_or_read_under mid c.args.shelf (length mid) c.index_mut.result.now [] c.index_mut.ensures.value some
    refl in
    on_ok_weaker c.reach.result
    (λ e. shelf_reached old mid _ c.reach_shelf.ensures.padded.0 c.args.shelf c.args.number
    c.reach_shelf.ensures.padded.1 some
    (ap (set mid c.args.shelf) (e ∙ ap (spread (c.args.number + 1)) here)))
    c.reach.ensures.reached

pub returns-clause-short : goal.returns-clause-short
returns-clause-short g c =
    let old = c.args.shelves.now.items in
    let mid = c.reach_shelf.new.shelves.items in
    let some : c.args.shelf < length mid = omega
    (arith, c.in_ok-reach_shelf.ensures.reached, c.reach_shelf.new.shelves.ok.0) in
    let here = get_or_read_under mid c.args.shelf (length mid) c.index_mut.result.now [] c.index_mut.ensures.value some
    refl in
    on_err_weaker c.reach.result
    (λ short. no_place old mid c.reach_shelf.ensures.padded.0 c.args.shelf c.args.number c.reach_shelf.ensures.padded.1
    (omega (arith, short, ap length here)))
    c.reach.ensures.short
