use Rattle.std.proofs.Common.{refl, arith}
use Rattle.oe_undo.proofs.ShelfPieceFacts.{room_for, appended, appended_content, stands_here}
use Rattle.oe_undo.proofs.shelf.meet.Goals as goal

pub append-requires-clause-room : goal.append-requires-clause-room
append-requires-clause-room g c =
    let room = room_for c.args.starts.now.items c.deref.result.now c.args.met.now.items c.args.number c.requires.pieces
    c.deref.ensures.value c.in-None.ensures c.requires.there in
    omega (arith, room, c.requires.room)

pub append-requires-clause-small : goal.append-requires-clause-small
append-requires-clause-small g c =
    let room = room_for c.args.starts.now.items c.deref.result.now c.args.met.now.items c.args.number c.requires.pieces
    c.deref.ensures.value c.in-None.ensures c.requires.there in
    omega (arith, room, c.requires.few)

pub returns-in-None-clause-pieces : goal.returns-in-None-clause-pieces
returns-in-None-clause-pieces g c =
    appended c.args.starts.now.items c.append.new.starts.items c.deref.result.now c.args.met.now.items
    c.append.new.met.items c.args.number c.append.result c.requires.pieces c.deref.ensures.value c.in-None.ensures
    c.requires.there c.append.ensures.start c.append.ensures.starts c.append.ensures.met

pub returns-in-None-clause-place : goal.returns-in-None-clause-place
returns-in-None-clause-place g c =
    stands_here c.args.starts.now.items c.append.new.starts.items c.deref.result.now c.args.met.now.items
    c.append.new.met.items c.args.number c.append.result c.requires.pieces c.deref.ensures.value c.in-None.ensures
    c.requires.there c.append.ensures.start c.append.ensures.starts c.append.ensures.met c.args.number refl

pub returns-in-None-clause-contents : goal.returns-in-None-clause-contents
returns-in-None-clause-contents g c =
    appended_content c.args.starts.now.items c.append.new.starts.items c.deref.result.now c.args.met.now.items
    c.append.new.met.items c.args.number c.append.result c.requires.pieces c.deref.ensures.value c.in-None.ensures
    c.requires.there c.append.ensures.start c.append.ensures.starts c.append.ensures.met
