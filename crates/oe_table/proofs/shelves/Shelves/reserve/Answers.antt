use Rattle.std.proofs.Common.{◌∙◌, ◌≡◌, ◌<◌, length, set, ap, arith}
use Rattle.std.proofs.lemmas.List.{get_or_read}
use Rattle.oe_table.specs.Shelf.{whole_list}
use Rattle.oe_table.proofs.ShelvesFacts.{shelves-after, joined-after, same-shelf}
use Rattle.oe_table.proofs.shelves.Shelves.reserve.Goals as goal

pub invariant_of-self : goal.invariant_of-self
invariant_of-self g c =
    shelves-after g.K.Ord.cmp g.K.ShelvedKey.shelf_of c.self.inside.shelves.items c.reach.new.shelves.items
    c.reach.ensures.padded.0 c.self.invariant c.reach.ensures.padded.1

pub returns-in_err-reach : goal.returns-in_err-reach
returns-in_err-reach g c =
    joined-after c.self.inside.shelves.items c.reach.new.shelves.items c.reach.ensures.padded.0
    c.reach.ensures.padded.1 ∙ c.self.view_is

pub invariant_of-self-2 : goal.invariant_of-self-2
invariant_of-self-2 g c =
    let cmp = g.K.Ord.cmp in
    let by = g.K.ShelvedKey.shelf_of in
    let shelves = c.reach.new.shelves.items in
    let n = c.shelf-number.result in
    let within : n < length shelves = omega (arith, c.in_ok-reach.ensures.reached, c.reach.new.shelves.ok.0) in
    let same : set shelves n c.reserve.new.self ≡ shelves =
    same-shelf cmp by g.met.K.TableKey.exact shelves c.index_mut.result.now c.reserve.new.self n
    (get_or_read shelves n c.index_mut.result.now within c.index_mut.ensures.value) c.reserve.ensures in
    rw same
    (shelves-after cmp by c.self.inside.shelves.items shelves c.reach.ensures.padded.0 c.self.invariant
    c.reach.ensures.padded.1)

pub returns : goal.returns
returns g c =
    let cmp = g.K.Ord.cmp in
    let by = g.K.ShelvedKey.shelf_of in
    let shelves = c.reach.new.shelves.items in
    let n = c.shelf-number.result in
    let within : n < length shelves = omega (arith, c.in_ok-reach.ensures.reached, c.reach.new.shelves.ok.0) in
    let same : set shelves n c.reserve.new.self ≡ shelves =
    same-shelf cmp by g.met.K.TableKey.exact shelves c.index_mut.result.now c.reserve.new.self n
    (get_or_read shelves n c.index_mut.result.now within c.index_mut.ensures.value) c.reserve.ensures in
    ap whole_list same
    ∙ joined-after c.self.inside.shelves.items shelves c.reach.ensures.padded.0 c.reach.ensures.padded.1
    ∙ c.self.view_is
