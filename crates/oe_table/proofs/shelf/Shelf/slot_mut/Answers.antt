use Rattle.std.proofs.Common.{◌≡◌, ◌<◌, ◌≤◌, refl, ap, arith, length, None}
use Rattle.std.proofs.lemmas.List.{get_or_read}
use Rattle.oe_table.specs.Table.{place}
use Rattle.oe_table.specs.Shelf.{IsAscending, StandsAt}
use Rattle.oe_table.proofs.ShelfFacts.{slot-answer, set-answer}
use Rattle.oe_table.proofs.ShelvesFacts.{none-written}
use Rattle.oe_table.proofs.PassedFacts.{none-set}
use Rattle.oe_table.proofs.shelf.Shelf.slot_mut.Goals as goal

pub returns-then-slots-at : goal.returns-then-slots-at
returns-then-slots-at g c =
    let same : length c.slots.result.now ≡ length c.self.inside.slots = ap length c.slots.ensures in
    let past : length c.self.inside.slots ≤ c.position-at.result = omega (arith, c.if-slots-at.true, same) in
    let none : place g.K.Ord.cmp c.self.inside.slots c.args.key.now ≡ None = c.position-at.ensures.none past in (
      (
        refl,
        (λ w. rw (← c.self.view_is)
            (none-written g.K.Ord.cmp g.K.ShelvedKey.shelf_of g.met.K.TableKey.exact c.self.inside.slots c.args.key.now
            w
            none)),
        c.self.view_is,
      ),
      record { writes_back = tt; value = rw (← c.self.view_is, none) refl },
    )

pub invariant_of-self-lent : goal.invariant_of-self-lent
invariant_of-self-lent g c w = none-set c.self.inside.slots c.self.inside.blanked c.min-self-inside.result
    c.position-at.result _ (omega (arith, c.min-self-inside.ensures)) c.self.invariant

pub returns : goal.returns
returns g c =
    let e = c.item_mut.result.now in
    let same : length c.slots.result.now ≡ length c.self.inside.slots = ap length c.slots.ensures in
    let within : c.position-at.result < length c.self.inside.slots = omega (arith, c.if-slots-at.false, same) in
    let there = get_or_read c.self.inside.slots c.position-at.result e within c.item_mut.ensures.value in
    let at : StandsAt g.K.Ord.cmp c.self.inside.slots c.args.key.now c.position-at.result =
    c.position-at.ensures.stands within in
    let up : IsAscending g.K.Ord.cmp c.self.inside.slots = rw c.self.view_is c.requires in (
      (
        refl,
        (λ w. rw (← c.self.view_is)
            (set-answer g.K.Ord.cmp g.met.K.Ord.total c.self.inside.slots e c.args.key.now c.position-at.result w up at
            there)),
        refl,
      ),
      record {
        writes_back = tt;
        value = rw (← c.self.view_is, c.content_mut.ensures.value)
            (slot-answer g.K.Ord.cmp g.met.K.Ord.total c.self.inside.slots e c.args.key.now c.position-at.result up at
            there);
      },
    )
