use Rattle.std.proofs.Common.{refl, ◌∙◌, ap, [], List, Option, ◌≡◌, get_or}
use Rattle.oe_table.specs.Shelf.{whole_list}
use Rattle.oe_table.proofs.ShelvesFacts.{past-shelves, slot-on_shelf, shelf-ascends, written-on_shelf, lent-on_shelf}
use Rattle.oe_table.proofs.ShelvesFacts.{same-shelf, none-written}
use Rattle.oe_table.proofs.shelves.Shelves.slot_mut.Goals as goal

pub returns-in_err-self-inside : goal.returns-in_err-self-inside
returns-in_err-self-inside g c =
    let none = past-shelves g.K.Ord.cmp g.K.ShelvedKey.shelf_of g.met.K.TableKey.exact c.self.inside.shelves.items
    c.args.key.now c.self.invariant
    (rw (← c.shelf-number.ensures.number) c.in_err-self-inside.ensures.item.3) in (
      (
        rw c.from_residual.ensures refl,
        (λ w. rw (← c.self.view_is)
            (none-written g.K.Ord.cmp g.K.ShelvedKey.shelf_of g.met.K.TableKey.exact
            (whole_list c.self.inside.shelves.items)
            c.args.key.now w none)),
        c.self.view_is,
      ),
      record { writes_back = tt; value = rw (c.from_residual.ensures, ← c.self.view_is, none) refl },
    )

pub slot_mut-requires : goal.slot_mut-requires
slot_mut-requires g c =
    rw (c.in_ok-self-inside.ensures.item.3.1 [])
    (shelf-ascends g.K.Ord.cmp g.K.ShelvedKey.shelf_of 0 c.self.inside.shelves.items c.shelf-number.result
    c.self.invariant)

pub invariant_of-self-lent : goal.invariant_of-self-lent
invariant_of-self-lent g c _ = (
  (λ w. lent-on_shelf g.K.Ord.cmp g.K.ShelvedKey.shelf_of g.met.K.TableKey.exact c.self.inside.shelves.items
      c.in_ok-self-inside.field-0.now (c.slot_mut.follows.lender w) c.args.key.now c.shelf-number.result w
      c.self.invariant c.in_ok-self-inside.ensures.item.3.1 (c.slot_mut.follows.holds w)),
  rw (same-shelf g.K.Ord.cmp g.K.ShelvedKey.shelf_of g.met.K.TableKey.exact c.self.inside.shelves.items
      c.in_ok-self-inside.field-0.now c.slot_mut.follows.lender-at-none c.shelf-number.result
      c.in_ok-self-inside.ensures.item.3.1 c.slot_mut.follows.holds-at-none) c.self.invariant,
)

pub returns : goal.returns
returns g c =
    let there : (d : List (g.row.K.Denot × Option g.row.R.Denot))
    → c.in_ok-self-inside.field-0.now ≡ get_or c.self.inside.shelves.items (g.K.ShelvedKey.shelf_of c.args.key.now)
    d =
    rw (← c.shelf-number.ensures.number) c.in_ok-self-inside.ensures.item.3.1 in (
      (
        refl,
        (λ w. rw (← c.self.view_is, c.shelf-number.ensures.number)
            (written-on_shelf g.K.Ord.cmp g.K.ShelvedKey.shelf_of g.met.K.TableKey.exact c.self.inside.shelves.items
            c.in_ok-self-inside.field-0.now (c.slot_mut.follows.lender w) c.args.key.now w c.self.invariant there
            (c.slot_mut.follows.holds w))),
        ap whole_list (same-shelf g.K.Ord.cmp g.K.ShelvedKey.shelf_of g.met.K.TableKey.exact c.self.inside.shelves.items
            c.in_ok-self-inside.field-0.now c.slot_mut.follows.lender-at-none c.shelf-number.result
            c.in_ok-self-inside.ensures.item.3.1 c.slot_mut.follows.holds-at-none) ∙ c.self.view_is,
      ),
      record {
        writes_back = tt;
        value = c.slot_mut.ensures.value ∙ rw (← c.self.view_is)
            (slot-on_shelf g.K.Ord.cmp g.K.ShelvedKey.shelf_of g.met.K.TableKey.exact c.self.inside.shelves.items
            c.in_ok-self-inside.field-0.now c.args.key.now c.self.invariant there);
      },
    )
