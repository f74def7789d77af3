use Rattle.std.specs.BTreeMap.Range.{range_contains}
use Rattle.std.specs.declared.ops.Bound.TheVariants.{Included}
use Rattle.oe_table.specs.Shelf.{whole_list}
use Rattle.oe_table.proofs.WalkFacts.{live-between}
use Rattle.std.proofs.Common.{sym, ◌∙◌}
use Rattle.oe_table.proofs.RangeFacts.{lower-within, upper-within, places-up_to, cuts-up_to, joined-ascends}
use Rattle.oe_table.proofs.shelves.Shelves.range_inclusive.Goals as goal

pub rows_between-requires-clause-within : goal.rows_between-requires-clause-within
rows_between-requires-clause-within g c =
    rw (
      c.cut_before-start.ensures.shelf,
      c.cut_before-start.ensures.slot,
      c.deref.ensures.value,
      c.deref-3.ensures.value,
    ) (lower-within g.K.Ord.cmp _ c.args.from)

pub rows_between-requires-clause-ends : goal.rows_between-requires-clause-ends
rows_between-requires-clause-ends g c =
    rw (c.cut_after-end.ensures.shelf, c.cut_after-end.ensures.slot, c.deref-2.ensures.value, c.deref-3.ensures.value)
    (upper-within g.K.Ord.cmp _ c.args.to)

pub rows_between-requires-clause-same : goal.rows_between-requires-clause-same
rows_between-requires-clause-same g c e =
    rw (c.cut_before-start.ensures.slot, c.cut_after-end.ensures.slot, c.deref.ensures.value, c.deref-2.ensures.value)
    (cuts-up_to g.K.Ord.cmp g.met.K.Ord.total g.K.ShelvedKey.shelf_of g.met.K.ShelvedKey.ascends c.args.from
    c.args.to c.requires c.self.inside.shelves.items _ _
    (sym c.cut_before-start.ensures.shelf ∙ e ∙ c.cut_after-end.ensures.shelf))

pub returns : goal.returns
returns g c =
    rw (
      ← c.self.view_is,
      c.rows_between.ensures,
      c.cut_before-start.ensures.slot,
      c.cut_after-end.ensures.slot,
      c.cut_before-start.ensures.shelf,
      c.cut_after-end.ensures.shelf,
      c.deref.ensures.value,
      c.deref-2.ensures.value,
      c.deref-3.ensures.value,
    )
    (live-between g.K.Ord.cmp g.met.K.Ord.total g.met.K.TableKey.exact
    (range_contains g.K.Ord.cmp (Included c.args.from) (Included c.args.to)) (whole_list c.self.inside.shelves.items) _
    (joined-ascends g.K.Ord.cmp g.K.ShelvedKey.shelf_of g.met.K.ShelvedKey.ascends 0 c.self.inside.shelves.items
    c.self.invariant)
    (places-up_to g.K.Ord.cmp g.met.K.Ord.total g.K.ShelvedKey.shelf_of g.met.K.ShelvedKey.ascends c.args.from c.args.to
    c.requires c.self.inside.shelves.items c.self.invariant))
