-- What slots, shelves and tables of shelves end as, where a `&mut` into them is returned.
use Rattle.std.specs.Prelude.{◌≡◌, List, Option}
use Rattle.std.specs.Map.{set_value}
use Rattle.std.specs.BTreeMap.{is_at}
use Rattle.std.specs.Borrow.{Lends, LendsSo, Fml, RattleType, MutBor}
use Rattle.std.specs.declared.cmp.Ordering.{Ordering}
use Rattle.std.specs.contracts.option.Option.{the_row as option_row}
use Rattle.oe_table.specs.contracts.shelf.Slot.{the_row as slot_row}
use Rattle.oe_table.specs.contracts.shelf.Shelf.{the_row as shelf_row}

module _ (K R : RattleType) where
  -- the slot keeps its key, and has what was last written through r
  abbrev pub lends_content : MutBor (K.Denot × Option R.Denot) → MutBor (Option R.Denot) → Fml
  lends_content s r = Lends (slot_row K R) (option_row R) s r (λ w. (s.now.0, w))

  -- the shelf has at the key what was last written through r, and without r it stays as it is
  abbrev pub lends_slot : (K.Denot → K.Denot → Ordering) → MutBor (List (K.Denot × Option R.Denot)) → K.Denot
      → Option (MutBor (Option R.Denot)) → Fml
  lends_slot cmp s at r =
      LendsSo (shelf_row K R) (option_row R) s r (λ new w. new ≡ set_value (is_at (cmp at)) s.now w)
      (λ new. new ≡ s.now)
