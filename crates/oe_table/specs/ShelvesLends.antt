-- What a table of shelves ends as, where a `&mut` into it is returned.
use Rattle.std.specs.Prelude.{◌≡◌, ℕ, Bool, List, Option}
use Rattle.std.specs.Option.{OnSome}
use Rattle.std.specs.Map.{set_value}
use Rattle.std.specs.BTreeMap.{is_at}
use Rattle.std.specs.declared.cmp.Ordering.{Ordering}
use Rattle.std.specs.Borrow.{LendsSo, Fml, RattleType, MutBor}
use Rattle.std.specs.contracts.option.Option.{the_row as option_row}
use Rattle.oe_table.specs.Table.{RewritesRow}
use Rattle.oe_table.specs.contracts.shelves.Shelves.{the_row}

-- what a clause has as K.ShelvedKey
abbrev pub KeyMembers : Type 0 → Type 0
KeyMembers K =
    record { partial_cmp : K → K → Option Ordering; eq : K → K → Bool; cmp : K → K → Ordering; shelf_of : K → ℕ }

module _ (K R : RattleType) (key : KeyMembers K.Denot) where
  abbrev pub table_row : RattleType
  table_row =
      the_row K R (record { shelf_of = key.shelf_of }) (record { cmp = key.cmp }) (record { eq = key.eq })
      (record { partial_cmp = key.partial_cmp })

  -- the key has at its place what was last written through r, and without r the table stays as it is
  abbrev pub lends_place : MutBor (List (K.Denot × Option R.Denot)) → K.Denot → Option (MutBor (Option R.Denot)) → Fml
  lends_place t at r =
      LendsSo table_row (option_row R) t r (λ new w. new ≡ set_value (is_at (key.cmp at)) t.now w) (λ new. new ≡ t.now)

  -- the key has the row last written through r, and without r the table stays as it is
  abbrev pub lends_row : MutBor (List (K.Denot × Option R.Denot)) → K.Denot → Option (MutBor R.Denot) → Fml
  lends_row t at r =
      LendsSo table_row R t r (λ new row. OnSome r (RewritesRow key.cmp t.now new at row)) (λ new. new ≡ t.now)
