-- When the row before a change may be put back, and which keys have places then.
use Rattle.std.specs.Prelude.{◌≡◌, None, IsSome, IfSome}
use Rattle.std.specs.FinMap.{get}
use Rattle.oe_rows.specs.declared.keys.Key.TheVariants as key
use Rattle.oe_model.specs.Rows.{Rows, row_at}
use Rattle.oe_model.specs.Changes.{Record, InsertedHistory, InsertedNewOrder, InsertedOrder, InsertedOrderLine}
use Rattle.oe_model.specs.Changes.{DeletedNewOrder, record_key, put_back}
use Rattle.oe_model.specs.Meets.{Meets}
use Rattle.oe_model.specs.Keys.{district_of_customer}
use Rattle.oe_index.specs.Numbers.{list_number}
use Rattle.oe_layout.specs.Stored.{last_before}
use Rattle.oe_store.specs.Names.{StandWhere, IsNamed}
use Rattle.oe_store.specs.Places.{Places, rows, HasPlace, LosesPlace, SamePlaces}

-- a row stands where the change left one, and none where it deleted one
abbrev pub Stands : Record → Rows → Type 0
Stands (DeletedNewOrder k v) r = get r.new_orders k ≡ None
Stands b r = IsSome (row_at r (record_key b))

-- the record's key is as the change left it, and the schema holds of the tables with the row before
pub record CanPutBack (s : Places) (b : Record) : Type 0 where
  pub stands : Stands b (rows s)
  pub place : HasPlace s (record_key b)
  pub schema : Meets (put_back b (rows s))

-- an inserted row's key has no place any more, and else the same keys have places
abbrev pub LeavesPlaces : Record → Places → Places → Type 0
LeavesPlaces (InsertedHistory k v) old new = LosesPlace old new (key.History k)
LeavesPlaces (InsertedNewOrder k v) old new = LosesPlace old new (key.NewOrder k)
LeavesPlaces (InsertedOrder k v) old new = LosesPlace old new (key.Order k)
LeavesPlaces (InsertedOrderLine k v) old new = LosesPlace old new (key.OrderLine k)
LeavesPlaces b old new = SamePlaces old new

-- the same customers are listed, and the lists of last names stand on where the customer is listed under the C_LAST
-- that the record puts back, if it puts one back
abbrev pub PutsNameBack : Record → Places → Places → Type 0
PutsNameBack b old new =
    StandWhere old new
    (IfSome (last_before b) (λ x. IsNamed old (list_number (district_of_customer x.0) x.1) x.0))
