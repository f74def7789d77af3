-- What of a row never changes while commits follow one another.
use Rattle.std.specs.Prelude.{◌≡◌, ℕ, Option, Some, IsSome, is_some}
use Rattle.oe_rows.specs.declared.keys.Key.{Key}
use Rattle.oe_rows.specs.declared.keys.Key.TheVariants as key
use Rattle.oe_rows.specs.declared.orders.Order.{Order}
use Rattle.oe_rows.specs.declared.rows.Row.{Row}
use Rattle.oe_rows.specs.declared.rows.Row.TheVariants as row
use Rattle.oe_theory.specs.Store.{Store, version_of}
use Rattle.oe_theory.specs.StoreTheorems.{IsStanding}
use Rattle.oe_model.specs.Rows.{row_at}
use Rattle.oe_model.specs.Meets.{Meets}
use Rattle.oe_model.specs.System.{system}

-- What a key had at a moment it has now, as far as this: a row of five tables is there or not at all times; a row that
-- is inserted stays, but for one of NEW-ORDER, one of HISTORY as it is, and an order has its customer
abbrev pub Lasts : Key → Option Row → Option Row → Type 0
Lasts (key.Warehouse k) before now = is_some before ≡ is_some now
Lasts (key.District k) before now = is_some before ≡ is_some now
Lasts (key.Customer k) before now = is_some before ≡ is_some now
Lasts (key.History k) before now = IsSome before → now ≡ before
Lasts (key.NewOrder k) before now = Unit {0}
Lasts (key.Order k) before now =
    (x : Order) → before ≡ Some (row.Order x)
    → (y : Order) × (now ≡ Some (row.Order y)) × (y.customer ≡ x.customer)
Lasts (key.OrderLine k) before now = IsSome before → IsSome now
Lasts (key.Item k) before now = is_some before ≡ is_some now
Lasts (key.Stock k) before now = is_some before ≡ is_some now

-- rows last so at each moment
abbrev pub Rows_last : Type 0
Rows_last =
    (s : Store system) (m : ℕ) (k : Key) → IsStanding system s
    → Lasts k (row_at (version_of system s m) k) (row_at s.tables k)

-- the schema holds of the version of each moment (clauses 1.3 and 1.4)
abbrev pub Versions_meet : Type 0
Versions_meet = (s : Store system) (m : ℕ) → IsStanding system s → Meets (version_of system s m)
