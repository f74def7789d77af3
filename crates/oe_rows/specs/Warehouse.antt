-- The ranges of the columns of addresses and of warehouses (clause 1.3.1).
use Rattle.std.specs.Prelude.{◌≤◌}
use Rattle.oe_values.specs.Text.{IsText}
use Rattle.oe_rows.specs.declared.warehouses.Address.{Address}
use Rattle.oe_rows.specs.declared.warehouses.Warehouse.{Warehouse}

pub record IsAddress (a : Address) : Type 0 where
  pub street_1 : IsText 0 20 a.street_1
  pub street_2 : IsText 0 20 a.street_2
  pub city : IsText 0 20 a.city
  pub state : IsText 2 2 a.state
  pub zip : IsText 9 9 a.zip

pub record IsWarehouse (w : Warehouse) : Type 0 where
  pub name : IsText 0 10 w.name
  pub address : IsAddress w.address
  pub tax : w.tax ≤ 9_999
  pub ytd : w.ytd ≤ 999_999_999_999
