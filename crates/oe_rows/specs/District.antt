-- The ranges of the columns of districts (clause 1.3.1).
use Rattle.std.specs.Prelude.{◌≤◌}
use Rattle.std.specs.Int.{IsInRange}
use Rattle.oe_values.specs.Text.{IsText}
use Rattle.oe_rows.specs.Warehouse.{IsAddress}
use Rattle.oe_rows.specs.declared.districts.District.{District}

pub record IsDistrict (d : District) : Type 0 where
  pub name : IsText 0 10 d.name
  pub address : IsAddress d.address
  pub tax : d.tax ≤ 9_999
  pub ytd : d.ytd ≤ 999_999_999_999
  pub next_order : IsInRange 1 10_000_000 d.next_order
