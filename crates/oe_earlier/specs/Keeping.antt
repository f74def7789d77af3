-- What is kept of rows is what they bring.
use Rattle.std.specs.Prelude.{nat_eq}
use Rattle.std.specs.Ordering.{nat_cmp}
use Rattle.oe_tally.specs.Tallies.{SameTotals, IsSettled}
use Rattle.oe_ledgers.specs.Keys.{same_district, same_customer, same_stock, district_cmp, customer_cmp, stock_cmp}
use Rattle.oe_earlier.specs.declared.compared.Compared.{Compared}
use Rattle.oe_earlier.specs.declared.traces.Traces.{Traces}
use Rattle.oe_earlier.specs.Traces.{Traced, traces_joined, residues_joined}

-- each key has the sum of what rows bring to it
pub record KeepsTraces (t : Traced) (kept : Traces) : Type 0 where
  pub warehouses : SameTotals nat_eq traces_joined t.warehouses kept.warehouses
  pub districts : SameTotals same_district traces_joined t.districts kept.districts
  pub customers : SameTotals same_customer traces_joined t.customers kept.customers
  pub items : SameTotals nat_eq traces_joined t.items kept.items
  pub stocks : SameTotals same_stock traces_joined t.stocks kept.stocks
  pub residues : SameTotals same_stock residues_joined t.residues kept.residues

-- all sums stand in the order of their keys
pub record AreSettledTraces (kept : Traces) : Type 0 where
  pub warehouses : IsSettled nat_cmp kept.warehouses
  pub districts : IsSettled district_cmp kept.districts
  pub customers : IsSettled customer_cmp kept.customers
  pub items : IsSettled nat_cmp kept.items
  pub stocks : IsSettled stock_cmp kept.stocks
  pub residues : IsSettled stock_cmp kept.residues

-- the same of earlier rows, and of those now
pub record KeepsCompared (b n : Traced) (kept : Compared) : Type 0 where
  pub before : KeepsTraces b kept.before
  pub now : KeepsTraces n kept.current

pub record AreSettledCompared (kept : Compared) : Type 0 where
  pub before : AreSettledTraces kept.before
  pub now : AreSettledTraces kept.current
