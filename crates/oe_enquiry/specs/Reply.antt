-- Whom a query means.
use Rattle.std.specs.Prelude.{ℕ, Option, Some}
use Rattle.std.specs.FinMap.{FinMap}
use Rattle.oe_rows.specs.Key.{customer_cmp}
use Rattle.oe_rows.specs.declared.customers.Customer.{Customer}
use Rattle.oe_rows.specs.declared.keys.DistrictKey.{DistrictKey}
use Rattle.oe_requests.specs.declared.requests.CustomerChoice.{CustomerChoice}
use Rattle.oe_requests.specs.declared.requests.CustomerChoice.TheVariants.{Number, LastName}
use Rattle.oe_model.specs.Choice.{middle, namesakes}

-- the C_ID of the customer that is meant; a number may be nobody's
abbrev pub customer_asked : DistrictKey → CustomerChoice → FinMap customer_cmp Customer → Option ℕ
customer_asked h (Number c) customers = Some c
customer_asked h (LastName last) customers = middle (namesakes h last customers)
