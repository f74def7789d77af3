use Rattle.std.proofs.Common.{true}
use Rattle.oe_rows.specs.Key.{customer_cmp}
use Rattle.oe_table.specs.Table.{rows_of}
use Rattle.oe_index.specs.Numbers.{list_of_name}
use Rattle.oe_index.proofs.FoundFacts.{listed-none}
use Rattle.oe_index.proofs.customers.Customers.new.Goals as goal

pub invariant_of-result : goal.invariant_of-result
invariant_of-result c = listed-none list_of_name true c.new-2.result (rows_of customer_cmp c.new.result)
    c.new.ensures.rows
