use Rattle.std.proofs.Common.{◌≡◌, refl, subst}
use Rattle.oe_file_rows.specs.Line.{Left, group_columns, row_as}
use Rattle.oe_file_rows.specs.Rows.{customer_forms, customer_values}
use Rattle.oe_file_rows.proofs.LineFacts.{row_reads}
use Rattle.oe_file_rows.proofs.RowFacts.{customers_same}
use Rattle.oe_file_rows.proofs.customers.read_customer.Goals as goal

pub returns : goal.returns
returns c =
    row_reads 0 customer_forms customer_values refl customers_same c.args.line.now c.customer.result
    (subst (λ (l : Left). row_as customer_values c.customer.result ≡ group_columns customer_forms l) c.of.ensures
    c.customer.ensures)
