-- What stands at the front is read exactly.
use Rattle.std.proofs.Common.{ℕ, List, Option, sym, subst, arith}
use Rattle.oe_rows.specs.declared.rows.Row.{Row}
use Rattle.oe_decode.specs.Fronts.{Reads}
use Rattle.oe_image.specs.Rows.{row_image}
use Rattle.oe_decode.specs.RowFronts.{IsRowOf}
use Rattle.oe_decode.proofs.RowFacts.{row_exact}
use Rattle.oe_decode.proofs.rows.read_row.Goals as goal

pub returns : goal.returns
returns c =
    subst (λ (r : Option (Row × List ℕ)). Reads (IsRowOf c.args.table) row_image c.args.bytes.now r)
    (sym c.front_row.ensures)
    (row_exact c.args.table c.args.bytes.now (λ i. omega (arith, c.type_inv.bytes i)))
