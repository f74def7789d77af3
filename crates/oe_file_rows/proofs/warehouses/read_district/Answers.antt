use Rattle.std.proofs.Common.{◌≡◌, refl, subst}
use Rattle.oe_file_rows.specs.Line.{Left, group_columns, row_as}
use Rattle.oe_file_rows.specs.Rows.{district_forms, district_values}
use Rattle.oe_file_rows.proofs.LineFacts.{row_reads}
use Rattle.oe_file_rows.proofs.RowFacts.{districts_same}
use Rattle.oe_file_rows.proofs.warehouses.read_district.Goals as goal

pub returns : goal.returns
returns c =
    row_reads 0 district_forms district_values refl districts_same c.args.line.now c.district.result
    (subst (λ (l : Left). row_as district_values c.district.result ≡ group_columns district_forms l) c.of.ensures
    c.district.ensures)
