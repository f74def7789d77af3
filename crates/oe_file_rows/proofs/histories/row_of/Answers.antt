use Rattle.std.proofs.Common.{◌≡◌, refl, subst}
use Rattle.oe_file_rows.specs.Line.{Left, fields_of, group_columns, row_as}
use Rattle.oe_file_rows.specs.Rows.{behind_key, history_row_forms, history_row_values}
use Rattle.oe_file_rows.proofs.LineFacts.{left_reads}
use Rattle.oe_file_rows.proofs.RowFacts.{history_rows_same}
use Rattle.oe_file_rows.proofs.histories.row_of.Goals as goal

pub returns : goal.returns
returns c =
    left_reads (behind_key (fields_of c.args.line.now)) history_row_forms history_row_values refl history_rows_same
    c.history_row.result
    (subst (λ (l : Left). row_as history_row_values c.history_row.result ≡ group_columns history_row_forms l)
    c.behind_key.ensures c.history_row.ensures)
