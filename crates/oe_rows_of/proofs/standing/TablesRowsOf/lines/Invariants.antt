use Rattle.oe_store.specs.Places.{rows}
use Rattle.oe_rows_of.proofs.LineFacts.{Fills}
use Rattle.oe_rows_of.proofs.standing.TablesRowsOf.lines.Given as goal

abbrev pub invariant-loop-key : goal.invariant-loop-key
invariant-loop-key l =
    Fills (rows l.self).order_lines (rows l.self).order_lines l.fn.order l.lines l.key-iterator
