use Rattle.oe_store.specs.Places.{rows}
use Rattle.oe_rows_of.proofs.LineFacts.{Fills}
use Rattle.oe_versions.specs.Versions.{rows_of}
use Rattle.oe_versions.proofs.moments.Version.lines.Given as goal

abbrev pub invariant-loop-key : goal.invariant-loop-key
invariant-loop-key l =
    Fills (rows l.self.tables).order_lines (rows_of l.self).order_lines l.fn.order l.lines l.key-iterator
