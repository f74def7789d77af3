use Rattle.std.proofs.Common.{◌∙◌, sym}
use Rattle.oe_table.proofs.SweepFacts.{rows-alone}
use Rattle.oe_table.proofs.shelf.Shelf.sweep.Goals as goal

pub returns-then-has_rows_alone : goal.returns-then-has_rows_alone
returns-then-has_rows_alone g c = rows-alone c.args.self.now (sym c.has_rows_alone.ensures ∙ c.if-has_rows_alone.true)
