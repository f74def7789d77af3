use Rattle.oe_file_tables.proofs.BatchFacts.{ascending_ordered}
use Rattle.oe_file_tables.proofs.tables.in_order.Goals as goal

pub returns-then-ascends : goal.returns-then-ascends
returns-then-ascends g c =
    ascending_ordered g.K.Ord.cmp g.met.K.Ord.total g.R.RowLine.own_table g.R.RowLine.key_of c.args.gathered
    c.in-Ok.rows c.args.faults.now c.in-Ok.ensures (c.ascends-ascends.ensures c.if-ascends.true)
