use Rattle.oe_rows.specs.Item.{with_counters}
use Rattle.oe_writes.proofs.SetFacts.{stock_made}
use Rattle.oe_writes.proofs.kinds.updates.StockCountsPlainWrite.set.Goals as goal

pub returns-clause-made : goal.returns-clause-made
returns-clause-made c =
    stock_made c.args.tables.now c.set_counters.new.self c.set_counters.ensures.places c.args.self.now.stock
    (with_counters c.args.self.now.counters) c.set_counters.ensures.names c.requires c.set_counters.ensures.rows
