use Rattle.oe_store.specs.Places.{rows}
use Rattle.oe_origin.proofs.StockFacts.{unstocked_is}
use Rattle.oe_origin.proofs.stocks.no_stock.Goals as goal

pub returns : goal.returns
returns c = unstocked_is (rows c.args.tables.now) c.first_unstocked.result c.first_unstocked.ensures
