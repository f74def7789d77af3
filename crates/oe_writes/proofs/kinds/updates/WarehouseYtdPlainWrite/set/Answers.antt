use Rattle.oe_writes.proofs.SetFacts.{warehouse_made}
use Rattle.oe_writes.proofs.kinds.updates.WarehouseYtdPlainWrite.set.Goals as goal

pub returns-clause-made : goal.returns-clause-made
returns-clause-made c =
    warehouse_made c.args.tables.now c.set_warehouse_ytd.new.self c.set_warehouse_ytd.ensures.places
    c.args.self.now.warehouse
    (λ x. record x { ytd = c.args.self.now.ytd }) c.set_warehouse_ytd.ensures.names c.requires
    c.set_warehouse_ytd.ensures.rows
