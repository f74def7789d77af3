use Rattle.std.proofs.Common.{refl, Some}
use Rattle.oe_writes.proofs.SetFacts.{order_line_made}
use Rattle.oe_writes.proofs.kinds.updates.DeliveryDatePlainWrite.set.Goals as goal

pub returns-clause-made : goal.returns-clause-made
returns-clause-made c =
    order_line_made c.args.tables.now c.set_delivery.new.self c.set_delivery.ensures.places c.args.self.now.line
    (λ x. record x { delivery = Some c.args.self.now.stamp })
    (λ x. refl) c.schema_holds.ensures c.set_delivery.ensures.names c.requires
    c.set_delivery.ensures.rows
