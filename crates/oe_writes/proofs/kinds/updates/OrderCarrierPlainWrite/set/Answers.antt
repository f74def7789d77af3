use Rattle.std.proofs.Common.{refl, Some}
use Rattle.oe_writes.proofs.SetFacts.{order_made}
use Rattle.oe_writes.proofs.kinds.updates.OrderCarrierPlainWrite.set.Goals as goal

pub returns-clause-made : goal.returns-clause-made
returns-clause-made c =
    order_made c.args.tables.now c.set_carrier.new.self c.set_carrier.ensures.places c.args.self.now.order
    (λ x. record x { carrier = Some c.args.self.now.carrier })
    (λ x. refl) c.set_carrier.ensures.names c.requires c.set_carrier.ensures.rows
