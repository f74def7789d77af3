use Rattle.oe_writes.proofs.SetFacts.{district_made}
use Rattle.oe_writes.proofs.kinds.updates.NextOrderPlainWrite.set.Goals as goal

pub returns-clause-made : goal.returns-clause-made
returns-clause-made c =
    district_made c.args.tables.now c.set_next_order.new.self c.set_next_order.ensures.places c.args.self.now.district
    (λ x. record x { next_order = c.args.self.now.order }) c.set_next_order.ensures.names c.requires
    c.set_next_order.ensures.rows
