use Rattle.std.proofs.Common.{sym, subst, ap, None, ◌∙◌}
use Rattle.oe_model.specs.Queries.{orders_of}
use Rattle.oe_store.specs.Places.{rows}
use Rattle.oe_versions.proofs.LastFacts.{Walks, begins}
use Rattle.oe_versions.proofs.moments.Version.last_read.Goals as goal

pub loop-key-init : goal.loop-key-init
loop-key-init c =
    subst (λ es. Walks c.args.self.now.tables c.args.self.now.log c.args.self.now.moment c.args.customer None es)
    (sym c.into_iter-key-iterator.ensures.into_iter_gives)
    (begins c.args.self.now.tables c.args.self.now.log c.args.self.now.moment c.args.customer c.requires _
    (c.orders_of_customer-key-items.ensures ∙ ap (λ ts. orders_of c.args.customer (rows ts).orders) c.tables.ensures))
