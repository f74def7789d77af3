-- The new names in their row's place.
use Rattle.std.proofs.Common.{inr}
use Rattle.oe_model.specs.Rename.{with_names}
use Rattle.oe_writes.proofs.SetFacts.{customer_made}
use Rattle.oe_writes.proofs.settings.set_names.Goals as goal

pub returns-in-Ok-clause-made : goal.returns-in-Ok-clause-made
returns-in-Ok-clause-made c =
    customer_made c.args.tables.now c.set_customer_names.new.self c.in-Ok.ensures.places c.args.key.now
    (with_names c.args.last.now c.args.first.now) (λ x is. inr c.in-Ok.ensures.names) c.requires c.in-Ok.ensures.rows
