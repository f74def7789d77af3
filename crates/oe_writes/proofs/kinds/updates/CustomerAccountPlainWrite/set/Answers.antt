use Rattle.std.proofs.Common.{refl}
use Rattle.oe_writes.proofs.SetFacts.{account_made}
use Rattle.oe_writes.proofs.kinds.updates.CustomerAccountPlainWrite.set.Goals as goal

pub returns-clause-made : goal.returns-clause-made
returns-clause-made c =
    account_made c.args.tables.now c.set_account.new.self c.set_account.ensures.places c.args.self.now.customer
    (λ x. record x { account = c.args.self.now.account })
    (λ x. refl) c.set_account.ensures.names c.requires c.set_account.ensures.rows
