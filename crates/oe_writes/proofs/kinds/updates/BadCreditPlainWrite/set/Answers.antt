use Rattle.std.proofs.Common.{refl}
use Rattle.oe_rows.specs.Credit.{with_entry}
use Rattle.oe_writes.proofs.SetFacts.{account_made}
use Rattle.oe_writes.proofs.kinds.updates.BadCreditPlainWrite.set.Goals as goal

pub returns-clause-made : goal.returns-clause-made
returns-clause-made c =
    account_made c.args.tables.now c.set_bad_credit.new.self c.set_bad_credit.ensures.places c.args.self.now.customer
    (with_entry c.args.self.now.account c.args.self.now.entry)
    (λ x. refl) c.set_bad_credit.ensures.names c.requires c.set_bad_credit.ensures.rows
