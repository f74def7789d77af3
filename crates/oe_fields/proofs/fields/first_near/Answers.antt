use Rattle.oe_fields.proofs.PartFacts.{of_three}
use Rattle.oe_fields.proofs.fields.first_near.Goals as goal

pub returns-in-Commas : goal.returns-in-Commas
returns-in-Commas c = rw c.in-Commas.is (of_three 44 34 c.args.near.now c.memchr3.result c.memchr3.ensures)
