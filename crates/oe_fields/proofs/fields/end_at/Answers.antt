use Rattle.oe_fields.proofs.PartFacts.{at_separator}
use Rattle.oe_fields.proofs.fields.end_at.Goals as goal

pub returns-then-text-i-clause-value : goal.returns-then-text-i-clause-value
returns-then-text-i-clause-value c =
    at_separator c.args.format c.separator.result c.args.text.now c.args.i c.requires c.if-text-i.true
    c.separator.ensures
