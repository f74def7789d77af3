use Rattle.std.proofs.Common.{sym}
use Rattle.oe_values.proofs.FrontFacts.{after_of-short}
use Rattle.oe_values.proofs.fronts.after.Goals as goal

pub returns-then-text-front : goal.returns-then-text-front
returns-then-text-front c = sym (after_of-short c.args.front.now c.args.text.now c.if-text-front.true)
