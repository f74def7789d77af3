use Rattle.oe_script_laws.proofs.MovementFacts.{movements_hold}
use Rattle.oe_script_laws.proofs.movements_hold.Goals as goal

pub returns : goal.returns
returns c = movements_hold
