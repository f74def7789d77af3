-- They begin with the key.
use Rattle.oe_layout.proofs.StoredFacts.{contents_there, key_fits}
use Rattle.oe_layout.proofs.stored.StoredRecord.contents.Goals as goal

pub returns-clause-key : goal.returns-clause-key
returns-clause-key c = rw (← c.self.view_is) (key_fits c.self.inside.bytes.now c.self.invariant)

pub returns-clause-bytes : goal.returns-clause-bytes
returns-clause-bytes c = rw (← c.self.view_is) (contents_there c.self.inside.bytes.now c.self.invariant)
