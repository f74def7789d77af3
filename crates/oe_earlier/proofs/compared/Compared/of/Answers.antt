use Rattle.oe_earlier.proofs.compared.Compared.of.Goals as goal

pub returns-clause-keeps : goal.returns-clause-keeps
returns-clause-keeps c b n before now = record {
  before = c.settle.ensures.stays b before;
  now = c.settle-2.ensures.stays n now;
}

pub returns-clause-settled : goal.returns-clause-settled
returns-clause-settled c = record {
  before = c.settle.ensures.settled;
  now = c.settle-2.ensures.settled;
}
