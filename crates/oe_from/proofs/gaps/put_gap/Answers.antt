use Rattle.oe_from.proofs.gaps.put_gap.Goals as goal

pub returns-in-Name-clause-items : goal.returns-in-Name-clause-items
returns-in-Name-clause-items c = rw (c.in-Name.is) c.put_absent.ensures.items
