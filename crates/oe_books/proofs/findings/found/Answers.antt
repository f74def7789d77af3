use Rattle.oe_books.proofs.findings.found.Goals as goal

pub returns-in-Once : goal.returns-in-Once
returns-in-Once c given t h b n k = rw c.in-Once.is (c.once_found.ensures given t h)

pub returns-in-Reference : goal.returns-in-Reference
returns-in-Reference c given t h b n k = rw c.in-Reference.is (c.references_found.ensures given t h)

pub returns-in-Extent : goal.returns-in-Extent
returns-in-Extent c given t h b n k = rw c.in-Extent.is (c.extents_found.ensures given t h)

pub returns-in-Condition : goal.returns-in-Condition
returns-in-Condition c given t h b n k = rw c.in-Condition.is (c.conditions_found.ensures given t h)

pub returns-in-Movement : goal.returns-in-Movement
returns-in-Movement c given t h b n k = rw c.in-Movement.is (c.movements_found.ensures given t h)

pub returns-in-Before : goal.returns-in-Before
returns-in-Before c given t h b n k = rw c.in-Before.is (c.before_found.ensures b n k)
