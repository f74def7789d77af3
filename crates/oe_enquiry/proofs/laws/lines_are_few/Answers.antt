use Rattle.oe_store.specs.Places.{rows}
use Rattle.oe_enquiry.proofs.FewFacts.{in_range_past, orders_are_short, recent_are_few, levels_are_small}
use Rattle.oe_enquiry.proofs.laws.lines_are_few.Goals as goal

pub returns-clause-orders : goal.returns-clause-orders
returns-clause-orders c = λ past passed.
    orders_are_short past (in_range_past (rows c.args.tables.now) past passed c.numbers_hold.ensures)

pub returns-clause-recent : goal.returns-clause-recent
returns-clause-recent c = λ past passed.
    recent_are_few past (in_range_past (rows c.args.tables.now) past passed c.numbers_hold.ensures)

pub returns-clause-levels : goal.returns-clause-levels
returns-clause-levels c = λ past passed.
    levels_are_small past (in_range_past (rows c.args.tables.now) past passed c.numbers_hold.ensures)
