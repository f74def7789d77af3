use Rattle.std.proofs.Common.{refl}
use Rattle.oe_store.proofs.ChoiceFacts.{met, of_district}
use Rattle.oe_store.proofs.tables.Tables.namesakes_of.Goals as goal

pub namesakes-requires : goal.namesakes-requires
namesakes-requires c = met c.args.district.now c.args.last.now c.iter-unmet.ensures refl

pub returns-then-is_listed : goal.returns-then-is_listed
returns-then-is_listed c = rw (← c.self.view_is) c.namesakes.ensures

pub namesakes-requires-2 : goal.namesakes-requires-2
namesakes-requires-2 c = met c.args.district.now c.args.last.now
    (rw (← c.self.view_is) at c.customers_of-others.ensures) (of_district c.args.district.now c.args.last.now _)

pub returns : goal.returns
returns c = rw (← c.self.view_is) c.namesakes-2.ensures
