use Rattle.std.proofs.Common.{arith}
use Rattle.oe_busy.proofs.MetFacts.{met_is, on_ok}
use Rattle.oe_busy.proofs.names.NameCounts.add.Goals as goal

pub returns-in-Some : goal.returns-in-Some
returns-in-Some c =
    on_ok c.put.result
    (met_is c.args.self.now c.put.new.self c.args.name.now c.in-Some.more (omega arith))
    c.put.ensures
