use Rattle.std.proofs.Common.{◌+◌}
use Rattle.oe_table.proofs.RangeFacts.{between-is}
use Rattle.oe_table.proofs.shelves.shelves_between.Goals as goal

pub returns : goal.returns
returns g c = between-is c.args.shelves.now (c.args.after + 1) c.args.before c.min-end.result c.min-start.result
    c.min-end.ensures c.min-start.ensures
