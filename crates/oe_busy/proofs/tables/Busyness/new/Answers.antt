use Rattle.std.proofs.Common.{ap}
use Rattle.oe_busy.specs.Happenings.{count_in}
use Rattle.oe_busy.proofs.tables.Busyness.new.Goals as goal

pub returns : goal.returns
returns c = record {
  counts_are = c.none.ensures;
  names_are = ap count_in c.new.ensures;
  waits_are = c.new-2.ensures;
}
