use Rattle.std.proofs.Common.{◌<◌, ◌%◌, arith}
use Rattle.oe_line_numbers.proofs.BlockFacts.{shifted}
use Rattle.oe_line_numbers.proofs.numbers.bit.Goals as goal

pub returns : goal.returns
returns c = shifted (c.args.number % 64) (omega arith)
