use Rattle.std.proofs.Common.{length}
use Rattle.oe_command_line.proofs.options.+options_from.Given as goal

abbrev pub decreases-options_from : goal.decreases-options_from
decreases-options_from g l = length l.words.now
