use Rattle.oe_theory.proofs.Sets.{some_none}
use Rattle.std.proofs.Common.{sym, ◌∙◌}
use Rattle.oe_lines.specs.declared.commands.Command.TheVariants as command
use Rattle.oe_file_serial.proofs.lines.read_transaction.Goals as goal

pub returns-in_default : goal.returns-in_default
returns-in_default c = λ t q s. some_none (command.Begin t q)
    (sym (c.command_behind.ensures.only (command.Begin t q) s) ∙ c.in_default.is)
