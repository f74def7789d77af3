use Rattle.std.proofs.Common.{sym, ◌∙◌}
use Rattle.oe_theory.proofs.Sets.{some_none}
use Rattle.oe_lines.specs.declared.commands.Command.TheVariants as command
use Rattle.oe_file_serial.proofs.lines.opening.Goals as goal

pub returns-in_default : goal.returns-in_default
returns-in_default c = λ s o. some_none (command.Open s o.ring)
    (sym (c.command.ensures.only (command.Open s o.ring) o.says) ∙ c.in_default.is)
