use Rattle.std.proofs.Common.{sym, ◌∙◌}
use Rattle.oe_theory.proofs.Sets.{some_none}
use Rattle.oe_lines.specs.declared.commands.Command.TheVariants as command
use Rattle.oe_file_serial.proofs.lines.is_terminal.Goals as goal

pub returns-in_default : goal.returns-in_default
returns-in_default c = (
  λ yes. let never : ⊥ = cc in absurd never,
  λ said. absurd (some_none (command.Next said.0)
      (sym (c.command_behind.ensures.only (command.Next said.0) said.1) ∙ c.in_default.is)),
)
