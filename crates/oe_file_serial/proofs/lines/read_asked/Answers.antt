use Rattle.std.proofs.Common.{◌≡◌, Some, sym, ap, ◌∙◌}
use Rattle.oe_theory.proofs.Sets.{some_none}
use Rattle.oe_lines.specs.declared.commands.Command.TheVariants as command
use Rattle.oe_lines.specs.declared.commands.MomentChoice.TheVariants as moment
use Rattle.oe_lines.specs.declared.commands.MomentChoice.{MomentChoice}
use Rattle.oe_file_serial.proofs.lines.read_asked.Goals as goal

pub returns-in_default : goal.returns-in_default
returns-in_default c = λ q s. some_none (command.Read moment.Now q)
    (sym (c.command_behind.ensures.only (command.Read moment.Now q) s) ∙ c.in_default.is)

pub returns-in-At : goal.returns-in-At
returns-in-At c = λ q s.
    let named = ap (λ (m : MomentChoice). command.Read m c.in-Read.query) c.in-At.is in
    let said : Some (command.Read moment.Now q) ≡ Some (command.Read (moment.At c.in-At.field-0) c.in-Read.query) =
    sym (c.command_behind.ensures.only (command.Read moment.Now q) s)
    ∙ (c.in-Some.is ∙ ap Some (c.in-Read.is ∙ named)) in
    let never : ⊥ = cc in
    never
