use Rattle.std.proofs.Common.{◌≡◌, false, Option, None, Some, sym, ◌∙◌}
use Rattle.oe_lines.specs.declared.commands.Command.{Command}
use Rattle.oe_io.specs.Lines.{bad_line}
use Rattle.oe_io.proofs.Streaming.{sent_waits}
use Rattle.oe_script.specs.Hearing.{Takes}
use Rattle.oe_script.proofs.LineFacts.{refused}
use Rattle.oe_script.proofs.outcome.later_line.Goals as goal

pub returns-in_default : goal.returns-in_default
returns-in_default g c =
    let none : Takes false (Some (g.M.Machine.world c.args.core.now)) c.args.line.now =
    λ d asks. let said : ◌≡◌ {A = Option Command} None (Some d) = sym c.in_default.is
    ∙ c.command.ensures.only d asks.says in let no : ⊥ = cc in no in (
      (
        bad_line c.args.number,
        refused (Some (g.M.Machine.world c.args.core.now)) c.args.number c.args.line.now none,
        sent_waits (g.W.Outlet.sink c.args.to.now) c.args.out.now.items c.bad.new.out.items (bad_line c.args.number)
            c.bad.ensures,
      ),
      none,
    )
