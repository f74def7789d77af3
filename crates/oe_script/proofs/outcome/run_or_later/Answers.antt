use Rattle.std.proofs.Common.{refl}
use Rattle.oe_lines.specs.declared.commands.Command.TheVariants as command
use Rattle.oe_script.proofs.LineFacts.{told_here}
use Rattle.oe_script.proofs.outcome.run_or_later.Goals as goal

pub returns-in-Some : goal.returns-in-Some
returns-in-Some g c =
    told_here (g.M.Machine.world c.args.core.now) (g.M.Machine.world c.tell_run.new.core) c.args.number c.args.line.now
    (command.Run c.in-Some.terminal) (command.Run c.in-Some.terminal) (g.W.Outlet.sink c.args.to.now)
    c.args.out.now.items c.tell_run.new.out.items _
    c.requires.short c.in-Some.ensures.found refl tt (
      c.tell_run.ensures.0,
      c.tell_run.ensures.1,
      g.M.Machine.world c.tell_run.new.core,
      c.tell_run.ensures.2,
      refl,
      refl,
    )
    c.tell_run.ensures.3
