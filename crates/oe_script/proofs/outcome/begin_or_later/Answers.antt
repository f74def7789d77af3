use Rattle.std.proofs.Common.{refl}
use Rattle.oe_requests.specs.declared.requests.Request.TheVariants as request
use Rattle.oe_lines.specs.declared.commands.Command.TheVariants as command
use Rattle.oe_script.proofs.LineFacts.{told_here}
use Rattle.oe_script.proofs.outcome.begin_or_later.Goals as goal

pub returns-in-Some : goal.returns-in-Some
returns-in-Some g c =
    let asked = command.Begin c.in-Some.asked.0 (request.Payment c.in-Some.asked.1) in
    told_here (g.M.Machine.world c.args.core.now) (g.M.Machine.world c.tell_begin.new.core) c.args.number
    c.args.line.now asked asked
    (g.W.Outlet.sink c.args.to.now) c.args.out.now.items c.tell_begin.new.out.items _
    c.requires.short c.in-Some.ensures.found refl tt
    (c.tell_begin.ensures.0, g.M.Machine.world c.tell_begin.new.core, c.tell_begin.ensures.1, refl, refl)
    c.tell_begin.ensures.2
