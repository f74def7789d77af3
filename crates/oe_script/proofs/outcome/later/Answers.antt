use Rattle.std.proofs.Common.{Some, refl}
use Rattle.oe_lines.specs.declared.commands.Command.TheVariants as command
use Rattle.oe_io.specs.Lines.{bad_line}
use Rattle.oe_io.proofs.Streaming.{sent_waits}
use Rattle.oe_script.proofs.LineFacts.{told_here, shown_cut, refused, not_opened}
use Rattle.oe_script.proofs.outcome.later.Goals as goal

pub returns-in-Err : goal.returns-in-Err
returns-in-Err g c = λ line short says.
    shown_cut (g.M.Machine.world c.args.core.now) c.args.number line c.args.asked.now c.in-Show.shown
    (g.W.Outlet.sink c.args.to.now) (g.W.Outlet.sink c.show.new.to) c.args.out.now.items c.show.new.out.items _
    c.in-Err.e short says c.in-Show.is refl c.in-Err.ensures

pub returns-in-Open : goal.returns-in-Open
returns-in-Open g c = λ line short says.
    let none = not_opened (g.M.Machine.world c.args.core.now) line c.args.asked.now c.in-Open.field-0
    c.in-Open.field-1 says
    c.in-Open.is in (
      (
        bad_line c.args.number,
        refused (Some (g.M.Machine.world c.args.core.now)) c.args.number line none,
        sent_waits (g.W.Outlet.sink c.args.to.now) c.args.out.now.items c.bad.new.out.items (bad_line c.args.number)
            c.bad.ensures,
      ),
      none,
    )

pub returns-in-Begin : goal.returns-in-Begin
returns-in-Begin g c = λ line short says.
    told_here (g.M.Machine.world c.args.core.now) (g.M.Machine.world c.tell_begin.new.core) c.args.number line
    c.args.asked.now
    (command.Begin c.in-Begin.terminal c.in-Begin.request) (g.W.Outlet.sink c.args.to.now) c.args.out.now.items
    c.tell_begin.new.out.items _
    short says c.in-Begin.is tt
    (c.tell_begin.ensures.0, g.M.Machine.world c.tell_begin.new.core, c.tell_begin.ensures.1, refl, refl)
    c.tell_begin.ensures.2

pub returns-in-Next : goal.returns-in-Next
returns-in-Next g c = λ line short says.
    told_here (g.M.Machine.world c.args.core.now) (g.M.Machine.world c.tell_next.new.core) c.args.number line
    c.args.asked.now
    (command.Next c.in-Next.terminal) (g.W.Outlet.sink c.args.to.now) c.args.out.now.items c.tell_next.new.out.items
    _
    short says c.in-Next.is tt (
      c.tell_next.ensures.0,
      g.M.Machine.world c.tell_next.new.core,
      c.tell_next.ensures.1,
      refl,
      refl,
    )
    c.tell_next.ensures.2

pub returns-in-Run : goal.returns-in-Run
returns-in-Run g c = λ line short says.
    told_here (g.M.Machine.world c.args.core.now) (g.M.Machine.world c.tell_run.new.core) c.args.number line
    c.args.asked.now
    (command.Run c.in-Run.terminal) (g.W.Outlet.sink c.args.to.now) c.args.out.now.items c.tell_run.new.out.items _
    short says c.in-Run.is tt (
      c.tell_run.ensures.0,
      c.tell_run.ensures.1,
      g.M.Machine.world c.tell_run.new.core,
      c.tell_run.ensures.2,
      refl,
      refl,
    )
    c.tell_run.ensures.3

pub returns-in-Save : goal.returns-in-Save
returns-in-Save g c = λ line short says.
    told_here (g.M.Machine.world c.args.core.now) (g.M.Machine.world c.save.new.self) c.args.number line
    c.args.asked.now
    (command.Save c.in-Save.terminal) (g.W.Outlet.sink c.args.to.now) c.args.out.now.items
    c.answer.new.out.items _
    short says c.in-Save.is tt (c.save.result, g.M.Machine.world c.save.new.self, c.save.ensures.carries.0, refl, refl)
    c.answer.ensures.items

pub returns-in-Back : goal.returns-in-Back
returns-in-Back g c = λ line short says.
    told_here (g.M.Machine.world c.args.core.now) (g.M.Machine.world c.back.new.self) c.args.number line
    c.args.asked.now
    (command.Back c.in-Back.terminal) (g.W.Outlet.sink c.args.to.now) c.args.out.now.items
    c.answer-in-Back.new.out.items _
    short says c.in-Back.is tt (c.back.result, g.M.Machine.world c.back.new.self, c.back.ensures.carries.0, refl, refl)
    c.answer-in-Back.ensures.items

pub returns-in-Rollback : goal.returns-in-Rollback
returns-in-Rollback g c = λ line short says.
    told_here (g.M.Machine.world c.args.core.now) (g.M.Machine.world c.rollback.new.self) c.args.number line
    c.args.asked.now
    (command.Rollback c.in-Rollback.terminal) (g.W.Outlet.sink c.args.to.now) c.args.out.now.items
    c.answer-in-Rollback.new.out.items _
    short says c.in-Rollback.is tt (
      c.rollback.result,
      g.M.Machine.world c.rollback.new.self,
      c.rollback.ensures.carries.0,
      refl,
      refl,
    )
    c.answer-in-Rollback.ensures.items

pub returns-in-Read : goal.returns-in-Read
returns-in-Read g c = λ line short says.
    told_here (g.M.Machine.world c.args.core.now) (g.M.Machine.world c.tell_read.new.core) c.args.number line
    c.args.asked.now
    (command.Read c.in-Read.moment c.in-Read.query) (g.W.Outlet.sink c.args.to.now) c.args.out.now.items
    c.tell_read.new.out.items _
    short says c.in-Read.is tt (
      c.tell_read.ensures.0,
      g.M.Machine.world c.tell_read.new.core,
      c.tell_read.ensures.1,
      refl,
      refl,
    )
    c.tell_read.ensures.2

pub returns-in-Purge : goal.returns-in-Purge
returns-in-Purge g c = λ line short says.
    told_here (g.M.Machine.world c.args.core.now) (g.M.Machine.world c.tell_purge.new.core) c.args.number line
    c.args.asked.now
    (command.Purge c.in-Purge.moment) (g.W.Outlet.sink c.args.to.now) c.args.out.now.items
    c.tell_purge.new.out.items _
    short says c.in-Purge.is tt
    (c.tell_purge.ensures.0, g.M.Machine.world c.tell_purge.new.core, c.tell_purge.ensures.1, refl, refl)
    c.tell_purge.ensures.2

pub returns-in-Rewind : goal.returns-in-Rewind
returns-in-Rewind g c = λ line short says.
    told_here (g.M.Machine.world c.args.core.now) (g.M.Machine.world c.tell_rewind.new.core) c.args.number line
    c.args.asked.now
    (command.Rewind c.in-Rewind.moment) (g.W.Outlet.sink c.args.to.now) c.args.out.now.items
    c.tell_rewind.new.out.items _
    short says c.in-Rewind.is tt
    (c.tell_rewind.ensures.0, g.M.Machine.world c.tell_rewind.new.core, c.tell_rewind.ensures.1, refl, refl)
    c.tell_rewind.ensures.2

pub returns-in-Audit : goal.returns-in-Audit
returns-in-Audit g c = λ line short says.
    told_here (g.M.Machine.world c.args.core.now) (g.M.Machine.world c.tell_audit.new.core) c.args.number line
    c.args.asked.now
    (command.Audit c.in-Audit.condition c.in-Audit.moment) (g.W.Outlet.sink c.args.to.now) c.args.out.now.items
    c.tell_audit.new.out.items _
    short says c.in-Audit.is tt
    (c.tell_audit.ensures.0, g.M.Machine.world c.tell_audit.new.core, c.tell_audit.ensures.1, refl, refl)
    c.tell_audit.ensures.2
