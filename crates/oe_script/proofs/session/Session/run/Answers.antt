use Rattle.std.proofs.Common.{◌+◌, ◌++◌, [], take, ◌∙◌, arith, refl}
use Rattle.std.proofs.lemmas.List.{length-take}
use Rattle.oe_script.specs.Hearing.{HearsEach}
use Rattle.oe_script.specs.Session.{state_of}
use Rattle.oe_script.proofs.Ending.{standing_start, read_none, read_more, read_end, ran_unread, ran_long, ran_cut}
use Rattle.oe_script.proofs.Ending.{broken_here, ran_whole}
use Rattle.oe_script.proofs.session.Session.run.Goals as goal

pub loop-init : goal.loop-init
loop-init g c =
    let was = c.args.self.now in
    let r = c.requires in
    record {
      room = refl;
      count = omega (arith, r.count);
      live = r.live;
      written = r.out;
      read = (
        [],
        read_none (g.R.Intake.source c.args.reader.now),
        standing_start (state_of g.M.Machine.world c.args.self.now.core) c.requires.live g.H.Listener.hears
            c.args.listener.now
            (g.W.Outlet.sink c.args.writer.now) was.out.items
            (state_of g.M.Machine.world was.core) was.count was.line refl r.line r.count r.out,
      );
    }

pub returns-in-Err : goal.returns-in-Err
returns-in-Err g c =
    let i = c.loop.invariant.read in
    let s = c.loop.self in
    ran_unread (state_of g.M.Machine.world c.args.self.now.core) c.requires.live g.H.Listener.hears
    c.args.listener.now c.loop.listener
    (g.R.Intake.source c.args.reader.now)
    (g.R.Intake.source c.loop.reader)
    (g.R.Intake.source c.read.new.self) (g.W.Outlet.sink c.args.writer.now) (g.W.Outlet.sink c.loop.writer)
    i.0 c.read.new.buf s.out.items c.loop.counter (state_of g.M.Machine.world s.core) s.count s.line c.in-Err.field-0
    i.1
    c.in-Err.ensures.bytes c.loop.invariant.written i.2

pub returns-in-Ok-finish : goal.returns-in-Ok-finish
returns-in-Ok-finish g c =
    let i = c.loop.invariant.read in
    ran_whole (state_of g.M.Machine.world c.args.self.now.core) c.requires.live (λ told. HearsEach g.H.Listener.hears
    c.args.listener.now told c.finish.new.listener)
    (g.R.Intake.source c.args.reader.now) (g.R.Intake.source c.loop.reader)
    (g.R.Intake.source c.read.new.self) (g.W.Outlet.sink c.args.writer.now) (g.W.Outlet.sink c.finish.new.to)
    i.0 c.read.new.buf c.loop.counter i.1 (rw c.in-Ok-eq0.field-0-test at c.in-Ok-eq0.ensures.bytes)
    (omega (arith, c.read.auto.buf, c.loop.invariant.room))
    (c.in-Ok-finish.ensures (record {
      begun = state_of g.M.Machine.world c.args.self.now.core;
      live = c.requires.live;
      first = c.args.listener.now;
      start = g.W.Outlet.sink c.args.writer.now;
    }) i.0 i.2)

pub returns-in-Err-finish : goal.returns-in-Err-finish
returns-in-Err-finish g c =
    let i = c.loop.invariant.read in
    ran_cut (state_of g.M.Machine.world c.args.self.now.core) c.requires.live
    (λ told. HearsEach g.H.Listener.hears c.args.listener.now
    told c.finish.new.listener)
    (g.R.Intake.source c.args.reader.now) (g.R.Intake.source c.read.new.self)
    (g.W.Outlet.sink c.args.writer.now) (g.W.Outlet.sink c.finish.new.to)
    i.0 c.loop.counter
    (read_end (g.R.Intake.source c.args.reader.now) (g.R.Intake.source c.loop.reader)
    (g.R.Intake.source c.read.new.self) i.0 c.read.new.buf c.loop.counter i.1
    (rw c.in-Ok-eq0.field-0-test at c.in-Ok-eq0.ensures.bytes))
    (c.in-Err-finish.ensures (record {
      begun = state_of g.M.Machine.world c.args.self.now.core;
      live = c.requires.live;
      first = c.args.listener.now;
      start = g.W.Outlet.sink c.args.writer.now;
    }) i.0 i.2)

pub returns-in-Err-answer : goal.returns-in-Err-answer
returns-in-Err-answer g c =
    let i = c.loop.invariant.read in
    ran_cut (state_of g.M.Machine.world c.args.self.now.core) c.requires.live
    (λ told. HearsEach g.H.Listener.hears c.args.listener.now
    told c.answer.new.listener)
    (g.R.Intake.source c.args.reader.now) (g.R.Intake.source c.read.new.self)
    (g.W.Outlet.sink c.args.writer.now) (g.W.Outlet.sink c.answer.new.to)
    (i.0 ++ take c.in-Ok.n c.read.new.buf) (c.loop.counter + 1)
    (read_more (g.R.Intake.source c.args.reader.now) (g.R.Intake.source c.loop.reader)
    (g.R.Intake.source c.read.new.self) i.0 c.read.new.buf c.loop.counter c.in-Ok.n i.1
    c.in-Ok.ensures.bytes c.in-Ok.ensures.bound (omega (arith, c.in-Ok.n-test)))
    (broken_here (state_of g.M.Machine.world c.args.self.now.core) c.requires.live (λ told. HearsEach g.H.Listener.hears
    c.args.listener.now told c.answer.new.listener)
    (g.W.Outlet.sink c.args.writer.now) (g.W.Outlet.sink c.answer.new.to)
    (i.0 ++ take c.in-Ok.n c.read.new.buf)
    (c.in-Err-answer.ensures.fed (record {
      begun = state_of g.M.Machine.world c.args.self.now.core;
      live = c.requires.live;
      first = c.args.listener.now;
      start = g.W.Outlet.sink c.args.writer.now;
    }) i.0 i.2))

pub loop-preserved : goal.loop-preserved
loop-preserved g c =
    let i = c.loop.invariant.read in
    record {
      room = c.read.auto.buf ∙ c.loop.invariant.room;
      count = omega (
        arith,
        c.answer.ensures.count,
        c.loop.invariant.count,
        c.loop.invariant.room,
        c.read.auto.buf,
        c.in-Ok.ensures.bound,
        length-take c.in-Ok.n c.read.new.buf,
      );
      live = c.answer.ensures.live;
      written = c.in_default.ensures.written;
      read = (
        i.0 ++ take c.in-Ok.n c.read.new.buf,
        read_more (g.R.Intake.source c.args.reader.now) (g.R.Intake.source c.loop.reader)
            (g.R.Intake.source c.read.new.self) i.0 c.read.new.buf c.loop.counter c.in-Ok.n i.1
            c.in-Ok.ensures.bytes c.in-Ok.ensures.bound (omega (arith, c.in-Ok.n-test)),
        c.in_default.ensures.fed (record {
          begun = state_of g.M.Machine.world c.args.self.now.core;
          live = c.requires.live;
          first = c.args.listener.now;
          start = g.W.Outlet.sink c.args.writer.now;
        }) i.0 i.2,
      );
    }

pub returns : goal.returns
returns g c =
    let i = c.loop.invariant.read in
    let s = c.loop.self in
    ran_long (state_of g.M.Machine.world c.args.self.now.core) c.requires.live g.H.Listener.hears c.args.listener.now
    c.loop.listener
    (g.R.Intake.source c.args.reader.now)
    (g.R.Intake.source c.loop.reader) (g.W.Outlet.sink c.args.writer.now)
    (g.W.Outlet.sink c.loop.writer)
    i.0 s.out.items c.loop.counter (state_of g.M.Machine.world s.core) s.count s.line (omega arith) i.1
    c.loop.invariant.written i.2
