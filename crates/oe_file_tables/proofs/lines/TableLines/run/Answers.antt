use Rattle.std.proofs.Common.{◌++◌, [], take, ◌∙◌, refl, arith}
use Rattle.std.proofs.lemmas.Result.{on_ok_weaker}
use Rattle.oe_filelines.proofs.LineFacts.{standing_start}
use Rattle.oe_io.specs.declared.ports.Failed.{Failed}
use Rattle.oe_file_tables.specs.Reading.{TableTaken}
use Rattle.oe_file_tables.proofs.ReadFacts.{read_none, read_more, read_all, file_read}
use Rattle.oe_file_tables.proofs.lines.TableLines.run.Goals as goal

pub loop-init : goal.loop-init
loop-init g c = record {
  room = refl;
  read = (
    [],
    read_none (g.S.Intake.source c.args.source.now),
    standing_start 4_096 (TableTaken g.R.RowLine.spells g.R.RowLine.own_table c.args.self.now) c.new-held.result
        c.args.self.now c.new-held.ensures c.requires,
  );
}

pub returns-in-Ok-eq0-clause-lot : goal.returns-in-Ok-eq0-clause-lot
returns-in-Ok-eq0-clause-lot g c =
    let i = c.loop.invariant.read in
    on_ok_weaker c.finish.result (λ f. (f c.args.self.now i.0 i.2).2.0) c.finish.ensures

pub returns-in-Ok-eq0-clause-faults : goal.returns-in-Ok-eq0-clause-faults
returns-in-Ok-eq0-clause-faults g c =
    let i = c.loop.invariant.read in
    on_ok_weaker c.finish.result (λ f. (f c.args.self.now i.0 i.2).2.1) c.finish.ensures

pub returns-in-Ok-eq0-clause-read : goal.returns-in-Ok-eq0-clause-read
returns-in-Ok-eq0-clause-read g c =
    let i = c.loop.invariant.read in
    on_ok_weaker c.finish.result
    (λ f. file_read g.R.RowLine.spells g.R.RowLine.own_table (g.S.Intake.source c.args.source.now)
    (g.S.Intake.source c.read.new.self) i.0 c.args.self.now c.finish.new.taker
    (read_all Failed (g.S.Intake.source c.args.source.now) (g.S.Intake.source c.loop.source)
    (g.S.Intake.source c.read.new.self) i.0 c.read.new.buf i.1
    (rw c.in-Ok-eq0.field-0-test at c.in-Ok-eq0.ensures.bytes)
    (omega (arith, c.read.auto.buf, c.loop.invariant.room)))
    (f c.args.self.now i.0 i.2)) c.finish.ensures

pub loop-preserved : goal.loop-preserved
loop-preserved g c =
    let i = c.loop.invariant.read in
    record {
      room = c.read.auto.buf ∙ c.loop.invariant.room;
      read = (
        i.0 ++ take c.in-Ok.n c.read.new.buf,
        read_more Failed (g.S.Intake.source c.args.source.now) (g.S.Intake.source c.loop.source)
            (g.S.Intake.source c.read.new.self) i.0 c.read.new.buf c.in-Ok.n i.1 c.in-Ok.ensures.bytes,
        c.in_default.ensures c.args.self.now i.0 i.2,
      );
    }
