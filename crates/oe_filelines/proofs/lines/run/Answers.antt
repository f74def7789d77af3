use Rattle.std.proofs.Common.{◌++◌, [], take, ◌∙◌, refl}
use Rattle.std.specs.declared.io.Error.{Error}
use Rattle.oe_filelines.proofs.LineFacts.{read_none, read_more, standing_start}
use Rattle.oe_filelines.proofs.lines.run.Goals as goal

pub loop-init : goal.loop-init
loop-init g c = record {
  room = refl;
  read = (
    [],
    read_none (g.S.Read.remaining c.args.source.now),
    standing_start 65_536 (g.T.LineTaker.taken c.args.taker.now) c.args.held.now c.args.taker.now c.requires.held
        c.requires.begins,
  );
}

pub loop-preserved : goal.loop-preserved
loop-preserved g c =
    let i = c.loop.invariant.read in
    record {
      room = c.read.auto.buf ∙ c.loop.invariant.room;
      read = (
        i.0 ++ take c.in-Ok.n c.read.new.buf,
        read_more Error (g.S.Read.remaining c.args.source.now) (g.S.Read.remaining c.loop.source)
            (g.S.Read.remaining c.read.new.self) i.0 c.read.new.buf c.in-Ok.n i.1 c.in-Ok.ensures.bytes,
        c.in_default.ensures c.args.taker.now i.0 i.2,
      );
    }
