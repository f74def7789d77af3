use Rattle.std.proofs.Common.{◌+◌, ◌++◌, [], length, ap, sym, ◌∙◌, arith}
use Rattle.std.proofs.lemmas.List.{append-nil}
use Rattle.oe_texts.specs.Column.{line_of}
use Rattle.oe_dumps.specs.Dump.{row_lines, in_64_bits}
use Rattle.oe_io.proofs.Streaming.{sent_none, sent_then, sent_cut, sent_as, sent_waits, cut_as, cut_more}
use Rattle.oe_dumps.proofs.DumpFacts.{shown_start, shown_step, shown_end, lines_step}
use Rattle.oe_dumps.proofs.dumps.lines.Goals as goal

pub loop-key-init : goal.loop-key-init
loop-key-init g c =
    let same = sym c.into_iter-key-iterator.ensures.into_iter_gives in
    record {
      sent = (
        [],
        sent_none (g.W.Outlet.sink c.args.to.now) c.args.out.now.items,
        ap (row_lines g.R.DumpedRow.columns)
            same,
      );
      count = shown_start (length c.args.walk) (length c.into_iter-key-iterator.result) (ap length same);
      fits = omega arith;
    }

pub returns-in-Err-clause-stream : goal.returns-in-Err-clause-stream
returns-in-Err-clause-stream g c =
    let old = g.W.Outlet.sink c.args.to.now in
    let new = g.W.Outlet.sink c.make_room.new.to in
    let waits = c.args.out.now.items in
    let sent = c.loop-key.invariant.sent in
    let rest = row_lines g.R.DumpedRow.columns c.loop-key.key-iterator in
    cut_as old new waits ((sent.0 ++ []) ++ rest) (row_lines g.R.DumpedRow.columns c.args.walk)
    (ap (λ z. z ++ rest) (append-nil sent.0) ∙ sym sent.2)
    (cut_more old new waits (sent.0 ++ []) rest
    (sent_cut old (g.W.Outlet.sink c.loop-key.to) new waits c.loop-key.out.items sent.0 [] sent.1
    c.in-Err.ensures.stream))

pub loop-key-preserved : goal.loop-key-preserved
loop-key-preserved g c =
    let old = g.W.Outlet.sink c.args.to.now in
    let mid = g.W.Outlet.sink c.loop-key.to in
    let new = g.W.Outlet.sink c.make_room.new.to in
    let waits = c.args.out.now.items in
    let room = c.make_room.new.out.items in
    let sent = c.loop-key.invariant.sent in
    let line = line_of (g.R.DumpedRow.columns c.in-Some.key.now c.in-Some.row.now) in
    let made = sent_as old new waits room (sent.0 ++ []) sent.0 (append-nil sent.0)
    (sent_then old mid new waits c.loop-key.out.items room sent.0 [] sent.1 c.in_default.ensures.stream) in
    record {
      sent = (
        sent.0 ++ line,
        sent_then old new new waits room c.line.new.out.items sent.0 line made
            (sent_waits new room c.line.new.out.items line c.line.ensures),
        sent.2 ∙ lines_step g.R.DumpedRow.columns sent.0 c.in-Some.key.now c.in-Some.row.now c.loop-key.key-iterator
            c.next.new.self c.in-Some.ensures.steps,
      );
      count = c.loop-key.invariant.count ∙ ap (λ es. in_64_bits (length es + c.loop-key.count)) c.in-Some.ensures.steps
          ∙ shown_step (length c.next.new.self) c.loop-key.count c.saturating_add-count.result
          c.saturating_add-count.ensures;
      fits = omega (arith, c.saturating_add-count.ensures);
    }

pub returns-clause-count : goal.returns-clause-count
returns-clause-count g c =
    sym (c.loop-key.invariant.count ∙ shown_end (length c.loop-key.key-iterator) c.loop-key.count
    (ap length c.in-None.ensures.steps.0) c.loop-key.invariant.fits)
