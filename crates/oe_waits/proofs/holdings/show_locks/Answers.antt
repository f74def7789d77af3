use Rattle.oe_io.proofs.Streaming.{cut_more}
use Rattle.oe_texts.specs.Dump.{count_line}
use Rattle.oe_waits.specs.Names.{held_count}
use Rattle.oe_waits.specs.Texts.{held_lines, texts_to}
use Rattle.oe_waits.specs.Waits.{last_terminal}
use Rattle.oe_waits.proofs.holdings.show_locks.Goals as goal

pub returns-in-Err : goal.returns-in-Err
returns-in-Err g c =
    let w = g.M.Machine.world c.args.core.now in
    cut_more (g.W.Outlet.sink c.args.to.now) (g.W.Outlet.sink c.all_held.new.to) c.args.out.now.items
    (texts_to (held_lines w) last_terminal) (count_line (held_count w last_terminal)) c.in-Err.ensures.stream
