use Rattle.std.proofs.Common.{sym, ◌∙◌}
use Rattle.oe_io.proofs.Streaming.{cut_as, cut_more, sent_as}
use Rattle.oe_waits.specs.Waits.{last_terminal}
use Rattle.oe_waits.specs.Texts.{cycle_line, texts_to}
use Rattle.oe_waits.proofs.TextFacts.{after_none, no_cycle, or_rest, some_cycle}
use Rattle.oe_waits.proofs.shows.cycles.Goals as goal

pub returns-in-Ok-true : goal.returns-in-Ok-true
returns-in-Ok-true g c =
    sent_as (g.W.Outlet.sink c.args.to.now) (g.W.Outlet.sink c.all_cycles.new.to) c.args.out.now.items
    c.all_cycles.new.out.items _ _
    (sym (some_cycle (g.M.Machine.world c.args.core.now) last_terminal (sym c.in-Ok-true.ensures.found
    ∙ c.in-Ok-true.field-0-test)))
    c.in-Ok-true.ensures.stream

pub returns-in-Ok-false : goal.returns-in-Ok-false
returns-in-Ok-false g c =
    after_none (g.W.Outlet.sink c.args.to.now) (g.W.Outlet.sink c.all_cycles.new.to) (g.W.Outlet.sink c.line.new.to)
    c.args.out.now.items c.all_cycles.new.out.items c.line.new.out.items _ c.line.result
    (no_cycle (g.M.Machine.world c.args.core.now) last_terminal
    (sym c.in-Ok-false.ensures.found ∙ c.in-Ok-false.field-0-test))
    c.in-Ok-false.ensures.stream c.line.ensures

pub returns-in-Err : goal.returns-in-Err
returns-in-Err g c =
    let text = texts_to (cycle_line (g.M.Machine.world c.args.core.now)) last_terminal in
    cut_as (g.W.Outlet.sink c.args.to.now) (g.W.Outlet.sink c.all_cycles.new.to) c.args.out.now.items _ _
    (or_rest text).1
    (cut_more (g.W.Outlet.sink c.args.to.now) (g.W.Outlet.sink c.all_cycles.new.to) c.args.out.now.items text
    (or_rest text).0 c.in-Err.ensures.stream)
