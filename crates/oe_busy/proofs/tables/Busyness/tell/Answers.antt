use Rattle.oe_busy.proofs.TableFacts.{tabled}
use Rattle.oe_busy.proofs.tables.Busyness.tell.Goals as goal

pub returns : goal.returns
returns c = λ hs h.
    tabled c.args.self.now hs c.args.out.now.items c.kind_lines.new.out.items c.first_lines.new.out.items
    c.wait_line.new.out.items h c.kind_lines.ensures.items c.first_lines.ensures.items c.wait_line.ensures.items
