use Rattle.std.proofs.Common.{codes}
use Rattle.oe_busy.specs.Tables.{kind_line}
use Rattle.oe_busy.proofs.BehindFacts.{seven}
use Rattle.oe_busy.proofs.tables.kind_lines.Goals as goal

pub returns-clause-items : goal.returns-clause-items
returns-clause-items c =
    let of = c.args.counts.now in
    seven c.args.out.now.items (kind_line (codes "Warehouse") of.warehouses)
    (kind_line (codes "District") of.districts) (kind_line (codes "Customer") of.customers)
    (kind_line (codes "Order") of.orders) (kind_line (codes "Queue") of.queues)
    (kind_line (codes "Stock") of.stocks) (kind_line (codes "Names") of.names) c.kind_line.new.out.items
    c.kind_line-2.new.out.items c.kind_line-3.new.out.items c.kind_line-4.new.out.items
    c.kind_line-5.new.out.items c.kind_line-6.new.out.items c.kind_line-7.new.out.items
    c.kind_line.ensures.items c.kind_line-2.ensures.items c.kind_line-3.ensures.items
    c.kind_line-4.ensures.items c.kind_line-5.ensures.items c.kind_line-6.ensures.items
    c.kind_line-7.ensures.items
