use Rattle.std.proofs.Common.{◌++◌, length, ap, sym, ◌∙◌, refl}
use Rattle.oe_texts.specs.Dump.{new_order_columns, count_line}
use Rattle.oe_store.specs.Places.{rows}
use Rattle.oe_dumps.specs.Dump.{row_lines, in_64_bits, dump_text}
use Rattle.oe_io.proofs.Streaming.{streams_as}
use Rattle.oe_dumps.proofs.dumps.dump.Goals as goal

pub returns-in-NewOrder : goal.returns-in-NewOrder
returns-in-NewOrder g c =
    streams_as (g.W.Outlet.sink c.args.to.now) (g.W.Outlet.sink c.dump_rows-in-NewOrder.new.to) _ _ _ _ _
    c.dump_rows-in-NewOrder.result refl
    (ap (λ es. row_lines (λ k x. new_order_columns k) es ++ count_line (in_64_bits (length es))) c.new_orders.ensures
    ∙ ap (λ t. dump_text t (rows c.args.tables.now)) (sym c.in-NewOrder.is)) c.dump_rows-in-NewOrder.ensures
