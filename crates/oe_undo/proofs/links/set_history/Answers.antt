use Rattle.oe_rows.specs.Key.{history_cmp}
use Rattle.oe_table.specs.Table.{rows_of}
use Rattle.oe_undo.proofs.LinkFacts.{history_put, on_row}
use Rattle.oe_undo.proofs.links.set_history.Goals as goal

pub returns : goal.returns
returns c =
    history_put (rows_of history_cmp c.args.links.now) (rows_of history_cmp (c.row_mut.follows.lender c.args.link))
    c.args.key.now c.args.link
    (on_row c.row_mut.result c.unwrap-place.result c.unwrap-place.ensures (c.row_mut.follows.holds c.args.link)).rows
