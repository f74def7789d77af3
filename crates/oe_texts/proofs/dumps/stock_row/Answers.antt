use Rattle.std.proofs.Common.{[], ◌∷◌, append_assoc, decimal}
use Rattle.oe_texts.proofs.ColumnFacts.{line_of-midst}
use Rattle.oe_texts.proofs.dumps.stock_row.Goals as goal

pub returns-clause-items : goal.returns-clause-items
returns-clause-items c =
    let key = c.args.key in
    let row = c.args.row.now in
    line_of-midst _ c.args.out.now.items (decimal key.warehouse) (decimal key.item) (decimal row.quantity) row.dist_info
    (decimal row.ytd)
    (decimal row.order_count ∷ decimal row.remote_count ∷ row.data ∷ [])
    (rw (
      c.text_then.ensures.items,
      c.counts.ensures.items,
      c.dist_infos.ensures.items,
      c.small_then.ensures.items,
      c.tabbed.ensures.items,
      c.as_str.ensures.value,
      c.get.ensures.value,
    )
    (simp append_assoc))
