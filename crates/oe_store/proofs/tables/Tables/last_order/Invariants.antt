use Rattle.std.proofs.Common.{◌≡◌}
use Rattle.std.specs.Prelude.{filter, option_map}
use Rattle.std.specs.Ordering.{eq_by_cmp}
use Rattle.oe_rows.specs.Key.{customer_cmp}
use Rattle.oe_model.specs.Keys.{customer_of_order}
use Rattle.oe_model.specs.Queries.{last_order}
use Rattle.oe_store.specs.Places.{rows}
use Rattle.oe_store.specs.Newest.{newest_from}
use Rattle.oe_store.proofs.tables.Tables.last_order.Given as goal

abbrev pub invariant-loop-key : goal.invariant-loop-key
invariant-loop-key l =
    newest_from l.last (filter (λ e. eq_by_cmp customer_cmp (customer_of_order e.0 e.1) l.customer) l.key-iterator)
    ≡ option_map (λ e. e.0.order) (last_order l.customer (rows l.self).orders)
