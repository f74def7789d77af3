-- Each key's order is total, and tells all keys apart.
use Rattle.std.specs.Cmp.{IsTotalOrder, nat_cmp_total}
use Rattle.std.proofs.lemmas.Cmp.{on_total, then_total}
use Rattle.oe_rows.specs.Key.{warehouse_cmp, district_cmp, customer_cmp, history_cmp, new_order_cmp, order_cmp}
use Rattle.oe_rows.specs.Key.{order_line_cmp, item_cmp, stock_cmp}
pub use Rattle.oe_rows.specs.ExactKeys.{exact_warehouse, exact_district, exact_customer, exact_history, exact_new_order}
pub use Rattle.oe_rows.specs.ExactKeys.{exact_order, exact_order_line, exact_item, exact_stock}

pub warehouse_total : IsTotalOrder warehouse_cmp
warehouse_total = on_total (λ k. k.warehouse) nat_cmp_total

pub district_total : IsTotalOrder district_cmp
district_total = then_total (on_total (λ k. k.warehouse) nat_cmp_total) (on_total (λ k. k.district) nat_cmp_total)

pub customer_total : IsTotalOrder customer_cmp
customer_total =
    then_total (on_total (λ k. k.warehouse) nat_cmp_total)
    (then_total (on_total (λ k. k.district) nat_cmp_total) (on_total (λ k. k.customer) nat_cmp_total))

pub history_total : IsTotalOrder history_cmp
history_total =
    then_total (on_total (λ k. k.terminal) nat_cmp_total)
    (then_total (on_total (λ k. k.number) nat_cmp_total) (on_total (λ k. k.ordinal) nat_cmp_total))

pub new_order_total : IsTotalOrder new_order_cmp
new_order_total =
    then_total (on_total (λ k. k.warehouse) nat_cmp_total)
    (then_total (on_total (λ k. k.district) nat_cmp_total) (on_total (λ k. k.order) nat_cmp_total))

pub order_total : IsTotalOrder order_cmp
order_total =
    then_total (on_total (λ k. k.warehouse) nat_cmp_total)
    (then_total (on_total (λ k. k.district) nat_cmp_total) (on_total (λ k. k.order) nat_cmp_total))

pub order_line_total : IsTotalOrder order_line_cmp
order_line_total =
    then_total (on_total (λ k. k.warehouse) nat_cmp_total)
    (then_total (on_total (λ k. k.district) nat_cmp_total)
    (then_total (on_total (λ k. k.order) nat_cmp_total) (on_total (λ k. k.number) nat_cmp_total)))

pub item_total : IsTotalOrder item_cmp
item_total = on_total (λ k. k.item) nat_cmp_total

pub stock_total : IsTotalOrder stock_cmp
stock_total = then_total (on_total (λ k. k.warehouse) nat_cmp_total) (on_total (λ k. k.item) nat_cmp_total)
