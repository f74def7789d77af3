-- A column of a row that is there; none where there is no row.
use Rattle.std.specs.Prelude.{ℕ, ℤ, Option, option_map}
use Rattle.oe_rows.specs.declared.warehouses.Warehouse.{Warehouse}
use Rattle.oe_rows.specs.declared.districts.District.{District}
use Rattle.oe_rows.specs.declared.customers.Account.{Account}
use Rattle.oe_rows.specs.declared.customers.Customer.{Customer}
use Rattle.oe_rows.specs.declared.items.Stock.{Stock}
use Rattle.oe_rows.specs.declared.orders.OrderLine.{OrderLine}

-- W_YTD
abbrev pub ytd_of_warehouse : Option Warehouse → Option ℕ
ytd_of_warehouse row = option_map (λ x. x.ytd) row

-- D_YTD
abbrev pub ytd_of_district : Option District → Option ℕ
ytd_of_district row = option_map (λ x. x.ytd) row

-- D_NEXT_O_ID
abbrev pub next_order_of : Option District → Option ℕ
next_order_of row = option_map (λ x. x.next_order) row

-- C_BALANCE
abbrev pub balance_of : Option Customer → Option ℤ
balance_of row = option_map (λ x. x.account.balance) row

-- C_BALANCE, C_YTD_PAYMENT and the other money and counts of a customer
abbrev pub account_of : Option Customer → Option Account
account_of row = option_map (λ x. x.account) row

-- S_QUANTITY
abbrev pub quantity_of : Option Stock → Option ℕ
quantity_of row = option_map (λ x. x.quantity) row

-- OL_I_ID
abbrev pub item_of : Option OrderLine → Option ℕ
item_of row = option_map (λ x. x.item) row
