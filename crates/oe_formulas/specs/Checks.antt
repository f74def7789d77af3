-- A row whose columns are tested against their ranges, and rows with other columns.
use Rattle.std.specs.Prelude.{ℕ, Option, None, Some, Result, Ok, Err}
use Rattle.oe_rows.specs.declared.warehouses.Warehouse.{Warehouse}
use Rattle.oe_rows.specs.declared.districts.District.{District}
use Rattle.oe_rows.specs.declared.customers.Account.{Account}
use Rattle.oe_rows.specs.declared.customers.Customer.{Customer}
use Rattle.oe_requests.specs.declared.requests.PaymentRequest.{PaymentRequest}
use Rattle.oe_requests.specs.declared.refusals.Column.{Column}
use Rattle.oe_rows.specs.declared.credits.CreditIds.{CreditIds}
use Rattle.oe_model.specs.Keys.{customer_in}
use Rattle.oe_model.specs.Payment.{paid_data}

-- the row, or the first of its columns that leaves its range
abbrev pub row_in_ranges : {A : Type 0} → (A → Option Column) → A → Result A Column
row_in_ranges out x = elim (out x) [ None ↦ Ok x | Some c ↦ Err c ]

-- the row that such columns make, where they stay in their ranges
abbrev pub row_with : {A B : Type 0} → (A → B) → Result A Column → Result B Column
row_with f (Ok x) = Ok (f x)
row_with f (Err c) = Err c

-- the warehouse with this W_YTD
abbrev pub with_warehouse_ytd : Warehouse → ℕ → Warehouse
with_warehouse_ytd x ytd = record x { ytd = ytd }

-- the district with this D_YTD
abbrev pub with_district_ytd : District → ℕ → District
with_district_ytd x ytd = record x { ytd = ytd }

-- the district with this D_NEXT_O_ID
abbrev pub with_next_order : District → ℕ → District
with_next_order x n = record x { next_order = n }

-- the customer c with this account, and with the data after a payment
abbrev pub paid_with : ℕ → PaymentRequest → Customer → Account → Customer
paid_with c q x a = record x { account = a; «data» = paid_data c q x.credit x.data }

-- the keys of the customer c and of the district that is paid in
abbrev pub credit_ids : ℕ → PaymentRequest → CreditIds
credit_ids c q = record { customer = customer_in q.customer_district c; district = q.district }
