-- The total of an order (clause 2.4.2.2), and what a payment leaves in the data of a customer with bad credit
-- (clause 2.5.2.2).
use Rattle.std.specs.Prelude.{ℕ, ◌+◌, ◌-◌, ◌*◌, ◌/◌, ◌%◌, List, [], ◌∷◌, ◌++◌, take, sum, decimal}
use Rattle.std.specs.List.{join_with_byte}
use Rattle.oe_values.specs.Stamp.{two_digits}
use Rattle.oe_rows.specs.declared.credits.CreditIds.{CreditIds}
use Rattle.oe_rows.specs.declared.customers.Account.{Account}
use Rattle.oe_rows.specs.declared.customers.Customer.{Customer}

-- the total of an order in cents, of its lines' amounts; rates are in ten-thousandths, and a half cent rounds up
abbrev pub order_total : List ℕ → ℕ → ℕ → ℕ → ℕ
order_total amounts discount warehouse_tax district_tax =
    (sum amounts * (10000 - discount) * (10000 + warehouse_tax + district_tax)
    + 50000000) / 100000000

-- an amount of money in two decimals
abbrev pub money_text : ℕ → List ℕ
money_text cents = decimal (cents / 100) ++ 46 ∷ two_digits (cents % 100)

-- C_ID, C_D_ID, C_W_ID, D_ID, W_ID and H_AMOUNT, parted by blanks, and a bar
abbrev pub credit_entry : CreditIds → ℕ → List ℕ
credit_entry ids amount =
    join_with_byte 32 (decimal ids.customer.customer ∷ decimal ids.customer.district
    ∷ decimal ids.customer.warehouse
    ∷ decimal ids.district.district ∷ decimal ids.district.warehouse ∷ money_text amount ∷ [])
    ++ 124 ∷ []

-- the entry goes in at the left, and what passes 500 bytes is discarded on the right
abbrev pub bad_credit_data : List ℕ → CreditIds → ℕ → List ℕ
bad_credit_data old ids amount = take 500 (credit_entry ids amount ++ old)

-- a row with this account and with an entry put before C_DATA
abbrev pub with_entry : Account → List ℕ → Customer → Customer
with_entry a entry c = record c { account = a; «data» = take 500 (entry ++ c.data) }
