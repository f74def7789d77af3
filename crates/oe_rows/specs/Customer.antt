-- The ranges of the columns of customers (clause 1.3.1). C_CREDIT is `GC` or `BC` by its type.
use Rattle.std.specs.Prelude.{◌≤◌, ◌<◌}
use Rattle.oe_values.specs.Number.{IsWithin}
use Rattle.oe_values.specs.Text.{IsText}
use Rattle.oe_values.specs.declared.stamps.TheConstants.{SECONDS}
use Rattle.oe_rows.specs.Warehouse.{IsAddress}
use Rattle.oe_rows.specs.declared.customers.CustomerName.{CustomerName}
use Rattle.oe_rows.specs.declared.customers.Account.{Account}
use Rattle.oe_rows.specs.declared.customers.Customer.{Customer}

pub record IsCustomerName (n : CustomerName) : Type 0 where
  pub first : IsText 0 16 n.first
  pub middle : IsText 2 2 n.middle
  pub last : IsText 0 16 n.last

pub record IsAccount (a : Account) : Type 0 where
  pub credit_limit : a.credit_limit ≤ 999_999_999_999
  pub discount : a.discount ≤ 9_999
  pub balance : IsWithin 999_999_999_999 a.balance
  pub ytd_payment : a.ytd_payment ≤ 999_999_999_999
  pub payment_count : a.payment_count ≤ 9_999
  pub delivery_count : a.delivery_count ≤ 9_999

pub record IsCustomer (c : Customer) : Type 0 where
  pub name : IsCustomerName c.name
  pub address : IsAddress c.address
  pub phone : IsText 16 16 c.phone
  pub since : c.since < SECONDS
  pub account : IsAccount c.account
  pub text : IsText 0 500 c.data
