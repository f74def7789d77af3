-- The ranges of the columns that an update changed (clause 1.3.1), where they are there.
use Rattle.std.specs.Prelude.{◌≡◌, ◌≤◌, ◌<◌, length, IfSome}
use Rattle.std.specs.Int.{IsInRange}
use Rattle.std.specs.List.{All}
use Rattle.oe_values.specs.Number.{IsWithin}
use Rattle.oe_values.specs.Text.{IsText}
use Rattle.oe_values.specs.declared.stamps.TheConstants.{SECONDS}
use Rattle.oe_rows.specs.declared.before.AddressBefore.{AddressBefore}
use Rattle.oe_rows.specs.declared.before.WarehouseBefore.{WarehouseBefore}
use Rattle.oe_rows.specs.declared.before.DistrictBefore.{DistrictBefore}
use Rattle.oe_rows.specs.declared.before.CustomerNameBefore.{CustomerNameBefore}
use Rattle.oe_rows.specs.declared.before.AccountBefore.{AccountBefore}
use Rattle.oe_rows.specs.declared.before.CustomerBefore.{CustomerBefore}
use Rattle.oe_rows.specs.declared.before.OrderBefore.{OrderBefore}
use Rattle.oe_rows.specs.declared.before.OrderLineBefore.{OrderLineBefore}
use Rattle.oe_rows.specs.declared.before.StockBefore.{StockBefore}

pub record IsAddressBefore (a : AddressBefore) : Type 0 where
  pub street_1 : IfSome a.street_1 (IsText 0 20)
  pub street_2 : IfSome a.street_2 (IsText 0 20)
  pub city : IfSome a.city (IsText 0 20)
  pub state : IfSome a.state (IsText 2 2)
  pub zip : IfSome a.zip (IsText 9 9)

pub record IsNameBefore (n : CustomerNameBefore) : Type 0 where
  pub first : IfSome n.first (IsText 0 16)
  pub middle : IfSome n.middle (IsText 2 2)
  pub last : IfSome n.last (IsText 0 16)

pub record IsAccountBefore (a : AccountBefore) : Type 0 where
  pub credit_limit : IfSome a.credit_limit (λ n. n ≤ 999_999_999_999)
  pub discount : IfSome a.discount (λ n. n ≤ 9_999)
  pub balance : IfSome a.balance (IsWithin 999_999_999_999)
  pub ytd_payment : IfSome a.ytd_payment (λ n. n ≤ 999_999_999_999)
  pub payment_count : IfSome a.payment_count (λ n. n ≤ 9_999)
  pub delivery_count : IfSome a.delivery_count (λ n. n ≤ 9_999)

pub record IsWarehouseBefore (w : WarehouseBefore) : Type 0 where
  pub name : IfSome w.name (IsText 0 10)
  pub address : IsAddressBefore w.address
  pub tax : IfSome w.tax (λ n. n ≤ 9_999)
  pub ytd : IfSome w.ytd (λ n. n ≤ 999_999_999_999)

pub record IsDistrictBefore (d : DistrictBefore) : Type 0 where
  pub name : IfSome d.name (IsText 0 10)
  pub address : IsAddressBefore d.address
  pub tax : IfSome d.tax (λ n. n ≤ 9_999)
  pub ytd : IfSome d.ytd (λ n. n ≤ 999_999_999_999)
  pub next_order : IfSome d.next_order (IsInRange 1 10_000_000)

pub record IsCustomerBefore (c : CustomerBefore) : Type 0 where
  pub name : IsNameBefore c.name
  pub address : IsAddressBefore c.address
  pub phone : IfSome c.phone (IsText 16 16)
  pub since : IfSome c.since (λ s. s < SECONDS)
  pub account : IsAccountBefore c.account
  pub text : IfSome c.data (IsText 0 500)

pub record IsOrderBefore (o : OrderBefore) : Type 0 where
  pub customer : IfSome o.customer (IsInRange 1 3_000)
  pub entry : IfSome o.entry (λ s. s < SECONDS)
  pub carrier : IfSome o.carrier (λ c. IfSome c (IsInRange 1 10))
  pub line_count : IfSome o.line_count (IsInRange 5 15)

pub record IsOrderLineBefore (l : OrderLineBefore) : Type 0 where
  pub item : IfSome l.item (IsInRange 1 100_000)
  pub supply : IfSome l.supply (IsInRange 1 16)
  pub delivery : IfSome l.delivery (λ s. IfSome s (λ t. t < SECONDS))
  pub quantity : IfSome l.quantity (λ n. n ≤ 99)
  pub amount : IfSome l.amount (λ n. n ≤ 999_999)
  pub dist_info : IfSome l.dist_info (IsText 24 24)

pub record IsStockBefore (s : StockBefore) : Type 0 where
  pub quantity : IfSome s.quantity (λ n. n ≤ 9_999)
  pub ten_infos : length s.dist_info ≡ 10
  pub dist_info : All (λ d. IfSome d (IsText 24 24)) s.dist_info
  pub ytd : IfSome s.ytd (λ n. n ≤ 99_999_999)
  pub order_count : IfSome s.order_count (λ n. n ≤ 9_999)
  pub remote_count : IfSome s.remote_count (λ n. n ≤ 9_999)
  pub text : IfSome s.data (IsText 0 50)
