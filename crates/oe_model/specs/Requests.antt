-- The ranges of requests, why one is turned away at its begin, and the refusals that its program may end with.
use Rattle.std.specs.Prelude.{ℕ, ◌<◌, cond, is_some, nat_le, List, [], ◌∷◌, map, length, Option, None, Some}
use Rattle.std.specs.List.{All}
use Rattle.std.specs.Int.{IsInRange}
use Rattle.oe_values.specs.Text.{IsLastName, IsFirstName}
use Rattle.oe_values.specs.declared.stamps.TheConstants.{SECONDS}
use Rattle.oe_rows.specs.declared.keys.WarehouseKey.{WarehouseKey}
use Rattle.oe_rows.specs.declared.keys.DistrictKey.{DistrictKey}
use Rattle.oe_rows.specs.declared.keys.Key.TheVariants as key
use Rattle.oe_requests.specs.declared.requests.CustomerChoice.{CustomerChoice}
use Rattle.oe_requests.specs.declared.requests.CustomerChoice.TheVariants.{Number, LastName}
use Rattle.oe_requests.specs.declared.requests.PaymentRequest.{PaymentRequest}
use Rattle.oe_requests.specs.declared.requests.RequestLine.{RequestLine}
use Rattle.oe_requests.specs.declared.requests.NewOrderRequest.{NewOrderRequest}
use Rattle.oe_requests.specs.declared.requests.DeliveryRequest.{DeliveryRequest}
use Rattle.oe_requests.specs.declared.requests.DeliveriesRequest.{DeliveriesRequest}
use Rattle.oe_requests.specs.declared.requests.RenameRequest.{RenameRequest}
use Rattle.oe_requests.specs.declared.requests.Request.{Request}
use Rattle.oe_requests.specs.declared.requests.Request.TheVariants as request
use Rattle.oe_requests.specs.declared.requests.Query.{Query}
use Rattle.oe_requests.specs.declared.requests.Query.TheVariants.{Status, Level}
use Rattle.oe_requests.specs.declared.refusals.Column.{Column}
use Rattle.oe_requests.specs.declared.refusals.Column.TheVariants as column
use Rattle.oe_requests.specs.declared.refusals.Refusal.{Refusal}
use Rattle.oe_requests.specs.declared.refusals.Refusal.TheVariants.{NoSuchRow, Overflow, InvalidItem, NoCustomer}
use Rattle.oe_model.specs.Keys.{district_of_customer}
use Rattle.oe_model.specs.Rows.{Rows, row_at}

abbrev pub IsDistrict : DistrictKey → Type 0
IsDistrict h = IsInRange 1 16 h.warehouse × IsInRange 1 10 h.district

abbrev pub IsChoice : CustomerChoice → Type 0
IsChoice (Number c) = IsInRange 1 3000 c
IsChoice (LastName last) = IsLastName last

-- before 2101
abbrev pub IsStamp : ℕ → Type 0
IsStamp n = n < SECONDS

-- clause 2.5.1: the amount is 1.00 to 5,000.00
pub record IsPayment (q : PaymentRequest) : Type 0 where
  pub district : IsDistrict q.district
  pub customer_district : IsDistrict q.customer_district
  pub customer : IsChoice q.customer
  pub amount : IsInRange 100 500000 q.amount
  pub stamp : IsStamp q.stamp

-- clause 2.4.1: an item's number may be one that is unused
pub record IsRequestLine (l : RequestLine) : Type 0 where
  pub supply : IsInRange 1 16 l.supply
  pub item : IsInRange 1 999999 l.item
  pub quantity : IsInRange 1 10 l.quantity

pub record IsNewOrder (q : NewOrderRequest) : Type 0 where
  pub district : IsDistrict q.district
  pub customer : IsInRange 1 3000 q.customer
  pub stamp : IsStamp q.stamp
  pub count : IsInRange 5 15 (length q.lines)
  pub lines : All IsRequestLine q.lines

-- clause 2.7.1
pub record IsDelivery (q : DeliveryRequest) : Type 0 where
  pub district : IsDistrict q.district
  pub carrier : IsInRange 1 10 q.carrier
  pub stamp : IsStamp q.stamp

-- clause 2.7.1, of all ten districts
pub record IsDeliveries (q : DeliveriesRequest) : Type 0 where
  pub warehouse : IsInRange 1 16 q.warehouse.warehouse
  pub carrier : IsInRange 1 10 q.carrier
  pub stamp : IsStamp q.stamp

pub record IsRename (q : RenameRequest) : Type 0 where
  pub district : IsDistrict (district_of_customer q.customer)
  pub customer : IsInRange 1 3000 q.customer.customer
  pub last : IsLastName q.last
  pub first : IsFirstName q.first

abbrev pub IsRequest : Request → Type 0
IsRequest (request.Payment q) = IsPayment q
IsRequest (request.NewOrder q) = IsNewOrder q
IsRequest (request.Delivery q) = IsDelivery q
IsRequest (request.Deliveries q) = IsDeliveries q
IsRequest (request.Rename q) = IsRename q

-- the warehouses that a request names, from the left
abbrev pub warehouses_of : Request → List ℕ
warehouses_of (request.Payment q) = q.district.warehouse ∷ q.customer_district.warehouse ∷ []
warehouses_of (request.NewOrder q) = q.district.warehouse ∷ map (λ l. l.supply) q.lines
warehouses_of (request.Delivery q) = q.district.warehouse ∷ []
warehouses_of (request.Deliveries q) = q.warehouse.warehouse ∷ []
warehouses_of (request.Rename q) = q.customer.warehouse ∷ []

abbrev pub warehouse_no : ℕ → WarehouseKey
warehouse_no w = record { warehouse = w }

-- the first of them that doesn't exist
abbrev pub first_absent : List ℕ → Rows → Option Refusal
first_absent [] r = None
first_absent (w ∷ ws) r = cond (is_some (row_at r (key.Warehouse (warehouse_no w)))) (first_absent ws r)
    (Some (NoSuchRow (key.Warehouse (warehouse_no w))))

abbrev pub rejection : Request → Rows → Option Refusal
rejection q r = first_absent (warehouses_of q) r

abbrev pub query_rejection : Query → Rows → Option Refusal
query_rejection (Status q) r = first_absent (q.district.warehouse ∷ []) r
query_rejection (Level q) r = first_absent (q.district.warehouse ∷ []) r

-- a terminal's transactions have the numbers 1 to 2^32 - 1
abbrev pub number_rejection : ℕ → Option Refusal
number_rejection n = cond (nat_le n 4294967295) None (Some (Overflow column.HistoryNumber))

-- the columns that each program may take out of its range
abbrev pub OfPayment : Column → Type 0
OfPayment column.WarehouseYtd = Unit {0}
OfPayment column.DistrictYtd = Unit {0}
OfPayment column.Balance = Unit {0}
OfPayment column.YtdPayment = Unit {0}
OfPayment column.PaymentCount = Unit {0}
OfPayment _ = ⊥

abbrev pub OfNewOrder : Column → Type 0
OfNewOrder column.NextOrder = Unit {0}
OfNewOrder column.StockYtd = Unit {0}
OfNewOrder column.OrderCount = Unit {0}
OfNewOrder column.RemoteCount = Unit {0}
OfNewOrder _ = ⊥

abbrev pub OfDelivery : Column → Type 0
OfDelivery column.Balance = Unit {0}
OfDelivery column.DeliveryCount = Unit {0}
OfDelivery _ = ⊥

-- the refusals that each program may end with
abbrev pub PaymentMayRefuse : Refusal → Type 0
PaymentMayRefuse NoCustomer = Unit {0}
PaymentMayRefuse (Overflow c) = OfPayment c
PaymentMayRefuse _ = ⊥

abbrev pub NewOrderMayRefuse : Refusal → Type 0
NewOrderMayRefuse InvalidItem = Unit {0}
NewOrderMayRefuse NoCustomer = Unit {0}
NewOrderMayRefuse (Overflow c) = OfNewOrder c
NewOrderMayRefuse _ = ⊥

abbrev pub DeliveryMayRefuse : Refusal → Type 0
DeliveryMayRefuse (Overflow c) = OfDelivery c
DeliveryMayRefuse _ = ⊥

abbrev pub RenameMayRefuse : Refusal → Type 0
RenameMayRefuse NoCustomer = Unit {0}
RenameMayRefuse _ = ⊥

abbrev pub MayRefuse : Request → Refusal → Type 0
MayRefuse (request.Payment q) e = PaymentMayRefuse e
MayRefuse (request.NewOrder q) e = NewOrderMayRefuse e
MayRefuse (request.Delivery q) e = DeliveryMayRefuse e
MayRefuse (request.Deliveries q) e = DeliveryMayRefuse e
MayRefuse (request.Rename q) e = RenameMayRefuse e
