-- Where a transaction's program stands: before one of its rows, with what the rows before have read.
use Rattle.std.specs.Prelude.{ℕ, List}
use Rattle.oe_rows.specs.declared.customers.Credit.{Credit}
use Rattle.oe_rows.specs.declared.orders.OrderLine.{OrderLine}
use Rattle.oe_requests.specs.declared.requests.PaymentRequest.{PaymentRequest}
use Rattle.oe_requests.specs.declared.requests.RequestLine.{RequestLine}
use Rattle.oe_requests.specs.declared.requests.NewOrderRequest.{NewOrderRequest}
use Rattle.oe_requests.specs.declared.requests.DeliveryRequest.{DeliveryRequest}
use Rattle.oe_requests.specs.declared.requests.DeliveriesRequest.{DeliveriesRequest}
use Rattle.oe_requests.specs.declared.requests.RenameRequest.{RenameRequest}
use Rattle.oe_requests.specs.declared.replies.PaymentReply.{PaymentReply}
use Rattle.oe_requests.specs.declared.replies.LineReply.{LineReply}
use Rattle.oe_requests.specs.declared.replies.DistrictDelivery.{DistrictDelivery}

pub data PaymentPosition : Type 0 where
  PaymentWarehouse : PaymentPosition
  -- W_NAME
  PaymentDistrict : List ℕ → PaymentPosition
  -- W_NAME, D_NAME; of a payment by name alone
  PaymentNames : List ℕ → List ℕ → PaymentPosition
  -- W_NAME, D_NAME, C_ID
  PaymentCustomer : List ℕ → List ℕ → ℕ → PaymentPosition
  -- H_DATA, the reply
  PaymentHistory : List ℕ → PaymentReply → PaymentPosition
  PaymentEnd : PaymentReply → PaymentPosition

-- what a New-Order has read before its lines: O_ID, W_TAX, D_TAX, C_DISCOUNT, C_LAST and C_CREDIT
pub record Seen : Type 0 where
  pub order : ℕ
  pub warehouse_tax : ℕ
  pub district_tax : ℕ
  pub discount : ℕ
  pub last : List ℕ
  pub credit : Credit

-- a line of an order as it was filled, with its OL_NUMBER
pub record Filled : Type 0 where
  pub number : ℕ
  pub row : OrderLine
  pub reply : LineReply

pub data NewOrderPosition : Type 0 where
  NewOrderWarehouse : NewOrderPosition
  -- W_TAX
  NewOrderDistrict : ℕ → NewOrderPosition
  -- O_ID, W_TAX, D_TAX
  NewOrderCustomer : ℕ → ℕ → ℕ → NewOrderPosition
  NewOrderOrder : Seen → NewOrderPosition
  NewOrderQueue : Seen → NewOrderPosition
  -- the lines before with their replies, and the lines to come
  NewOrderStock : Seen → List RequestLine → List LineReply → List RequestLine → NewOrderPosition
  -- the lines before with their replies, the line that was filled, and the lines to come
  NewOrderLine : Seen → List RequestLine → List LineReply → RequestLine → Filled → List RequestLine → NewOrderPosition

pub data DeliveryPosition : Type 0 where
  DeliveryQueue : DeliveryPosition
  DeliveryNothing : DeliveryPosition
  -- O_ID
  DeliveryOrder : ℕ → DeliveryPosition
  -- O_ID, O_C_ID, the OL_NUMBERs of the lines to come, and the sum of the OL_AMOUNTs before
  DeliveryLine : ℕ → ℕ → List ℕ → ℕ → DeliveryPosition
  -- O_ID, O_C_ID, the sum of the OL_AMOUNTs
  DeliveryEnd : ℕ → ℕ → ℕ → DeliveryPosition

pub data RenamePosition : Type 0 where
  RenameCustomer : RenamePosition
  -- C_LAST before
  RenameOld : List ℕ → RenamePosition
  RenameNew : List ℕ → RenamePosition
  RenameEnd : List ℕ → RenamePosition

pub data Position : Type 0 where
  InPayment : PaymentRequest → PaymentPosition → Position
  InNewOrder : NewOrderRequest → NewOrderPosition → Position
  InDelivery : DeliveryRequest → DeliveryPosition → Position
  -- what was done in each district that is done, from the first on, and where the district at hand stands
  InDeliveries : DeliveriesRequest → List DistrictDelivery → DeliveryPosition → Position
  -- each of the ten districts is done
  DeliveriesEnd : List DistrictDelivery → Position
  InRename : RenameRequest → RenamePosition → Position
