-- The numbers of refusals, and the names of columns (clause 1.3.1).
use Rattle.std.specs.Prelude.{ℕ, List, codes}
use Rattle.oe_requests.specs.declared.refusals.Column.{Column}
use Rattle.oe_requests.specs.declared.refusals.Column.TheVariants as column
use Rattle.oe_requests.specs.declared.refusals.Refusal.{Refusal}
use Rattle.oe_requests.specs.declared.refusals.Refusal.TheVariants as refusal

abbrev pub refusal_number : Refusal → ℕ
refusal_number (refusal.NoSuchRow key) = 2
refusal_number (refusal.RowExists key) = 3
refusal_number (refusal.Overflow c) = 4
refusal_number (refusal.Reference key) = 5
refusal_number refusal.KeyColumn = 6
refusal_number (refusal.Busy name terminal) = 7
refusal_number refusal.UndoFull = 8
refusal_number refusal.NoMemory = 9
refusal_number refusal.NotOpen = 10
refusal_number refusal.AlreadyOpen = 11
refusal_number refusal.InvalidItem = 12
refusal_number refusal.NoCustomer = 13
refusal_number (refusal.TooOld moment) = 14
refusal_number (refusal.Future moment) = 15
refusal_number (refusal.NotQuiet terminals) = 16
refusal_number (refusal.NotPinned word) = 17

abbrev pub column_name : Column → List ℕ
column_name column.WarehouseYtd = codes "W_YTD"
column_name column.DistrictYtd = codes "D_YTD"
column_name column.NextOrder = codes "D_NEXT_O_ID"
column_name column.Balance = codes "C_BALANCE"
column_name column.YtdPayment = codes "C_YTD_PAYMENT"
column_name column.PaymentCount = codes "C_PAYMENT_CNT"
column_name column.DeliveryCount = codes "C_DELIVERY_CNT"
column_name column.StockYtd = codes "S_YTD"
column_name column.OrderCount = codes "S_ORDER_CNT"
column_name column.RemoteCount = codes "S_REMOTE_CNT"
column_name column.HistoryNumber = codes "H_NUMBER"
