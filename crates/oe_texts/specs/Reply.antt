-- The texts of replies to requests and queries (clauses 2.4.3 to 2.8.3).
use Rattle.std.specs.Prelude.{ℕ, ◌+◌, List, [], ◌∷◌, ◌++◌, Option, None, Some, decimal, codes}
use Rattle.std.specs.List.{flat_map}
use Rattle.oe_requests.specs.declared.replies.Brand.{Brand}
use Rattle.oe_requests.specs.declared.replies.Brand.TheVariants as brand
use Rattle.oe_requests.specs.declared.replies.LineReply.{LineReply}
use Rattle.oe_requests.specs.declared.replies.PaymentReply.{PaymentReply}
use Rattle.oe_requests.specs.declared.replies.NewOrderReply.{NewOrderReply}
use Rattle.oe_requests.specs.declared.replies.DistrictDelivery.{DistrictDelivery}
use Rattle.oe_requests.specs.declared.replies.DistrictDelivery.TheVariants as delivery
use Rattle.oe_requests.specs.declared.replies.RenameReply.{RenameReply}
use Rattle.oe_requests.specs.declared.replies.Reply.{Reply}
use Rattle.oe_requests.specs.declared.replies.Reply.TheVariants as reply
use Rattle.oe_requests.specs.declared.replies.StatusLine.{StatusLine}
use Rattle.oe_requests.specs.declared.replies.OrderStatus.{OrderStatus}
use Rattle.oe_requests.specs.declared.replies.QueryReply.{QueryReply}
use Rattle.oe_requests.specs.declared.replies.QueryReply.TheVariants as query
use Rattle.oe_rows.specs.Credit.{money_text}
use Rattle.oe_texts.specs.Column.{balance_text, credit_text, nullable}
use Rattle.oe_texts.specs.Stamp.{stamp_text}

-- payment <C_ID> <C_LAST> <C_CREDIT> <new C_BALANCE>
abbrev pub payment_text : PaymentReply → List ℕ
payment_text r =
    codes "payment " ++ decimal r.customer ++ codes " " ++ r.last ++ codes " " ++ credit_text r.credit ++ codes " "
    ++ balance_text r.balance

abbrev pub brand_text : Brand → List ℕ
brand_text brand.Original = codes "B"
brand_text brand.Generic = codes "G"

-- <B or G>:<new S_QUANTITY>:<OL_AMOUNT>, after a space
abbrev pub line_text : LineReply → List ℕ
line_text l = codes " " ++ brand_text l.brand ++ codes ":" ++ decimal l.quantity ++ codes ":" ++ money_text l.amount

-- neworder <O_ID> <C_LAST> <C_CREDIT> <total>, and each line
abbrev pub new_order_text : NewOrderReply → List ℕ
new_order_text r =
    codes "neworder " ++ decimal r.order ++ codes " " ++ r.last ++ codes " " ++ credit_text r.credit ++ codes " "
    ++ money_text r.total ++ flat_map line_text r.lines

-- delivery <O_ID> <C_ID> <sum>, or delivery skipped
abbrev pub delivery_text : DistrictDelivery → List ℕ
delivery_text (delivery.Delivered d) =
    codes "delivery " ++ decimal d.order ++ codes " " ++ decimal d.customer ++ codes " " ++ money_text d.sum
delivery_text delivery.Skipped = codes "delivery skipped"

-- <O_ID>:<C_ID>:<sum>, or skipped
abbrev pub district_text : DistrictDelivery → List ℕ
district_text (delivery.Delivered d) =
    decimal d.order ++ codes ":" ++ decimal d.customer ++ codes ":" ++ money_text d.sum
district_text delivery.Skipped = codes "skipped"

-- <d>:<what was done there> of the districts from `d` on, each after a space
abbrev pub districts_text : ℕ → List DistrictDelivery → List ℕ
districts_text d [] = []
districts_text d (x ∷ xs) = codes " " ++ decimal d ++ codes ":" ++ district_text x ++ districts_text (d + 1) xs

-- rename <C_ID> <C_LAST> <C_FIRST>
abbrev pub rename_text : RenameReply → List ℕ
rename_text r = codes "rename " ++ decimal r.customer ++ codes " " ++ r.last ++ codes " " ++ r.first

abbrev pub reply_text : Reply → List ℕ
reply_text (reply.Payment r) = payment_text r
reply_text (reply.NewOrder r) = new_order_text r
reply_text (reply.Delivery r) = delivery_text r
reply_text (reply.Deliveries r) = codes "deliveries" ++ districts_text 1 r
reply_text (reply.Rename r) = rename_text r

-- <supply>:<item>:<quantity>:<amount>:<delivery date>, after a space
abbrev pub status_line_text : StatusLine → List ℕ
status_line_text l =
    codes " " ++ decimal l.supply ++ codes ":" ++ decimal l.item ++ codes ":" ++ decimal l.quantity ++ codes ":"
    ++ money_text l.amount ++ codes ":" ++ nullable stamp_text l.delivery

-- <O_ID> <O_ENTRY_D> <carrier>, and each line; or no order
abbrev pub order_text : Option OrderStatus → List ℕ
order_text (Some o) =
    decimal o.number ++ codes " " ++ stamp_text o.entry ++ codes " " ++ nullable decimal o.carrier
    ++ flat_map status_line_text o.lines
order_text None = codes "no order"

-- status <C_ID> <C_BALANCE>, and the order; or level <count>
abbrev pub query_text : QueryReply → List ℕ
query_text (query.Status r) =
    codes "status " ++ decimal r.customer ++ codes " " ++ balance_text r.balance ++ codes " " ++ order_text r.order
query_text (query.Level count) = codes "level " ++ decimal count
