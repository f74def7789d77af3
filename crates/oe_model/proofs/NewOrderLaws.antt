-- New-Order's rows read and write only what their locks allow.
use Rattle.std.proofs.Common.{◌≡◌, ℕ, ◌+◌, refl, sym, ap, subst, List, [], ◌∷◌, ◌++◌, length, Option, Some, None, inl}
use Rattle.std.proofs.Common.{inr}
use Rattle.std.specs.Prelude.{is_some}
use Rattle.std.specs.FinMap.{get}
use Rattle.std.proofs.lemmas.List.{map-append}
use Rattle.oe_theory.specs.Machine.{Shared, Exclusive, Ask, Stop, Take, Go, Tx, Hold}
use Rattle.oe_theory.specs.Laws.{IsAsked, all_held, Holds, with_asked, Alike}
use Rattle.oe_rows.specs.declared.keys.Key.TheVariants as key
use Rattle.oe_rows.specs.declared.customers.Customer.{Customer}
use Rattle.oe_rows.specs.declared.items.Item.{Item}
use Rattle.oe_rows.specs.declared.items.Stock.{Stock}
use Rattle.oe_rows.specs.declared.locks.Name.{Name}
use Rattle.oe_rows.specs.declared.locks.Name.TheVariants as name
use Rattle.oe_requests.specs.declared.requests.Request.{Request}
use Rattle.oe_requests.specs.declared.requests.RequestLine.{RequestLine}
use Rattle.oe_requests.specs.declared.requests.NewOrderRequest.{NewOrderRequest}
use Rattle.oe_requests.specs.declared.replies.LineReply.{LineReply}
use Rattle.oe_requests.specs.declared.refusals.Refusal.{Refusal}
use Rattle.oe_requests.specs.declared.refusals.Refusal.TheVariants.{NoSuchRow, NoCustomer, InvalidItem}
use Rattle.oe_model.specs.Keys.{warehouse_of_district, customer_in, order_in, new_order_in, line_in}
use Rattle.oe_model.specs.Rows.{Rows, row_at}
use Rattle.oe_model.specs.Changes.{Change, UpdateDistrict, UpdateStock, InsertOrder, InsertNewOrder, InsertOrderLine}
use Rattle.oe_model.specs.Locks.{hold}
use Rattle.oe_model.specs.Positions.{Position, Seen, InNewOrder, NewOrderPosition, NewOrderWarehouse, NewOrderDistrict}
use Rattle.oe_model.specs.Positions.{NewOrderCustomer, NewOrderOrder, NewOrderQueue, NewOrderStock, NewOrderLine}
use Rattle.oe_model.specs.Effects.{Doing, with_value, within}
use Rattle.oe_model.specs.NewOrder.{stock_of, stock_out, stock_after, fill, item_at, stock_holds, with_next, order_row}
use Rattle.oe_model.specs.NewOrder.{new_order_row}
use Rattle.oe_model.specs.System.{system, ask, act, locks_before}
use Rattle.oe_model.proofs.RowFacts.{un_warehouse, un_district, un_customer, un_stock}
use Rattle.oe_model.proofs.LawFacts.{IsAskedNow, HeldThen, holds_asked, holds_last, holds_more, given_same, given_goes}
use Rattle.oe_model.proofs.LawFacts.{within_goes, IsLawful, lawful_at, lawful_none, lawful_one, keeps_district}
use Rattle.oe_model.proofs.LawFacts.{keeps_order, keeps_new_order, keeps_stock, keeps_line, alike_customer}
use Rattle.oe_model.proofs.LawFacts.{alike_item_at}

-- whether a customer is there is a part of its row that never changes
if_customer : Refusal → Name → Option Customer → Ask Name Refusal
if_customer e n o = elim o [ None ↦ Stop e | Some y ↦ Take n Shared ]

same_if : (e : Refusal) (n : Name) (a b : Option Customer) → is_some a ≡ is_some b
    → if_customer e n a ≡ if_customer e n b
unfolding if_customer
same_if e n None None h = refl
same_if e n None (Some b) h = let no : ⊥ = cc in absurd no
same_if e n (Some a) None h = let no : ⊥ = cc in absurd no
same_if e n (Some a) (Some b) h = refl

if_item : Name → Option Item → Ask Name Refusal
if_item n o = elim o [ None ↦ Stop InvalidItem | Some y ↦ Take n Exclusive ]

pub new_order_ask_same : (x : Tx Request) (q : NewOrderRequest) (p : NewOrderPosition) (r s : Rows)
    → Alike system (Holds system (locks_before x (InNewOrder q p))) x r s → ask x (InNewOrder q p) r
    ≡ ask x (InNewOrder q p) s
unfolding if_customer if_item
new_order_ask_same x q (NewOrderCustomer o w d) r s h =
    same_if NoCustomer (name.Customer (customer_in q.district q.customer))
    (get r.customers (customer_in q.district q.customer)) (get s.customers (customer_in q.district q.customer))
    (alike_customer (Holds system (locks_before x (InNewOrder q (NewOrderCustomer o w d)))) x r s h
    (customer_in q.district q.customer))
new_order_ask_same x q (NewOrderStock t before done (l ∷ ls)) r s h =
    ap (if_item (name.Stock (stock_of l)))
    (alike_item_at (Holds system (locks_before x (InNewOrder q (NewOrderStock t before done (l ∷ ls))))) x r s h l.item)
new_order_ask_same x q _ r s h = refl

-- a row that took its lock has found what it asks for
asks_customer : (x : Tx Request) (q : NewOrderRequest) (o w d : ℕ) (r : Rows) (a : Option Customer)
    → get r.customers (customer_in q.district q.customer) ≡ a
    → IsAsked system (all_held system) (if_customer NoCustomer (name.Customer (customer_in q.district q.customer)) a)
    → ask x (InNewOrder q (NewOrderCustomer o w d)) r ≡ Take (name.Customer (customer_in q.district q.customer)) Shared
unfolding if_customer
asks_customer x q o w d r None e k = absurd k
asks_customer x q o w d r (Some a) e k = ap (if_customer NoCustomer (name.Customer (customer_in q.district q.customer)))
    e

asks_stock : (x : Tx Request) (q : NewOrderRequest) (t : Seen) (before : List RequestLine) (done : List LineReply)
    (l : RequestLine) (ls : List RequestLine) (r : Rows) (a : Option Item) → item_at l.item r.items ≡ a
    → IsAsked system (all_held system) (if_item (name.Stock (stock_of l)) a)
    → ask x (InNewOrder q (NewOrderStock t before done (l ∷ ls))) r ≡ Take (name.Stock (stock_of l)) Exclusive
unfolding if_item
asks_stock x q t before done l ls r None e k = absurd k
asks_stock x q t before done l ls r (Some a) e k = ap (if_item (name.Stock (stock_of l))) e

pub new_order_act_same : (x : Tx Request) (q : NewOrderRequest) (p : NewOrderPosition) (r s : Rows)
    → IsAskedNow x (InNewOrder q p) r → Alike system (HeldThen x (InNewOrder q p) r) x r s
    → act x (InNewOrder q p) r ≡ act x (InNewOrder q p) s
unfolding if_customer if_item
new_order_act_same x q NewOrderWarehouse r s k h =
    given_same (NoSuchRow (key.Warehouse (warehouse_of_district q.district))) _ _ _
    (un_warehouse _ _ (h.rows (key.Warehouse (warehouse_of_district q.district)) (inl (refl, tt))))
new_order_act_same x q (NewOrderDistrict w) r s k h = given_same (NoSuchRow (key.District q.district)) _ _ _
    (un_district _ _ (h.rows (key.District q.district) (inl (refl, tt))))
new_order_act_same x q (NewOrderCustomer o w d) r s k h =
    let p : Position = InNewOrder q (NewOrderCustomer o w d) in
    let n : Name = name.Customer (customer_in q.district q.customer) in
    given_same NoCustomer _ _ _ (un_customer _ _ (h.rows (key.Customer (customer_in q.district q.customer))
    (holds_asked (ask x p r) (locks_before x p) n Shared Shared
    (asks_customer x q o w d r (get r.customers (customer_in q.district q.customer)) refl k) tt)))
new_order_act_same x q (NewOrderOrder t) r s k h = refl
new_order_act_same x q (NewOrderQueue t) r s k h = refl
new_order_act_same x q (NewOrderStock t before done []) r s k h = refl
new_order_act_same x q (NewOrderStock t before done (l ∷ ls)) r s k h =
    let p : Position = InNewOrder q (NewOrderStock t before done (l ∷ ls)) in
    let f : Item → Stock → Doing = λ item y.
    (let y' : Stock = stock_after q.district.warehouse (stock_of l) y l.quantity in
    within (stock_out y')
    (Go (Some (UpdateStock (stock_of l) y'))
    (InNewOrder q (NewOrderLine t before done l (fill q (length before + 1) l item y') ls)))) in
    let stocks : get r.stocks (stock_of l) ≡ get s.stocks (stock_of l) = un_stock _ _ (h.rows (key.Stock (stock_of l))
    (holds_asked (ask x p r) (locks_before x p) (name.Stock (stock_of l)) Exclusive Shared
    (asks_stock x q t before done l ls r (item_at l.item r.items) refl k) tt)) in
    let items : item_at l.item r.items ≡ item_at l.item s.items = alike_item_at (HeldThen x p r) x r s h l.item in
    λ i. with_value InvalidItem (items i) (λ item. with_value (NoSuchRow (key.Stock (stock_of l))) (stocks i) (f item))
new_order_act_same x q (NewOrderLine t before done l f ls) r s k h = refl

pub new_order_lawful : (x : Tx Request) (q : NewOrderRequest) (p : NewOrderPosition) (r : Rows) (c : Option Change)
    (z : Position) → IsAskedNow x (InNewOrder q p) r → act x (InNewOrder q p) r ≡ Go c z
    → IsLawful x (InNewOrder q p) r c z
unfolding if_customer if_item
new_order_lawful x q NewOrderWarehouse r c z k e =
    let (y, here, e1) = given_goes (NoSuchRow (key.Warehouse (warehouse_of_district q.district)))
    (get r.warehouses (warehouse_of_district q.district)) _ c z e in
    lawful_at x (InNewOrder q NewOrderWarehouse) r c _ z _ e1
    (lawful_none x (InNewOrder q NewOrderWarehouse) r _ (λ n m h. h) (λ _. tt))
new_order_lawful x q (NewOrderDistrict w) r c z k e =
    let p : Position = InNewOrder q (NewOrderDistrict w) in
    let (y, here, e1) = given_goes (NoSuchRow (key.District q.district)) (get r.districts q.district) _ c z e in
    lawful_at x p r c _ z _ (within_goes _ _ c z e1)
    (lawful_one x p r (UpdateDistrict q.district (with_next y)) _ (λ n m h. h) (inl (refl, tt)) tt
    (keeps_district r q.district y (with_next y) here) (λ _. tt))
new_order_lawful x q (NewOrderCustomer o w d) r c z k e =
    let p : Position = InNewOrder q (NewOrderCustomer o w d) in
    let (y, here, e1) = given_goes NoCustomer (get r.customers (customer_in q.district q.customer)) _ c z e in
    let a = asks_customer x q o w d r (get r.customers (customer_in q.district q.customer)) refl k in
    lawful_at x p r c _ z _ e1
    (lawful_none x p r _ (λ n m h. subst
    (λ (v : Ask Name Refusal). Holds system (with_asked system v (locks_before x p)) n m) (sym a) h) (λ _. tt))
new_order_lawful x q (NewOrderOrder t) r c z k e =
    let p : Position = InNewOrder q (NewOrderOrder t) in
    lawful_at x p r c _ z _ e
    (lawful_one x p r (InsertOrder (order_in q.district t.order) (order_row q)) _ (λ n m h. h) (inl (refl, tt)) tt
    (keeps_order (row_at r (key.Order (order_in q.district t.order))) (order_in q.district t.order) (order_row q))
    (λ _. tt))
new_order_lawful x q (NewOrderQueue t) r c z k e =
    let p : Position = InNewOrder q (NewOrderQueue t) in
    lawful_at x p r c _ z _ e
    (lawful_one x p r (InsertNewOrder (new_order_in q.district t.order) new_order_row) _ (λ n m h. h) (inl (refl, tt))
    (inr (inl (refl, tt)))
    (keeps_new_order (row_at r (key.NewOrder (new_order_in q.district t.order))) (new_order_in q.district t.order)
    new_order_row) (λ _. tt))
new_order_lawful x q (NewOrderStock t before done []) r c z k e = let no : ⊥ = cc in absurd no
new_order_lawful x q (NewOrderStock t before done (l ∷ ls)) r c z k e =
    let p : Position = InNewOrder q (NewOrderStock t before done (l ∷ ls)) in
    let (item, found, e1) = given_goes InvalidItem (item_at l.item r.items) _ c z e in
    let (y, here, e2) = given_goes (NoSuchRow (key.Stock (stock_of l))) (get r.stocks (stock_of l)) _ c z e1 in
    let a = asks_stock x q t before done l ls r (item_at l.item r.items) refl k in
    lawful_at x p r c _ z _ (within_goes _ _ c z e2)
    (lawful_one x p r (UpdateStock (stock_of l) (stock_after q.district.warehouse (stock_of l) y l.quantity)) _
    (λ n m h. subst (λ (v : Ask Name Refusal). Holds system (with_asked system v (locks_before x p)) n m) (sym a) h)
    (holds_asked (ask x p r) (locks_before x p) (name.Stock (stock_of l)) Exclusive Exclusive a tt) tt
    (keeps_stock r (stock_of l) y (stock_after q.district.warehouse (stock_of l) y l.quantity) here) (λ _. tt))
new_order_lawful x q (NewOrderLine t before done l f ls) r c z k e =
    let p : Position = InNewOrder q (NewOrderLine t before done l f ls) in
    let base : List (Hold Name) = hold (name.Queue q.district) Exclusive ∷ hold
    (name.Order (order_in q.district t.order)) Exclusive ∷ hold (name.Customer (customer_in q.district q.customer))
    Shared
    ∷ hold (name.District q.district) Exclusive ∷ hold (name.Warehouse (warehouse_of_district q.district))
    Shared ∷ [] in
    lawful_at x p r c _ z _ e
    (lawful_one x p r (InsertOrderLine (line_in (order_in q.district t.order) f.number) f.row)
    (InNewOrder q (NewOrderStock t (before ++ l ∷ []) (done ++ f.reply ∷ []) ls))
    (λ n m h. holds_last (stock_holds before) base (hold (name.Stock (stock_of l)) Exclusive) n m
    (subst (λ (v : List (Hold Name)). Holds system (v ++ base) n m)
    (map-append (λ l. hold (name.Stock (stock_of l)) Exclusive) before (l ∷ [])) h))
    (inr (holds_more (stock_holds before) base (name.Order (order_in q.district t.order)) Exclusive
    (inr (inl (refl, tt))))) tt
    (keeps_line (row_at r (key.OrderLine (line_in (order_in q.district t.order) f.number)))
    (line_in (order_in q.district t.order) f.number) f.row) (λ _. tt))
