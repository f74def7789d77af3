-- Images are as long as their columns say.
use Rattle.std.proofs.Common.{◌≡◌, ℕ, ◌+◌, ◌*◌, List, [], ◌∷◌, ◌++◌, length, get_or, Bool, Option, Some, None}
use Rattle.std.proofs.Common.{refl, ◌∙◌, arith}
use Rattle.std.specs.Prelude.{IfSome, if◌then◌else◌, ◌-◌, ◌^◌}
use Rattle.std.specs.Option.{option_map}
use Rattle.std.specs.Int.{w64, cast_unsigned}
use Rattle.std.specs.List.{All}
use Rattle.std.proofs.lemmas.List.{length-append}
use Rattle.byteorder.specs.Numbers.{length-bytes_high_first}
use Rattle.oe_extent.specs.Images.{number}
use Rattle.oe_values.specs.Text.{IsText}
use Rattle.oe_rows.specs.Item.{IsStock}
use Rattle.oe_rows.specs.declared.warehouses.Address.{Address}
use Rattle.oe_rows.specs.declared.warehouses.Warehouse.{Warehouse}
use Rattle.oe_rows.specs.declared.districts.District.{District}
use Rattle.oe_rows.specs.declared.customers.Credit.{Credit}
use Rattle.oe_rows.specs.declared.customers.Credit.TheVariants.{Good, Bad}
use Rattle.oe_rows.specs.declared.customers.CustomerName.{CustomerName}
use Rattle.oe_rows.specs.declared.customers.Account.{Account}
use Rattle.oe_rows.specs.declared.customers.Customer.{Customer}
use Rattle.oe_rows.specs.declared.histories.History.{History}
use Rattle.oe_rows.specs.declared.orders.Order.{Order}
use Rattle.oe_rows.specs.declared.orders.OrderLine.{OrderLine}
use Rattle.oe_rows.specs.declared.items.Item.{Item}
use Rattle.oe_rows.specs.declared.items.Stock.{Stock}
use Rattle.oe_rows.specs.declared.before.AddressBefore.{AddressBefore}
use Rattle.oe_rows.specs.declared.before.WarehouseBefore.{WarehouseBefore}
use Rattle.oe_rows.specs.declared.before.DistrictBefore.{DistrictBefore}
use Rattle.oe_rows.specs.declared.before.CustomerNameBefore.{CustomerNameBefore}
use Rattle.oe_rows.specs.declared.before.AccountBefore.{AccountBefore}
use Rattle.oe_rows.specs.declared.before.CustomerBefore.{CustomerBefore}
use Rattle.oe_rows.specs.declared.before.OrderBefore.{OrderBefore}
use Rattle.oe_rows.specs.declared.before.OrderLineBefore.{OrderLineBefore}
use Rattle.oe_rows.specs.declared.before.StockBefore.{StockBefore}
use Rattle.oe_rows.specs.declared.rows.Row.{Row}
use Rattle.oe_rows.specs.declared.rows.Row.TheVariants as row
use Rattle.oe_rows.specs.declared.keys.Key.{Key}
use Rattle.oe_rows.specs.declared.keys.Key.TheVariants as key
use Rattle.oe_image.specs.Columns.{text, optional, flag, balance, credit, ten_texts}
use Rattle.oe_image.specs.Keys.{warehouse_key, district_key, customer_key, history_key, new_order_key, order_key}
use Rattle.oe_image.specs.Keys.{order_line_key, item_key, stock_key, key_image}
use Rattle.oe_image.specs.Rows.{address, warehouse, district, customer_name, account, customer, history, order}
use Rattle.oe_image.specs.Rows.{order_line, item, stock, row_image, IsRow}
use Rattle.oe_image.specs.Before.{mask, binary, image_where_there, kept_text, kept_number, address_columns}
use Rattle.oe_image.specs.Before.{name_columns}
use Rattle.oe_image.specs.Before.{account_columns, ten_columns, warehouse_bits, warehouse_columns, district_bits}
use Rattle.oe_image.specs.Before.{district_columns, customer_bits, customer_columns, order_bits, order_columns}
use Rattle.oe_image.specs.Before.{order_line_bits, order_line_columns, stock_bits, stock_columns, warehouse_before}
use Rattle.oe_image.specs.Before.{district_before, customer_before, order_before, order_line_before, stock_before}
use Rattle.oe_decode.specs.BeforeRanges.{IsWarehouseBefore, IsDistrictBefore, IsCustomerBefore, IsOrderBefore}
use Rattle.oe_decode.specs.BeforeRanges.{IsOrderLineBefore, IsStockBefore}
use Rattle.oe_model.specs.Changes as model
use Rattle.oe_model.specs.Changes.{Record, record_key}
use Rattle.oe_model.specs.Lengths.{text_length, optional_length, address_length, warehouse_length, district_length}
use Rattle.oe_model.specs.Lengths.{name_length, customer_length, history_length, order_length, order_line_length}
use Rattle.oe_model.specs.Lengths.{item_length, stock_length, row_length, key_length, before_length, kept_length}
use Rattle.oe_model.specs.Lengths.{record_length, column_length, texts_length, address_columns_length}
use Rattle.oe_model.specs.Lengths.{warehouse_columns_length, district_columns_length, name_columns_length}
use Rattle.oe_model.specs.Lengths.{account_columns_length, customer_columns_length, order_columns_length}
use Rattle.oe_model.specs.Lengths.{order_line_columns_length, stock_columns_length, columns_length}
use Rattle.oe_layout.specs.Links.{LinkNumbers, link_numbers, link_image}
use Rattle.oe_layout.specs.Kinds.{kind_numbers, kind_image, kind_of}
use Rattle.oe_layout.specs.Records.{before_image, key_and_before, contents, body_image, record_image, IsBefore}
use Rattle.oe_layout.specs.Records.{IsInRanges}
use Rattle.oe_layout.specs.declared.links.Previous.{Previous}
use Rattle.oe_layout.specs.declared.kinds.RecordKind.{RecordKind}

-- the bytes are so many
pub record IsLong (bytes : List ℕ) (n : ℕ) : Type 0 where
  pub is : length bytes ≡ n

pub joined_long : {xs ys : List ℕ} {m n : ℕ} → IsLong xs m → IsLong ys n → IsLong (xs ++ ys) (m + n)
joined_long {xs = xs} {ys = ys} a b = record { is = omega (arith, length-append xs ys, a.is, b.is) }

recast : {xs : List ℕ} {m n : ℕ} → IsLong xs m → m ≡ n → IsLong xs n
recast a e = record { is = a.is ∙ e }

pub number_long : (width n : ℕ) → IsLong (number width n) width
number_long width n = record { is = length-bytes_high_first width n }

text_long : (t : List ℕ) → IsLong (text t) (text_length t)
text_long t = joined_long (number_long 2 (length t)) (record { is = refl })

-- ---- columns

optional_long : {X : Type 0} (image : X → List ℕ) (width : ℕ) → ((x : X) → IsLong (image x) width) → (v : Option X)
    → IsLong (optional image v) (optional_length width v)
optional_long image width each None = number_long 1 0
optional_long image width each (Some x) = joined_long (number_long 1 1) (each x)

credit_long : (c : Credit) → IsLong (credit c) 4
credit_long Good = text_long (71 ∷ 67 ∷ [])
credit_long Bad = text_long (66 ∷ 67 ∷ [])

fixed_long : (t : List ℕ) → IsText 24 24 t → IsLong (text t) 26
fixed_long t h = recast (text_long t) (omega (arith, h.at_least, h.at_most))

ten_long : (ds : List (List ℕ)) → length ds ≡ 10 → All (IsText 24 24) ds → IsLong (ten_texts ds) (10 * (2 + 24))
unfolding ten_texts
ten_long ds e h =
    recast
    (joined_long (fixed_long (get_or ds 0 []) (h 0 [] (omega (arith, e))))
    (joined_long (fixed_long (get_or ds 1 []) (h 1 [] (omega (arith, e))))
    (joined_long (fixed_long (get_or ds 2 []) (h 2 [] (omega (arith, e))))
    (joined_long (fixed_long (get_or ds 3 []) (h 3 [] (omega (arith, e))))
    (joined_long (fixed_long (get_or ds 4 []) (h 4 [] (omega (arith, e))))
    (joined_long (fixed_long (get_or ds 5 []) (h 5 [] (omega (arith, e))))
    (joined_long (fixed_long (get_or ds 6 []) (h 6 [] (omega (arith, e))))
    (joined_long (fixed_long (get_or ds 7 []) (h 7 [] (omega (arith, e))))
    (joined_long (fixed_long (get_or ds 8 []) (h 8 [] (omega (arith, e))))
    (fixed_long (get_or ds 9 []) (h 9 [] (omega (arith, e)))))))))))))
    (omega arith)

-- ---- rows

address_long : (a : Address) → IsLong (address a) (address_length a)
unfolding address
address_long a =
    recast (joined_long (text_long a.street_1)
    (joined_long (text_long a.street_2)
    (joined_long (text_long a.city) (joined_long (text_long a.state) (text_long a.zip))))) (omega arith)

pub warehouse_long : (w : Warehouse) → IsLong (warehouse w) (warehouse_length w)
unfolding warehouse
warehouse_long w = recast
    (joined_long (text_long w.name)
    (joined_long (address_long w.address) (joined_long (number_long 2 w.tax) (number_long 8 w.ytd)))) (omega arith)

pub district_long : (d : District) → IsLong (district d) (district_length d)
unfolding district
district_long d =
    recast (joined_long (text_long d.name)
    (joined_long (address_long d.address)
    (joined_long (number_long 2 d.tax) (joined_long (number_long 8 d.ytd) (number_long 4 d.next_order))))) (omega
    arith)

name_long : (n : CustomerName) → IsLong (customer_name n) (name_length n)
unfolding customer_name
name_long n = recast (joined_long (text_long n.first) (joined_long (text_long n.middle) (text_long n.last)))
    (omega arith)

account_long : (a : Account) → IsLong (account a) 30
unfolding account
account_long a =
    joined_long (number_long 8 a.credit_limit)
    (joined_long (number_long 2 a.discount)
    (joined_long (number_long 8 (cast_unsigned w64 a.balance))
    (joined_long (number_long 8 a.ytd_payment)
    (joined_long (number_long 2 a.payment_count) (number_long 2 a.delivery_count)))))

pub customer_long : (c : Customer) → IsLong (customer c) (customer_length c)
unfolding customer
customer_long c =
    recast
    (joined_long (name_long c.name)
    (joined_long (address_long c.address)
    (joined_long (text_long c.phone)
    (joined_long (number_long 8 c.since)
    (joined_long (credit_long c.credit) (joined_long (account_long c.account) (text_long c.data)))))))
    (omega arith)

history_long : (h : History) → IsLong (history h) (history_length h)
unfolding history
history_long h =
    recast
    (joined_long (number_long 2 h.customer.customer)
    (joined_long (number_long 1 h.customer.district)
    (joined_long (number_long 2 h.customer.warehouse) (joined_long (number_long 1 h.district.district)
    (joined_long (number_long 2 h.district.warehouse)
    (joined_long (number_long 8 h.date) (joined_long (number_long 8 h.amount) (text_long h.data))))))))
    (omega arith)

pub order_long : (o : Order) → IsLong (order o) (order_length o)
unfolding order
order_long o =
    recast
    (joined_long (number_long 2 o.customer)
    (joined_long (number_long 8 o.entry)
    (joined_long (optional_long (λ c. number 1 c) 1 (λ c. number_long 1 c) o.carrier)
    (joined_long (number_long 1 o.line_count) (number_long 1 (if o.all_local then 1 else 0))))))
    (omega arith)

pub order_line_long : (l : OrderLine) → IsLong (order_line l) (order_line_length l)
unfolding order_line
order_line_long l =
    recast
    (joined_long (number_long 4 l.item)
    (joined_long (number_long 2 l.supply)
    (joined_long (optional_long (λ s. number 8 s) 8 (λ s. number_long 8 s) l.delivery)
    (joined_long (number_long 1 l.quantity) (joined_long (number_long 8 l.amount) (text_long l.dist_info))))))
    (omega arith)

item_long : (i : Item) → IsLong (item i) (item_length i)
unfolding item
item_long i = recast (joined_long (number_long 4 i.image)
    (joined_long (text_long i.name) (joined_long (number_long 8 i.price) (text_long i.data)))) (omega arith)

pub stock_long : (s : Stock) → IsStock s → IsLong (stock s) (stock_length s)
unfolding stock
stock_long s h =
    recast
    (joined_long (number_long 2 s.quantity)
    (joined_long (ten_long s.dist_info h.ten_infos h.dist_info)
    (joined_long (number_long 4 s.ytd)
    (joined_long (number_long 2 s.order_count) (joined_long (number_long 2 s.remote_count) (text_long s.data))))))
    (omega arith)

pub row_long : (r : Row) → IsRow r → IsLong (row_image r) (row_length r)
row_long (row.Warehouse r) h = warehouse_long r
row_long (row.District r) h = district_long r
row_long (row.Customer r) h = customer_long r
row_long (row.History r) h = history_long r
row_long (row.NewOrder r) h = record { is = refl }
row_long (row.Order r) h = order_long r
row_long (row.OrderLine r) h = order_line_long r
row_long (row.Item r) h = item_long r
row_long (row.Stock r) h = stock_long r h

-- ---- keys

pub key_long : (k : Key) → IsLong (key_image k) (key_length k)
unfolding warehouse_key district_key customer_key history_key new_order_key order_key order_line_key item_key stock_key
key_long (key.Warehouse k) = number_long 2 k.warehouse
key_long (key.District k) = joined_long (number_long 2 k.warehouse) (number_long 1 k.district)
key_long (key.Customer k) = joined_long (number_long 2 k.warehouse)
    (joined_long (number_long 1 k.district) (number_long 2 k.customer))
key_long (key.History k) = joined_long (number_long 2 k.terminal)
    (joined_long (number_long 4 k.number) (number_long 1 k.ordinal))
key_long (key.NewOrder k) = joined_long (number_long 2 k.warehouse)
    (joined_long (number_long 1 k.district) (number_long 4 k.order))
key_long (key.Order k) = joined_long (number_long 2 k.warehouse)
    (joined_long (number_long 1 k.district) (number_long 4 k.order))
key_long (key.OrderLine k) = joined_long (number_long 2 k.warehouse)
    (joined_long (number_long 1 k.district) (joined_long (number_long 4 k.order) (number_long 1 k.number)))
key_long (key.Item k) = number_long 4 k.item
key_long (key.Stock k) = joined_long (number_long 2 k.warehouse) (number_long 4 k.item)

-- ---- columns before an update

column_long : {X : Type 0} (image : X → List ℕ) (long : X → ℕ) → ((x : X) → IsLong (image x) (long x)) → (v : Option X)
    → IsLong (image_where_there image v) (column_length long v)
column_long image long each None = record { is = refl }
column_long image long each (Some x) = each x

kept_text_long : (v : Option (List ℕ)) → IsLong (kept_text v) (column_length text_length v)
kept_text_long v = column_long text text_length (λ t. text_long t) v

kept_number_long : (width : ℕ) (v : Option ℕ) → IsLong (kept_number width v) (column_length (λ _. width) v)
kept_number_long width v = column_long (number width) (λ _. width) (λ n. number_long width n) v

address_columns_long : (a : AddressBefore) → IsLong (address_columns a) (address_columns_length a)
unfolding address_columns
address_columns_long a =
    recast (joined_long (kept_text_long a.street_1)
    (joined_long (kept_text_long a.street_2)
    (joined_long (kept_text_long a.city) (joined_long (kept_text_long a.state) (kept_text_long a.zip))))) (omega arith)

warehouse_columns_long : (w : WarehouseBefore) → IsLong (warehouse_columns w) (warehouse_columns_length w)
unfolding warehouse_columns
warehouse_columns_long w = recast
    (joined_long (kept_text_long w.name)
    (joined_long (address_columns_long w.address) (joined_long (kept_number_long 2 w.tax) (kept_number_long 8 w.ytd))))
    (omega arith)

district_columns_long : (d : DistrictBefore) → IsLong (district_columns d) (district_columns_length d)
unfolding district_columns
district_columns_long d =
    recast (joined_long (kept_text_long d.name)
    (joined_long (address_columns_long d.address)
    (joined_long (kept_number_long 2 d.tax)
    (joined_long (kept_number_long 8 d.ytd) (kept_number_long 4 d.next_order))))) (omega arith)

name_columns_long : (n : CustomerNameBefore) → IsLong (name_columns n) (name_columns_length n)
unfolding name_columns
name_columns_long n = recast
    (joined_long (kept_text_long n.first) (joined_long (kept_text_long n.middle) (kept_text_long n.last))) (omega arith)

account_columns_long : (a : AccountBefore) → IsLong (account_columns a) (account_columns_length a)
unfolding account_columns
account_columns_long a =
    recast
    (joined_long (kept_number_long 8 a.credit_limit)
    (joined_long (kept_number_long 2 a.discount)
    (joined_long (column_long balance (λ _. 8) (λ z. number_long 8 (cast_unsigned w64 z)) a.balance)
    (joined_long (kept_number_long 8 a.ytd_payment)
    (joined_long (kept_number_long 2 a.payment_count) (kept_number_long 2 a.delivery_count))))))
    (omega arith)

customer_columns_long : (c : CustomerBefore) → IsLong (customer_columns c) (customer_columns_length c)
unfolding customer_columns
customer_columns_long c =
    recast
    (joined_long (name_columns_long c.name)
    (joined_long (address_columns_long c.address)
    (joined_long (kept_text_long c.phone)
    (joined_long (kept_number_long 8 c.since)
    (joined_long (column_long credit (λ _. 4) (λ x. credit_long x) c.credit)
    (joined_long (account_columns_long c.account) (kept_text_long c.data)))))))
    (omega arith)

order_columns_long : (o : OrderBefore) → IsLong (order_columns o) (order_columns_length o)
unfolding order_columns
order_columns_long o =
    recast
    (joined_long (kept_number_long 2 o.customer)
    (joined_long (kept_number_long 8 o.entry)
    (joined_long (column_long (optional (λ c. number 1 c)) (optional_length 1)
    (λ v. optional_long (λ c. number 1 c) 1 (λ c. number_long 1 c) v) o.carrier)
    (joined_long (kept_number_long 1 o.line_count)
    (column_long flag (λ _. 1) (λ b. number_long 1 (if b then 1 else 0)) o.all_local)))))
    (omega arith)

order_line_columns_long : (l : OrderLineBefore) → IsLong (order_line_columns l) (order_line_columns_length l)
unfolding order_line_columns
order_line_columns_long l =
    recast
    (joined_long (kept_number_long 4 l.item)
    (joined_long (kept_number_long 2 l.supply)
    (joined_long (column_long (optional (λ s. number 8 s)) (optional_length 8)
    (λ v. optional_long (λ s. number 8 s) 8 (λ s. number_long 8 s) v) l.delivery)
    (joined_long (kept_number_long 1 l.quantity)
    (joined_long (kept_number_long 8 l.amount) (kept_text_long l.dist_info))))))
    (omega arith)

-- each text that is there, of a list of ten
ten_columns_long : (ds : List (Option (List ℕ))) → length ds ≡ 10 → IsLong (ten_columns ds) (texts_length ds)
unfolding ten_columns
ten_columns_long (a ∷ b ∷ c ∷ d ∷ e ∷ f ∷ g ∷ h ∷ i ∷ j ∷ []) long =
    recast
    (joined_long (kept_text_long a)
    (joined_long (kept_text_long b)
    (joined_long (kept_text_long c)
    (joined_long (kept_text_long d)
    (joined_long (kept_text_long e)
    (joined_long (kept_text_long f)
    (joined_long (kept_text_long g)
    (joined_long (kept_text_long h) (joined_long (kept_text_long i) (kept_text_long j))))))))))
    (omega arith)
ten_columns_long _ long = absurd (omega arith)

stock_columns_long : (s : StockBefore) → length s.dist_info ≡ 10 → IsLong (stock_columns s) (stock_columns_length s)
unfolding stock_columns
stock_columns_long s ten =
    recast
    (joined_long (kept_number_long 2 s.quantity)
    (joined_long (ten_columns_long s.dist_info ten)
    (joined_long (kept_number_long 4 s.ytd)
    (joined_long (kept_number_long 2 s.order_count)
    (joined_long (kept_number_long 2 s.remote_count) (kept_text_long s.data))))))
    (omega arith)

-- ---- a mask, and the columns behind it

mask_long : (width : ℕ) (bits : List Bool) → IsLong (mask width bits) width
mask_long width bits = number_long width (binary bits * 2 ^ (8 * width - length bits))

pub changed_warehouse_long : (w : WarehouseBefore) → IsLong (warehouse_before w) (1 + warehouse_columns_length w)
changed_warehouse_long w = joined_long (mask_long 1 (warehouse_bits w)) (warehouse_columns_long w)

pub changed_district_long : (d : DistrictBefore) → IsLong (district_before d) (2 + district_columns_length d)
changed_district_long d = joined_long (mask_long 2 (district_bits d)) (district_columns_long d)

pub changed_customer_long : (c : CustomerBefore) → IsLong (customer_before c) (3 + customer_columns_length c)
changed_customer_long c = joined_long (mask_long 3 (customer_bits c)) (customer_columns_long c)

pub changed_order_long : (o : OrderBefore) → IsLong (order_before o) (1 + order_columns_length o)
changed_order_long o = joined_long (mask_long 1 (order_bits o)) (order_columns_long o)

pub changed_order_line_long : (l : OrderLineBefore)
    → IsLong (order_line_before l) (1 + order_line_columns_length l)
changed_order_line_long l = joined_long (mask_long 1 (order_line_bits l)) (order_line_columns_long l)

pub changed_stock_long : (s : StockBefore) → length s.dist_info ≡ 10
    → IsLong (stock_before s) (2 + stock_columns_length s)
changed_stock_long s ten = joined_long (mask_long 2 (stock_bits s)) (stock_columns_long s ten)

-- ---- records

-- what is there is so long, and what is not there has no length
abbrev IsLongBefore : Option (List ℕ) → ℕ → Type 0
IsLongBefore None n = n ≡ 0
IsLongBefore (Some bytes) n = IsLong bytes n

followed_long : (k : Key) (v : Option (List ℕ)) (n : ℕ) → IsLongBefore v n
    → IsLong (key_and_before (key_image k) v) (key_length k + n)
followed_long k None n h = recast (key_long k) (omega (arith, h))
followed_long k (Some bytes) n h = joined_long (key_long k) h

before_row_long : (v : Option Row) → IfSome v IsRow → IsLongBefore (option_map row_image v) (before_length v)
before_row_long None h = refl
before_row_long (Some r) h = row_long r h

before_columns_long : {C : Type 0} (image : C → List ℕ) (width : ℕ) (long : C → ℕ) (Fits : C → Type 0)
    → ((c : C) → Fits c → IsLong (image c) (width + long c)) → (v : Option C) → IfSome v Fits
    → IsLongBefore (option_map image v) (columns_length width long v)
before_columns_long image width long Fits each None h = refl
before_columns_long image width long Fits each (Some c) h = each c h

before_long : (b : Record) → IsBefore b → IsLongBefore (before_image b) (kept_length b)
before_long (model.InsertedHistory k v) h = before_row_long (option_map row.History v) h
before_long (model.InsertedNewOrder k v) h = before_row_long (option_map row.NewOrder v) h
before_long (model.InsertedOrder k v) h = before_row_long (option_map row.Order v) h
before_long (model.InsertedOrderLine k v) h = before_row_long (option_map row.OrderLine v) h
before_long (model.UpdatedWarehouse k v) h = before_row_long (option_map row.Warehouse v) h
before_long (model.UpdatedDistrict k v) h = before_row_long (option_map row.District v) h
before_long (model.UpdatedCustomer k v) h = before_row_long (option_map row.Customer v) h
before_long (model.UpdatedOrder k v) h = before_row_long (option_map row.Order v) h
before_long (model.UpdatedOrderLine k v) h = before_row_long (option_map row.OrderLine v) h
before_long (model.UpdatedStock k v) h = before_row_long (option_map row.Stock v) h
before_long (model.DeletedNewOrder k v) h = before_row_long (option_map row.NewOrder v) h
before_long (model.ChangedWarehouse k v) h =
    before_columns_long warehouse_before 1 warehouse_columns_length IsWarehouseBefore
    (λ c f. changed_warehouse_long c) v h
before_long (model.ChangedDistrict k v) h =
    before_columns_long district_before 2 district_columns_length IsDistrictBefore
    (λ c f. changed_district_long c) v h
before_long (model.ChangedCustomer k v) h =
    before_columns_long customer_before 3 customer_columns_length IsCustomerBefore
    (λ c f. changed_customer_long c) v h
before_long (model.ChangedOrder k v) h =
    before_columns_long order_before 1 order_columns_length IsOrderBefore
    (λ c f. changed_order_long c) v h
before_long (model.ChangedOrderLine k v) h =
    before_columns_long order_line_before 1 order_line_columns_length IsOrderLineBefore
    (λ c f. changed_order_line_long c) v h
before_long (model.ChangedStock k v) h =
    before_columns_long stock_before 2 stock_columns_length IsStockBefore
    (λ c f. changed_stock_long c f.ten_infos) v h

contents_long : (b : Record) → IsInRanges b → IsLong (contents b) (key_length (record_key b) + kept_length b)
contents_long b h = followed_long (record_key b) (before_image b) (kept_length b) (before_long b h.1)

pub kind_long : (k : RecordKind) → IsLong (kind_image k) 2
kind_long k = joined_long (number_long 1 (kind_numbers k).0) (number_long 1 (kind_numbers k).1)

pub link_long : (n : LinkNumbers) → IsLong (link_image n) 12
link_long n = joined_long (number_long 2 n.0) (joined_long (number_long 2 n.1.0) (number_long 8 n.1.1))

pub body_long : (p : Previous) (b : Record) → IsInRanges b
    → IsLong (body_image p b) (14 + (key_length (record_key b) + kept_length b))
body_long p b h = recast
    (joined_long (kind_long (kind_of b)) (joined_long (link_long (link_numbers p)) (contents_long b h))) (omega arith)

pub record_long : (p : Previous) (b : Record) → IsInRanges b → IsLong (record_image p b) (record_length b)
record_long p b h = recast
    (joined_long (number_long 2 (record_length b)) (joined_long (body_long p b h) (number_long 2 (record_length b))))
    (omega arith)

-- ---- a key's length, and that of what stands behind it

pub key_alone : (k : Key) (a : ℕ) → a ≡ length (key_image k) → a + 18 ≡ 18 + key_length k + 0
key_alone k a e = omega (arith, e, (key_long k).is)

pub key_and_row : (k : Key) (r : Row) (a b : ℕ) → IsLong (row_image r) (row_length r) → a ≡ length (key_image k)
    → b ≡ length (row_image r) → a + b + 18 ≡ 18 + key_length k + row_length r
key_and_row k r a b h e f = omega (arith, e, f, (key_long k).is, h.is)

pub key_and_columns : (k : Key) (columns : List ℕ) (n a b : ℕ) → IsLong columns n → a ≡ length (key_image k)
    → b ≡ length columns → a + b + 18 ≡ 18 + key_length k + n
key_and_columns k columns n a b h e f = omega (arith, e, f, (key_long k).is, h.is)
