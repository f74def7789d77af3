-- The images of the columns that an update changed: a mask, with a bit for each column of the row but the key's, which
-- says which of them follow; and these, from the left.
use Rattle.std.specs.Prelude.{ℕ, ◌+◌, ◌-◌, ◌*◌, ◌^◌, Bool, cond, is_some, List, [], ◌∷◌, ◌++◌, get_or, length, Option}
use Rattle.std.specs.Prelude.{None, Some}
use Rattle.oe_extent.specs.Images.{number}
use Rattle.oe_rows.specs.declared.before.AddressBefore.{AddressBefore}
use Rattle.oe_rows.specs.declared.before.WarehouseBefore.{WarehouseBefore}
use Rattle.oe_rows.specs.declared.before.DistrictBefore.{DistrictBefore}
use Rattle.oe_rows.specs.declared.before.CustomerNameBefore.{CustomerNameBefore}
use Rattle.oe_rows.specs.declared.before.AccountBefore.{AccountBefore}
use Rattle.oe_rows.specs.declared.before.CustomerBefore.{CustomerBefore}
use Rattle.oe_rows.specs.declared.before.OrderBefore.{OrderBefore}
use Rattle.oe_rows.specs.declared.before.OrderLineBefore.{OrderLineBefore}
use Rattle.oe_rows.specs.declared.before.StockBefore.{StockBefore}
use Rattle.oe_image.specs.Columns.{text, optional, flag, balance, credit}

-- the number that these binary digits are, the first the most significant
abbrev pub binary : List Bool → ℕ
binary [] = 0
binary (b ∷ bs) = cond b (2 ^ length bs) 0 + binary bs

-- in `width` bytes: the first bit is the most significant of the first byte, and spare bits are 0
abbrev pub mask : ℕ → List Bool → List ℕ
mask width bits = number width (binary bits * 2 ^ (8 * width - length bits))

-- the column's image, if the column is there
abbrev pub image_where_there : {X : Type 0} → (X → List ℕ) → Option X → List ℕ
image_where_there image None = []
image_where_there image (Some x) = image x

abbrev pub kept_text : Option (List ℕ) → List ℕ
kept_text = image_where_there text

abbrev pub kept_number : ℕ → Option ℕ → List ℕ
kept_number width = image_where_there (number width)

-- which columns are there
abbrev pub address_bits : AddressBefore → List Bool
address_bits a =
    is_some a.street_1 ∷ is_some a.street_2 ∷ is_some a.city ∷ is_some a.state ∷ is_some a.zip ∷ []

unfoldable pub address_columns : AddressBefore → List ℕ
address_columns a =
    kept_text a.street_1 ++ (kept_text a.street_2 ++ (kept_text a.city ++ (kept_text a.state ++ kept_text a.zip)))

-- W_NAME, the address, W_TAX, W_YTD
abbrev pub warehouse_bits : WarehouseBefore → List Bool
warehouse_bits w = is_some w.name ∷ address_bits w.address ++ is_some w.tax ∷ is_some w.ytd ∷ []

unfoldable pub warehouse_columns : WarehouseBefore → List ℕ
warehouse_columns w =
    kept_text w.name ++ (address_columns w.address ++ (kept_number 2 w.tax ++ kept_number 8 w.ytd))

abbrev pub district_bits : DistrictBefore → List Bool
district_bits d =
    is_some d.name ∷ address_bits d.address ++ is_some d.tax ∷ is_some d.ytd ∷ is_some d.next_order ∷ []

unfoldable pub district_columns : DistrictBefore → List ℕ
district_columns d =
    kept_text d.name ++ (address_columns d.address
    ++ (kept_number 2 d.tax ++ (kept_number 8 d.ytd ++ kept_number 4 d.next_order)))

abbrev pub name_bits : CustomerNameBefore → List Bool
name_bits n = is_some n.first ∷ is_some n.middle ∷ is_some n.last ∷ []

unfoldable pub name_columns : CustomerNameBefore → List ℕ
name_columns n = kept_text n.first ++ (kept_text n.middle ++ kept_text n.last)

abbrev pub account_bits : AccountBefore → List Bool
account_bits a =
    is_some a.credit_limit ∷ is_some a.discount ∷ is_some a.balance ∷ is_some a.ytd_payment ∷ is_some a.payment_count
    ∷ is_some a.delivery_count ∷ []

unfoldable pub account_columns : AccountBefore → List ℕ
account_columns a =
    kept_number 8 a.credit_limit ++ (kept_number 2 a.discount ++ (image_where_there balance a.balance
    ++ (kept_number 8 a.ytd_payment ++ (kept_number 2 a.payment_count ++ kept_number 2 a.delivery_count))))

abbrev pub customer_bits : CustomerBefore → List Bool
customer_bits c =
    name_bits c.name ++ address_bits c.address ++ is_some c.phone ∷ is_some c.since ∷ is_some c.credit
    ∷ account_bits c.account ++ is_some c.data ∷ []

unfoldable pub customer_columns : CustomerBefore → List ℕ
customer_columns c =
    name_columns c.name ++ (address_columns c.address ++ (kept_text c.phone
    ++ (kept_number 8 c.since ++ (image_where_there credit c.credit
    ++ (account_columns c.account ++ kept_text c.data)))))

abbrev pub order_bits : OrderBefore → List Bool
order_bits o =
    is_some o.customer ∷ is_some o.entry ∷ is_some o.carrier ∷ is_some o.line_count ∷ is_some o.all_local ∷ []

unfoldable pub order_columns : OrderBefore → List ℕ
order_columns o =
    kept_number 2 o.customer ++ (kept_number 8 o.entry
    ++ (image_where_there (optional (λ c. number 1 c)) o.carrier
    ++ (kept_number 1 o.line_count ++ image_where_there flag o.all_local)))

abbrev pub order_line_bits : OrderLineBefore → List Bool
order_line_bits l =
    is_some l.item ∷ is_some l.supply ∷ is_some l.delivery ∷ is_some l.quantity ∷ is_some l.amount
    ∷ is_some l.dist_info ∷ []

unfoldable pub order_line_columns : OrderLineBefore → List ℕ
order_line_columns l =
    kept_number 4 l.item ++ (kept_number 2 l.supply ++ (image_where_there (optional (λ s. number 8 s)) l.delivery
    ++ (kept_number 1 l.quantity ++ (kept_number 8 l.amount ++ kept_text l.dist_info))))

-- S_DIST_01 to S_DIST_10
abbrev pub ten_bits : List (Option (List ℕ)) → List Bool
ten_bits ds =
    is_some (get_or ds 0 None) ∷ is_some (get_or ds 1 None) ∷ is_some (get_or ds 2 None) ∷ is_some (get_or ds 3 None)
    ∷ is_some (get_or ds 4 None) ∷ is_some (get_or ds 5 None) ∷ is_some (get_or ds 6 None) ∷ is_some (get_or ds 7 None)
    ∷ is_some (get_or ds 8 None) ∷ is_some (get_or ds 9 None) ∷ []

unfoldable pub ten_columns : List (Option (List ℕ)) → List ℕ
ten_columns ds =
    kept_text (get_or ds 0 None) ++ (kept_text (get_or ds 1 None)
    ++ (kept_text (get_or ds 2 None) ++ (kept_text (get_or ds 3 None) ++ (kept_text (get_or ds 4 None)
    ++ (kept_text (get_or ds 5 None) ++ (kept_text (get_or ds 6 None)
    ++ (kept_text (get_or ds 7 None) ++ (kept_text (get_or ds 8 None) ++ kept_text (get_or ds 9 None)))))))))

abbrev pub stock_bits : StockBefore → List Bool
stock_bits s =
    is_some s.quantity ∷ ten_bits s.dist_info ++ is_some s.ytd ∷ is_some s.order_count ∷ is_some s.remote_count
    ∷ is_some s.data ∷ []

unfoldable pub stock_columns : StockBefore → List ℕ
stock_columns s =
    kept_number 2 s.quantity ++ (ten_columns s.dist_info
    ++ (kept_number 4 s.ytd ++ (kept_number 2 s.order_count ++ (kept_number 2 s.remote_count ++ kept_text s.data))))

-- the mask, and the columns that it says
abbrev pub warehouse_before : WarehouseBefore → List ℕ
warehouse_before w = mask 1 (warehouse_bits w) ++ warehouse_columns w

abbrev pub district_before : DistrictBefore → List ℕ
district_before d = mask 2 (district_bits d) ++ district_columns d

abbrev pub customer_before : CustomerBefore → List ℕ
customer_before c = mask 3 (customer_bits c) ++ customer_columns c

abbrev pub order_before : OrderBefore → List ℕ
order_before o = mask 1 (order_bits o) ++ order_columns o

abbrev pub order_line_before : OrderLineBefore → List ℕ
order_line_before l = mask 1 (order_line_bits l) ++ order_line_columns l

abbrev pub stock_before : StockBefore → List ℕ
stock_before s = mask 2 (stock_bits s) ++ stock_columns s
