-- The images of rows: the columns from the left but for the key's (clause 1.3.1). Rates, counts and numbers of
-- warehouses and customers have 2 bytes; numbers of districts, carriers and lines 1; greater numbers 4; money and
-- stamps 8.
use Rattle.std.specs.Prelude.{ℕ, List, [], ◌++◌, ⊤}
use Rattle.oe_extent.specs.Images.{number}
use Rattle.oe_rows.specs.Warehouse.{IsWarehouse}
use Rattle.oe_rows.specs.District.{IsDistrict}
use Rattle.oe_rows.specs.Customer.{IsCustomer}
use Rattle.oe_rows.specs.History.{IsHistory}
use Rattle.oe_rows.specs.Order.{IsOrder, IsOrderLine}
use Rattle.oe_rows.specs.Item.{IsItem, IsStock}
use Rattle.oe_rows.specs.declared.warehouses.Address.{Address}
use Rattle.oe_rows.specs.declared.warehouses.Warehouse.{Warehouse}
use Rattle.oe_rows.specs.declared.districts.District.{District}
use Rattle.oe_rows.specs.declared.customers.CustomerName.{CustomerName}
use Rattle.oe_rows.specs.declared.customers.Account.{Account}
use Rattle.oe_rows.specs.declared.customers.Customer.{Customer}
use Rattle.oe_rows.specs.declared.histories.History.{History}
use Rattle.oe_rows.specs.declared.orders.NewOrder.{NewOrder}
use Rattle.oe_rows.specs.declared.orders.Order.{Order}
use Rattle.oe_rows.specs.declared.orders.OrderLine.{OrderLine}
use Rattle.oe_rows.specs.declared.items.Item.{Item}
use Rattle.oe_rows.specs.declared.items.Stock.{Stock}
use Rattle.oe_rows.specs.declared.rows.Row.{Row}
use Rattle.oe_rows.specs.declared.rows.Row.TheVariants as row
use Rattle.oe_rows.specs.declared.keys.Key.{Key}
use Rattle.oe_image.specs.Columns.{text, optional, flag, balance, credit, ten_texts}
use Rattle.oe_image.specs.Keys.{key_image}

unfoldable pub address : Address → List ℕ
address a = text a.street_1 ++ (text a.street_2 ++ (text a.city ++ (text a.state ++ text a.zip)))

unfoldable pub warehouse : Warehouse → List ℕ
warehouse w = text w.name ++ (address w.address ++ (number 2 w.tax ++ number 8 w.ytd))

unfoldable pub district : District → List ℕ
district d =
    text d.name ++
    (address d.address ++ (number 2 d.tax ++ (number 8 d.ytd ++ number 4 d.next_order)))

unfoldable pub customer_name : CustomerName → List ℕ
customer_name n = text n.first ++ (text n.middle ++ text n.last)

unfoldable pub account : Account → List ℕ
account a =
    number 8 a.credit_limit ++ (number 2 a.discount ++ (balance a.balance
    ++ (number 8 a.ytd_payment ++ (number 2 a.payment_count ++ number 2 a.delivery_count))))

unfoldable pub customer : Customer → List ℕ
customer c =
    customer_name c.name ++ (address c.address ++ (text c.phone
    ++ (number 8 c.since ++ (credit c.credit ++ (account c.account ++ text c.data)))))

unfoldable pub history : History → List ℕ
history h =
    number 2 h.customer.customer ++ (number 1 h.customer.district
    ++ (number 2 h.customer.warehouse ++ (number 1 h.district.district
    ++ (number 2 h.district.warehouse ++ (number 8 h.date ++ (number 8 h.amount ++ text h.data))))))

-- the key has all columns
abbrev pub new_order : NewOrder → List ℕ
new_order o = []

unfoldable pub order : Order → List ℕ
order o =
    number 2 o.customer ++ (number 8 o.entry
    ++ (optional (λ c. number 1 c) o.carrier ++ (number 1 o.line_count ++ flag o.all_local)))

unfoldable pub order_line : OrderLine → List ℕ
order_line l =
    number 4 l.item ++ (number 2 l.supply ++ (optional (λ s. number 8 s) l.delivery
    ++ (number 1 l.quantity ++ (number 8 l.amount ++ text l.dist_info))))

unfoldable pub item : Item → List ℕ
item i = number 4 i.image ++ (text i.name ++ (number 8 i.price ++ text i.data))

unfoldable pub stock : Stock → List ℕ
stock s =
    number 2 s.quantity ++ (ten_texts s.dist_info
    ++ (number 4 s.ytd ++ (number 2 s.order_count ++ (number 2 s.remote_count ++ text s.data))))

-- the image of a row
abbrev pub row_image : Row → List ℕ
row_image (row.Warehouse r) = warehouse r
row_image (row.District r) = district r
row_image (row.Customer r) = customer r
row_image (row.History r) = history r
row_image (row.NewOrder r) = new_order r
row_image (row.Order r) = order r
row_image (row.OrderLine r) = order_line r
row_image (row.Item r) = item r
row_image (row.Stock r) = stock r

-- the image of a row with its key
abbrev pub image_of : Key → Row → List ℕ
image_of k r = key_image k ++ row_image r

-- each column is in its range
abbrev pub IsRow : Row → Type 0
IsRow (row.Warehouse r) = IsWarehouse r
IsRow (row.District r) = IsDistrict r
IsRow (row.Customer r) = IsCustomer r
IsRow (row.History r) = IsHistory r
IsRow (row.NewOrder r) = ⊤
IsRow (row.Order r) = IsOrder r
IsRow (row.OrderLine r) = IsOrderLine r
IsRow (row.Item r) = IsItem r
IsRow (row.Stock r) = IsStock r
