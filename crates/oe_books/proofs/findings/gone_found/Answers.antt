use Rattle.std.specs.Prelude.{nat_eq}
use Rattle.std.specs.Ordering.{nat_cmp}
use Rattle.oe_ledgers.specs.Keys.{customer_cmp, district_cmp, same_customer, same_district, same_stock, stock_cmp}
use Rattle.oe_earlier.specs.Changes.{loss_apart}
use Rattle.oe_books.proofs.findings.gone_found.Goals as goal

pub returns-in-Warehouses : goal.returns-in-Warehouses
returns-in-Warehouses c b n k =
    rw c.in-Warehouses.is (c.listed.ensures nat_cmp nat_eq
    (loss_apart nat_eq b.warehouses n.warehouses)
    (c.gone.ensures b.warehouses n.warehouses k.before.warehouses k.now.warehouses))

pub returns-in-Districts : goal.returns-in-Districts
returns-in-Districts c b n k =
    rw c.in-Districts.is (c.listed-in-Districts.ensures district_cmp same_district
    (loss_apart same_district b.districts n.districts)
    (c.gone-in-Districts.ensures b.districts n.districts k.before.districts k.now.districts))

pub returns-in-Customers : goal.returns-in-Customers
returns-in-Customers c b n k =
    rw c.in-Customers.is (c.listed-in-Customers.ensures customer_cmp same_customer
    (loss_apart same_customer b.customers n.customers)
    (c.gone-in-Customers.ensures b.customers n.customers k.before.customers k.now.customers))

pub returns-in-Items : goal.returns-in-Items
returns-in-Items c b n k =
    rw c.in-Items.is (c.listed-in-Items.ensures nat_cmp nat_eq
    (loss_apart nat_eq b.items n.items)
    (c.gone-in-Items.ensures b.items n.items k.before.items k.now.items))

pub returns-in-Stocks : goal.returns-in-Stocks
returns-in-Stocks c b n k =
    rw c.in-Stocks.is (c.listed-in-Stocks.ensures stock_cmp same_stock
    (loss_apart same_stock b.stocks n.stocks)
    (c.gone-in-Stocks.ensures b.stocks n.stocks k.before.stocks k.now.stocks))
