-- Books that are closed: settled for the checks, or lacking what no check can do without.
use Rattle.std.specs.Prelude.{◌≡◌, ◌≢◌, ℕ, ◌<◌, ◌≤◌, ◌-◌, ◌^◌, nat_lt, true, List, [], ◌∷◌}
use Rattle.std.specs.Prelude.{Option, Some, None, unwrap_or, MatchOption}
use Rattle.std.specs.Prelude.{if◌then◌else◌}
use Rattle.std.specs.List.{fold}
use Rattle.std.specs.Option.{option_or}
use Rattle.oe_facts.specs.declared.tables.Table.{Table}
use Rattle.oe_facts.specs.declared.tables.Table.TheVariants as table
use Rattle.oe_facts.specs.declared.facts.CustomerFact.{CustomerFact}
use Rattle.oe_tally.specs.Tallies.{IsSettled}
use Rattle.oe_ledgers.specs.Keys.{customer_cmp}
use Rattle.oe_ledgers.specs.Figures.{AreFew}
use Rattle.oe_ledgers.specs.Settling.{AreSettledWarehouses, AreSettledDistricts, AreSettledCustomers}
use Rattle.oe_ledgers.specs.Settling.{AreSettledHistories, AreSettledNewOrders, AreSettledOrders}
use Rattle.oe_ledgers.specs.Settling.{AreSettledOrderLines, AreSettledItems, AreSettledStocks}
use Rattle.oe_line_numbers.specs.Blocks.{AreSettledLineNumbers}
use Rattle.oe_checks.specs.Deliveries.{HasDeliveries}
use Rattle.oe_books.specs.declared.books.Books.{Books}
use Rattle.oe_books.specs.declared.closing.Settled.{Settled}
use Rattle.oe_books.specs.declared.closing.Closed.{Closed}
use Rattle.oe_books.specs.declared.closing.Closed.TheVariants as closed
use Rattle.oe_books.specs.declared.closing.Lack.{Lack}
use Rattle.oe_books.specs.declared.closing.Lack.TheVariants as lack
use Rattle.oe_books.specs.Facts.{Facts, rows_of, stands_apart}
use Rattle.oe_books.specs.Keeping.{KeepsRows, IsOfFirstDistrict, AreLate}

abbrev pub count_of : Books → Table → ℕ
count_of b table.Warehouse = b.warehouses.count
count_of b table.District = b.districts.count
count_of b table.Customer = b.customers.count
count_of b table.History = b.histories.count
count_of b table.NewOrder = b.new_orders.count
count_of b table.Order = b.orders.count
count_of b table.OrderLine = b.lines.count
count_of b table.Item = b.items.count
count_of b table.Stock = b.stocks.count

-- both have rows of a table that stands apart
abbrev pub HaveBoth : Books → Books → Type 0
HaveBoth a b = (t : Table) × (stands_apart t ≡ true) × (0 < count_of a t) × (0 < count_of b t)

abbrev pub tables : List Table
tables =
    table.Warehouse ∷ table.District ∷ table.Customer ∷ table.History ∷ table.NewOrder ∷ table.Order ∷ table.OrderLine
    ∷ table.Item ∷ table.Stock ∷ []

-- what a table lacks that has no row: none has to wait for its delivery, but each other table has rows
-- (clause 4.3.3.1)
abbrev pub without_rows : Table → Option Lack
without_rows table.Warehouse = Some (lack.Rows table.Warehouse)
without_rows table.District = Some (lack.Rows table.District)
without_rows table.Customer = Some (lack.Rows table.Customer)
without_rows table.History = Some (lack.Rows table.History)
without_rows table.NewOrder = None
without_rows table.Order = Some (lack.Rows table.Order)
without_rows table.OrderLine = Some (lack.Rows table.OrderLine)
without_rows table.Item = Some (lack.Rows table.Item)
without_rows table.Stock = Some (lack.Rows table.Stock)

-- what a table lacks that has this number of rows: room for more than 2^32 - 1, or a row
abbrev pub lack_of : Table → ℕ → Option Lack
lack_of t n =
    if nat_lt (2 ^ 32 - 1) n then Some (lack.Room t) else if nat_lt 0 n then None else without_rows t

abbrev pub lack_at : Books → Table → Option Lack
lack_at b t = lack_of t (count_of b t)

-- what the first table lacks that lacks something
abbrev pub first_lack : Books → Option Lack
first_lack b = fold (λ found t. option_or found (lack_at b t)) None tables

-- each table has fewer than 2^32 rows
pub record AreFewEach (t : Facts) : Type 0 where
  pub warehouses : AreFew t.warehouses
  pub districts : AreFew t.districts
  pub customers : AreFew t.customers
  pub histories : AreFew t.histories
  pub new_orders : AreFew t.new_orders
  pub orders : AreFew t.orders
  pub lines : AreFew t.lines
  pub items : AreFew t.items
  pub stocks : AreFew t.stocks

-- all sums stand in the order of their keys
pub record AreSettledBooks (b : Books) : Type 0 where
  pub warehouses : AreSettledWarehouses b.warehouses.kept
  pub districts : AreSettledDistricts b.districts.kept
  pub customers : AreSettledCustomers b.customers.kept
  pub histories : AreSettledHistories b.histories.kept
  pub new_orders : AreSettledNewOrders b.new_orders.kept
  pub orders : AreSettledOrders b.orders.kept
  pub lines : AreSettledOrderLines b.lines.kept.sums
  pub numbers : AreSettledLineNumbers b.lines.kept.numbers
  pub items : AreSettledItems b.items.kept
  pub stocks : AreSettledStocks b.stocks.kept

pub record AreSettled (s : Settled) : Type 0 where
  pub books : AreSettledBooks s.books
  pub delivered : IsSettled customer_cmp s.delivered

-- What is settled is of these facts. The population had in each district as many orders as were given, or else as many
-- as the first district has customers (clause 4.3.3.1).
pub record IsReady (given : Option ℕ) (t : Facts) (s : Settled) : Type 0 where
  pub books : KeepsRows t s.books
  pub few : AreFewEach t
  pub delivered : HasDeliveries t.orders t.lines s.delivered
  pub each : IsOfFirstDistrict t.customers s.each
  pub initial : s.books.orders.kept.initial ≡ unwrap_or given s.each

-- fewer customers came early, and the first district of those has another number than the first of all
abbrev pub HasOtherNumber : List CustomerFact → List CustomerFact → Type 0
HasOtherNumber customers early =
    AreLate early customers
    × ((before : ℕ) × (each : ℕ) × IsOfFirstDistrict early before × IsOfFirstDistrict customers each × (before ≢ each))

-- What books of these facts lack: the number of orders that the population had in each district, where none was
-- given, a CUSTOMER row came behind the first ORDER or ORDER-LINE row, and the first district had another number of
-- customers before.
abbrev pub IsLacking : Option ℕ → Facts → Lack → Type 0
IsLacking given t (lack.Rows name) = (rows_of t name ≡ 0) × (without_rows name ≡ Some (lack.Rows name))
IsLacking given t (lack.Room name) = 2 ^ 32 ≤ rows_of t name
IsLacking given t lack.Initial = (given ≡ None) × MatchOption t.early ⊥ (HasOtherNumber t.customers)

-- the number of customers of the first district, which is the number of first orders too; none where that is
-- lacking
abbrev pub IsSized : Option ℕ → Facts → ℕ → Option ℕ → Type 0
IsSized given t initial each =
    MatchOption each (IsLacking given t lack.Initial)
    (λ n. IsOfFirstDistrict t.customers n × (initial ≡ unwrap_or given n))

-- what comes of books of these facts
abbrev pub IsClosed : Option ℕ → Facts → Closed → Type 0
IsClosed given t (closed.Settled s) = IsReady given t s × AreSettled s
IsClosed given t (closed.Lacking l) = IsLacking given t l
