-- What is kept of the facts of nine tables.
use Rattle.std.specs.Prelude.{◌≡◌, ℕ, ◌<◌, ◌-◌, ◌^◌, min, List, [], length, Option, Some, None, unwrap_or}
use Rattle.std.specs.Prelude.{MatchOption, true}
use Rattle.oe_facts.specs.declared.facts.CustomerFact.{CustomerFact}
use Rattle.oe_facts.specs.declared.facts.DistrictFact.{DistrictFact}
use Rattle.oe_facts.specs.declared.facts.HistoryFact.{HistoryFact}
use Rattle.oe_facts.specs.declared.facts.OrderFact.{OrderFact}
use Rattle.oe_facts.specs.declared.facts.OrderLineFact.{OrderLineFact}
use Rattle.oe_ledgers.specs.declared.districts.Districts.{Districts}
use Rattle.oe_ledgers.specs.declared.histories.Histories.{Histories}
use Rattle.oe_ledgers.specs.declared.orders.Orders.{Orders}
use Rattle.oe_ledgers.specs.Keeping.{KeepsWarehouses, KeepsDistricts, KeepsCustomers, KeepsHistories, KeepsNewOrders}
use Rattle.oe_ledgers.specs.Keeping.{KeepsOrders, KeepsOrderLines, KeepsItems, KeepsStocks}
use Rattle.oe_ledgers.specs.Figures.{AreFew, AreAmounts, AreNumbers}
use Rattle.oe_line_numbers.specs.Blocks.{KeepsLineNumbers}
use Rattle.oe_books.specs.declared.rows.Rows.{Rows}
use Rattle.oe_books.specs.declared.rows.Lines.{Lines}
use Rattle.oe_checks.specs.Sizes.{IsOfFirst}
use Rattle.oe_books.specs.declared.books.Books.{Books}
use Rattle.oe_books.specs.declared.books.Initial.{Initial}
use Rattle.oe_books.specs.declared.books.Initial.TheVariants as initial
use Rattle.oe_books.specs.Facts.{Facts}

-- a number, as 64 bits hold it
abbrev pub in_64_bits : ℕ → ℕ
in_64_bits n = min n (2 ^ 64 - 1)

-- a table's ledger is of these facts, and counts them
pub record IsOf {F L : Type 0} (IsKept : List F → L → Type 0) (facts : List F) (rows : Rows L) : Type 0 where
  pub kept : IsKept facts rows.kept
  pub counted : rows.count ≡ in_64_bits (length facts)

-- what is kept of DISTRICT rows, whose D_YTD 64 bits hold, and the like of other tables
pub record BookDistricts (facts : List DistrictFact) (kept : Districts) : Type 0 where
  pub sums : KeepsDistricts facts kept
  pub amounts : AreAmounts (λ (f : DistrictFact). f.ytd) facts

pub record BookHistories (facts : List HistoryFact) (kept : Histories) : Type 0 where
  pub sums : KeepsHistories facts kept
  pub amounts : AreAmounts (λ (f : HistoryFact). f.amount) facts

pub record BookOrders (facts : List OrderFact) (kept : Orders) : Type 0 where
  pub sums : KeepsOrders facts kept
  pub counts : AreNumbers (λ (f : OrderFact). f.line_count) facts

pub record BookLines (facts : List OrderLineFact) (kept : Lines) : Type 0 where
  pub sums : KeepsOrderLines facts kept.sums
  pub numbers : KeepsLineNumbers facts kept.numbers
  pub amounts : AreAmounts (λ (f : OrderLineFact). f.amount) facts
  pub quantities : AreNumbers (λ (f : OrderLineFact). f.quantity) facts

-- the number of customers of the first district that has one; 0 where none has
abbrev pub IsOfFirstDistrict : List CustomerFact → ℕ → Type 0
IsOfFirstDistrict customers n = (number : Option ℕ) × IsOfFirst customers number × (n ≡ unwrap_or number 0)

-- a CUSTOMER row came behind the first ORDER or ORDER-LINE row
abbrev pub AreLate : List CustomerFact → List CustomerFact → Type 0
AreLate early customers = length early < length customers

-- How many orders of each district the population had (clause 4.3.3.1): as many as were given, or else as many as the
-- first district with customers had of them when the first ORDER or ORDER-LINE row came.
abbrev pub IsInitial : Option ℕ → Facts → Initial → ℕ → Type 0
IsInitial given t initial.Given n = given ≡ Some n
IsInitial given t initial.Open n = (given ≡ None) × (t.early ≡ None) × (t.orders ≡ []) × (t.lines ≡ [])
IsInitial given t initial.Counted n =
    (given ≡ None) × (t.early ≡ Some t.customers) × (AreFew t.customers → IsOfFirstDistrict t.customers n)
IsInitial given t initial.Late n =
    (given ≡ None) × MatchOption t.early ⊥
    (λ early. AreLate early t.customers × (AreFew t.customers → IsOfFirstDistrict early n))

-- The ledgers are of these facts, and two of them have the same number of first orders.
pub record KeepsRows (t : Facts) (b : Books) : Type 0 where
  pub warehouses : IsOf KeepsWarehouses t.warehouses b.warehouses
  pub districts : IsOf BookDistricts t.districts b.districts
  pub customers : IsOf KeepsCustomers t.customers b.customers
  pub histories : IsOf BookHistories t.histories b.histories
  pub new_orders : IsOf KeepsNewOrders t.new_orders b.new_orders
  pub orders : IsOf BookOrders t.orders b.orders
  pub lines : IsOf BookLines t.lines b.lines
  pub items : IsOf KeepsItems t.items b.items
  pub stocks : IsOf KeepsStocks t.stocks b.stocks
  pub initial : b.orders.kept.initial ≡ b.lines.kept.sums.initial

-- the books are of these facts; `given` is the number of first orders that the caller gave
pub record Keeps (given : Option ℕ) (t : Facts) (b : Books) : Type 0 where
  pub rows : KeepsRows t b
  pub initial : IsInitial given t b.initial b.orders.kept.initial

-- memory was refused while a row was taken, which may be in part of the sums
abbrev pub IsLost : Books → Type 0
IsLost b = b.is_lost ≡ true

-- behind a further CUSTOMER row
abbrev pub behind_customer : Initial → Initial
behind_customer initial.Counted = initial.Late
behind_customer initial.Given = initial.Given
behind_customer initial.Open = initial.Open
behind_customer initial.Late = initial.Late

-- the number of first orders is known, as an ORDER or ORDER-LINE row asks for it that comes next
abbrev pub IsKnown : Option ℕ → Facts → Initial → ℕ → Type 0
IsKnown given t initial.Given n = given ≡ Some n
IsKnown given t initial.Open n = ⊥
IsKnown given t initial.Counted n =
    (given ≡ None) × (unwrap_or t.early t.customers ≡ t.customers)
    × (AreFew t.customers → IsOfFirstDistrict t.customers n)
IsKnown given t initial.Late n = IsInitial given t initial.Late n

abbrev pub IsBegun : Option ℕ → Facts → Books → Type 0
IsBegun given t b = IsKnown given t b.initial b.orders.kept.initial
