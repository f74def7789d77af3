-- How often each kind of name was in the way, as far as the counts reach.
use Rattle.std.specs.Prelude.{ℕ, ◌+◌, ◌-◌, ◌^◌, min}
use Rattle.oe_rows.specs.declared.locks.Name.{Name}
use Rattle.oe_rows.specs.declared.locks.Name.TheVariants as name
use Rattle.oe_deeds.specs.declared.busy.BusyCounts.{BusyCounts}

-- two counts together, at most the greatest
abbrev pub together : ℕ → ℕ → ℕ
together a b = min (a + b) (2 ^ 64 - 1)

abbrev pub no_counts : BusyCounts
no_counts = record {
  warehouses = 0;
  districts = 0;
  customers = 0;
  orders = 0;
  queues = 0;
  stocks = 0;
  names = 0;
}

-- one more of the name's kind
abbrev pub count_with : Name → BusyCounts → BusyCounts
count_with (name.Warehouse k) c = record c { warehouses = together c.warehouses 1 }
count_with (name.District k) c = record c { districts = together c.districts 1 }
count_with (name.Customer k) c = record c { customers = together c.customers 1 }
count_with (name.Order k) c = record c { orders = together c.orders 1 }
count_with (name.Queue k) c = record c { queues = together c.queues 1 }
count_with (name.Stock k) c = record c { stocks = together c.stocks 1 }
count_with (name.Names k last) c = record c { names = together c.names 1 }

-- both counts of each kind
abbrev pub count_sums : BusyCounts → BusyCounts → BusyCounts
count_sums a b = record {
  warehouses = together a.warehouses b.warehouses;
  districts = together a.districts b.districts;
  customers = together a.customers b.customers;
  orders = together a.orders b.orders;
  queues = together a.queues b.queues;
  stocks = together a.stocks b.stocks;
  names = together a.names b.names;
}
