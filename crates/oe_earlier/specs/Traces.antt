-- What rows bring to the sums that are compared with those of earlier rows.
use Rattle.std.specs.Prelude.{ℕ, ◌-◌, ◌^◌, max, pos, ◌+ℤ◌, List, [], ◌∷◌, ◌++◌}
use Rattle.std.specs.Int.{int_max, int_rem_euclid}
use Rattle.oe_facts.specs.declared.facts.StockFact.{StockFact}
use Rattle.oe_facts.specs.declared.keys.DistrictId.{DistrictId}
use Rattle.oe_facts.specs.declared.keys.CustomerId.{CustomerId}
use Rattle.oe_facts.specs.declared.keys.StockId.{StockId}
use Rattle.oe_facts.specs.declared.tables.Fact.{Fact}
use Rattle.oe_facts.specs.declared.tables.Fact.TheVariants as fact
use Rattle.oe_ledgers.specs.Columns.{sum_up_to}
use Rattle.oe_earlier.specs.declared.traces.Trace.{Trace}
use Rattle.oe_earlier.specs.declared.traces.Residue.{Residue}

-- one row with that print
abbrev pub trace_of : ℕ → Trace
trace_of print = record { print = print; rows = 1 }

-- the greatest print, and how many rows there are
abbrev pub traces_joined : Trace → Trace → Trace
traces_joined a b = record { print = max a.print b.print; rows = sum_up_to (2 ^ 32 - 1) a.rows b.rows }

-- (S_QUANTITY + S_YTD) mod 91
abbrev pub residue_of : StockFact → Residue
residue_of f = record { residue = int_rem_euclid (f.quantity +ℤ pos f.ytd) (pos 91) }

abbrev pub residues_joined : Residue → Residue → Residue
residues_joined a b = record { residue = int_max a.residue b.residue }

-- what rows bring, table by table, each to its key
pub record Traced : Type 0 where
  pub warehouses : List (ℕ × Trace)
  pub districts : List (DistrictId × Trace)
  pub customers : List (CustomerId × Trace)
  pub items : List (ℕ × Trace)
  pub stocks : List (StockId × Trace)
  pub residues : List (StockId × Residue)

abbrev pub no_rows : Traced
no_rows = record { warehouses = []; districts = []; customers = []; items = []; stocks = []; residues = [] }

-- one row more, with its print
abbrev pub with_row : Traced → ℕ → Fact → Traced
with_row t print (fact.Warehouse f) = record t { warehouses = t.warehouses ++ (f.warehouse, trace_of print) ∷ [] }
with_row t print (fact.District f) = record t { districts = t.districts ++ (f.key, trace_of print) ∷ [] }
with_row t print (fact.Customer f) = record t { customers = t.customers ++ (f.key, trace_of print) ∷ [] }
with_row t print (fact.Item f) = record t { items = t.items ++ (f.item, trace_of print) ∷ [] }
with_row t print (fact.Stock f) = record t {
  stocks = t.stocks ++ (f.key, trace_of print) ∷ [];
  residues = t.residues ++ (f.key, residue_of f) ∷ [];
}
with_row t print (fact.History f) = t
with_row t print (fact.NewOrder f) = t
with_row t print (fact.Order f) = t
with_row t print (fact.OrderLine f) = t

-- the rows of both, one list behind the other
abbrev pub traced_together : Traced → Traced → Traced
traced_together t u = record {
  warehouses = t.warehouses ++ u.warehouses;
  districts = t.districts ++ u.districts;
  customers = t.customers ++ u.customers;
  items = t.items ++ u.items;
  stocks = t.stocks ++ u.stocks;
  residues = t.residues ++ u.residues;
}
