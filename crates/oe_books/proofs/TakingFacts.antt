-- A CUSTOMER, an ORDER or an ORDER-LINE row more, by which the number of first orders is known otherwise.
use Rattle.std.proofs.Common.{◌≡◌, ℕ, Bool, [], ◌∷◌, ◌++◌, Option, sym, subst, ◌∙◌}
use Rattle.oe_facts.specs.declared.facts.CustomerFact.{CustomerFact}
use Rattle.oe_facts.specs.declared.facts.OrderFact.{OrderFact}
use Rattle.oe_facts.specs.declared.facts.OrderLineFact.{OrderLineFact}
use Rattle.oe_facts.specs.declared.tables.Fact.{Fact}
use Rattle.oe_facts.specs.declared.tables.Fact.TheVariants as fact
use Rattle.oe_ledgers.specs.declared.customers.Customers.{Customers}
use Rattle.oe_ledgers.specs.declared.orders.Orders.{Orders}
use Rattle.oe_ledgers.specs.Keeping.{KeepsCustomers}
use Rattle.oe_books.specs.declared.rows.Rows.{Rows}
use Rattle.oe_books.specs.declared.rows.Lines.{Lines}
use Rattle.oe_books.specs.declared.books.Books.{Books}
use Rattle.oe_books.specs.declared.books.Initial.{Initial}
use Rattle.oe_books.specs.Facts.{Facts, with_fact}
use Rattle.oe_books.specs.Keeping.{IsOf, BookOrders, BookLines, KeepsRows, Keeps, IsBegun, IsInitial, behind_customer}
use Rattle.oe_books.proofs.InitialFacts.{customer_more, order_more, line_more}

module _ (g : Option ℕ) (t : Facts) (b : Books) where
  -- a fact that is known to be this one
  pub as_told : (f h : Fact) → f ≡ h → Keeps g (with_fact t h) b → Keeps g (with_fact t f) b
  as_told f h is keeps = subst (λ f. Keeps g (with_fact t f) b) (sym is) keeps

  pub customer_taken : (x : CustomerFact) (rows : Rows Customers) (i : Initial) → i ≡ behind_customer b.initial
      → IsOf KeepsCustomers (t.customers ++ x ∷ []) rows → Keeps g t b
      → Keeps g (with_fact t (fact.Customer x)) (record b { customers = rows; initial = i })
  customer_taken x rows i behind more h = record {
    rows = record {
      warehouses = h.rows.warehouses;
      districts = h.rows.districts;
      customers = more;
      histories = h.rows.histories;
      new_orders = h.rows.new_orders;
      orders = h.rows.orders;
      lines = h.rows.lines;
      items = h.rows.items;
      stocks = h.rows.stocks;
      initial = h.rows.initial;
    };
    initial = subst (λ i. IsInitial g (with_fact t (fact.Customer x)) i b.orders.kept.initial) (sym behind)
        (customer_more g t x b.initial b.orders.kept.initial h.initial);
  }

  pub order_taken : (x : OrderFact) (rows : Rows Orders) → rows.kept.initial ≡ b.orders.kept.initial
      → IsOf BookOrders (t.orders ++ x ∷ []) rows → KeepsRows t b → IsBegun g t b
      → Keeps g (with_fact t (fact.Order x)) (record b { orders = rows })
  order_taken x rows same more h begun = record {
    rows = record {
      warehouses = h.warehouses;
      districts = h.districts;
      customers = h.customers;
      histories = h.histories;
      new_orders = h.new_orders;
      orders = more;
      lines = h.lines;
      items = h.items;
      stocks = h.stocks;
      initial = same ∙ h.initial;
    };
    initial = subst (IsInitial g (with_fact t (fact.Order x)) b.initial) (sym same)
        (order_more g t x b.initial b.orders.kept.initial begun);
  }

  pub line_taken : (x : OrderLineFact) (rows : Rows Lines) → rows.kept.sums.initial ≡ b.lines.kept.sums.initial
      → IsOf BookLines (t.lines ++ x ∷ []) rows → KeepsRows t b → IsBegun g t b
      → Keeps g (with_fact t (fact.OrderLine x)) (record b { lines = rows })
  line_taken x rows same more h begun = record {
    rows = record {
      warehouses = h.warehouses;
      districts = h.districts;
      customers = h.customers;
      histories = h.histories;
      new_orders = h.new_orders;
      orders = h.orders;
      lines = more;
      items = h.items;
      stocks = h.stocks;
      initial = h.initial ∙ sym same;
    };
    initial = line_more g t x b.initial b.orders.kept.initial begun;
  }

  -- whether the books are lost is in no sum
  pub told_lost : (l : Bool) → Keeps g t b → Keeps g t (record b { is_lost = l })
  told_lost l h = record {
    rows = record {
      warehouses = h.rows.warehouses;
      districts = h.rows.districts;
      customers = h.rows.customers;
      histories = h.rows.histories;
      new_orders = h.rows.new_orders;
      orders = h.rows.orders;
      lines = h.rows.lines;
      items = h.rows.items;
      stocks = h.rows.stocks;
      initial = h.rows.initial;
    };
    initial = h.initial;
  }
