use Rattle.std.proofs.Common.{sym, ◌∙◌}
use Rattle.oe_books.proofs.books.Books.settle.Goals as goal

pub returns-clause-kept : goal.returns-clause-kept
returns-clause-kept c t h = record {
  warehouses = record {
    kept = c.settle.ensures.stays t.warehouses h.warehouses.kept;
    counted = h.warehouses.counted;
  };
  districts = record {
    kept = record {
      sums = c.settle-2.ensures.stays t.districts h.districts.kept.sums;
      amounts = h.districts.kept.amounts;
    };
    counted = h.districts.counted;
  };
  customers = record {
    kept = c.settle-3.ensures.stays t.customers h.customers.kept;
    counted = h.customers.counted;
  };
  histories = record {
    kept = record {
      sums = c.settle-4.ensures.stays t.histories h.histories.kept.sums;
      amounts = h.histories.kept.amounts;
    };
    counted = h.histories.counted;
  };
  new_orders = record {
    kept = c.settle-5.ensures.stays t.new_orders h.new_orders.kept;
    counted = h.new_orders.counted;
  };
  orders = record {
    kept = record {
      sums = c.settle-6.ensures.stays t.orders h.orders.kept.sums;
      counts = h.orders.kept.counts;
    };
    counted = h.orders.counted;
  };
  lines = record {
    kept = record {
      sums = c.settle-7.ensures.stays t.lines h.lines.kept.sums;
      numbers = c.settle-8.ensures.stays t.lines h.lines.kept.numbers;
      amounts = h.lines.kept.amounts;
      quantities = h.lines.kept.quantities;
    };
    counted = h.lines.counted;
  };
  items = record {
    kept = c.settle-9.ensures.stays t.items h.items.kept;
    counted = h.items.counted;
  };
  stocks = record {
    kept = c.settle-10.ensures.stays t.stocks h.stocks.kept;
    counted = h.stocks.counted;
  };
  initial = c.settle-6.ensures.initial ∙ h.initial ∙ sym c.settle-7.ensures.initial;
}
