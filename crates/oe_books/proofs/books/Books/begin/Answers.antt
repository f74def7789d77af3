use Rattle.std.proofs.Common.{◌<◌, ◌^◌, sym, subst, ap, ◌∙◌}
use Rattle.std.specs.Prelude.{unwrap_or}
use Rattle.oe_facts.specs.declared.facts.OrderFact.{OrderFact}
use Rattle.oe_books.specs.declared.books.Initial.TheVariants as initial
use Rattle.oe_books.specs.Keeping.{BookOrders, BookLines, IsInitial}
use Rattle.oe_books.proofs.RowFacts.{all_none}
use Rattle.oe_books.proofs.books.Books.begin.Goals as goal

-- no order came, so that the new ledgers are of the same rows
pub returns : goal.returns
returns c given t h =
    let unknown : IsInitial given t initial.Open c.args.self.now.orders.kept.initial =
    subst (λ i. IsInitial given t i c.args.self.now.orders.kept.initial) c.in-Open.is h.initial in
    let r = h.rows in (
      record {
        warehouses = r.warehouses;
        districts = r.districts;
        customers = record {
          kept = c.settle.ensures.stays t.customers r.customers.kept;
          counted = r.customers.counted;
        };
        histories = r.histories;
        new_orders = r.new_orders;
        orders = record {
          kept = subst (λ os. BookOrders os c.new.result) (sym unknown.2)
              (record { sums = c.new.ensures.kept; counts = all_none (λ (f : OrderFact). f.line_count < 2 ^ 32) });
          counted = r.orders.counted;
        };
        lines = record {
          kept = subst (λ ls. BookLines ls c.new-2.result) (sym unknown.3) c.new-2.ensures.kept;
          counted = r.lines.counted;
        };
        items = r.items;
        stocks = r.stocks;
        initial = c.new.ensures.initial ∙ sym c.new-2.ensures.initial;
      },
      (
        unknown.0,
        ap (λ e. unwrap_or e t.customers) unknown.1,
        λ few. (
          c.customers_of_a_district.result,
          c.customers_of_a_district.ensures t.customers (c.settle.ensures.stays t.customers r.customers.kept) few,
          c.new.ensures.initial ∙ c.unwrap_or-initial.ensures,
        ),
      ),
    )
