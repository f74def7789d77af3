use Rattle.std.proofs.Common.{◌≡◌, refl}
use Rattle.oe_facts.specs.declared.tables.Table.TheVariants as table
use Rattle.oe_ledgers.specs.Keeping.{KeepsWarehouses, KeepsNewOrders, KeepsItems, KeepsStocks}
use Rattle.oe_earlier.proofs.KeptFacts.{on_both, on_some}
use Rattle.oe_books.specs.Keeping.{BookDistricts, BookHistories}
use Rattle.oe_books.proofs.RowFacts.{all_more}
use Rattle.oe_books.proofs.ApartFacts.{initial_apart, none_of_both, found_in, not_both, apart_of, no_longer, by_table}
use Rattle.oe_books.proofs.books.Books.take_all.Goals as goal

pub returns-clause-keeps : goal.returns-clause-keeps
returns-clause-keeps c =
    on_some c.and-5.result
    (λ all given own t u h g. record {
      rows = record {
        warehouses =
            all_more KeepsWarehouses c.args.self.now.warehouses c.args.other.warehouses _ all.0.0.0.0.0
            t.warehouses u.warehouses h.rows.warehouses g.rows.warehouses;
        districts =
            all_more BookDistricts c.args.self.now.districts c.args.other.districts _ all.0.0.0.0.1
            t.districts u.districts h.rows.districts g.rows.districts;
        customers = h.rows.customers;
        histories =
            all_more BookHistories c.args.self.now.histories c.args.other.histories _ all.0.0.0.1
            t.histories u.histories h.rows.histories g.rows.histories;
        new_orders =
            all_more KeepsNewOrders c.args.self.now.new_orders c.args.other.new_orders _ all.0.0.1
            t.new_orders u.new_orders h.rows.new_orders g.rows.new_orders;
        orders = h.rows.orders;
        lines = h.rows.lines;
        items =
            all_more KeepsItems c.args.self.now.items c.args.other.items _ all.0.1
            t.items u.items h.rows.items g.rows.items;
        stocks =
            all_more KeepsStocks c.args.self.now.stocks c.args.other.stocks _ all.1
            t.stocks u.stocks h.rows.stocks g.rows.stocks;
        initial = h.rows.initial;
      };
      initial = initial_apart given t u c.args.self.now.initial c.args.self.now.orders.kept.initial h.initial;
    })
    (on_both _ _ c.and-4.result c.take_all-in_stocks.result c.and-5.result c.and-5.ensures
    (on_both _ _ c.and-3.result c.take_all-in_items.result c.and-4.result c.and-4.ensures
    (on_both _ _ c.and-2.result c.take_all-in_new_orders.result c.and-3.result c.and-3.ensures
    (on_both _ _ c.and.result c.take_all-in_histories.result c.and-2.result c.and-2.ensures
    (on_both _ _ c.take_all-in_warehouses.result c.take_all-in_districts.result c.and.result c.and.ensures
    c.take_all-in_warehouses.ensures.taken c.take_all-in_districts.ensures.taken)
    c.take_all-in_histories.ensures.taken)
    c.take_all-in_new_orders.ensures.taken)
    c.take_all-in_items.ensures.taken)
    c.take_all-in_stocks.ensures.taken)

pub returns-clause-cause : goal.returns-clause-cause
returns-clause-cause c =
    none_of_both _ c.and-4.result c.take_all-in_stocks.result c.and-5.result c.and-5.ensures
    (none_of_both _ c.and-3.result c.take_all-in_items.result c.and-4.result c.and-4.ensures
    (none_of_both _ c.and-2.result c.take_all-in_new_orders.result c.and-3.result c.and-3.ensures
    (none_of_both _ c.and.result c.take_all-in_histories.result c.and-2.result c.and-2.ensures
    (none_of_both _ c.take_all-in_warehouses.result c.take_all-in_districts.result c.and.result c.and.ensures
    (found_in c.args.self.now c.args.other table.Warehouse refl _ c.take_all-in_warehouses.ensures.cause)
    (found_in c.args.self.now c.args.other table.District refl _ c.take_all-in_districts.ensures.cause))
    (found_in c.args.self.now c.args.other table.History refl _ c.take_all-in_histories.ensures.cause))
    (found_in c.args.self.now c.args.other table.NewOrder refl _ c.take_all-in_new_orders.ensures.cause))
    (found_in c.args.self.now c.args.other table.Item refl _ c.take_all-in_items.ensures.cause))
    (found_in c.args.self.now c.args.other table.Stock refl _ c.take_all-in_stocks.ensures.cause)

pub returns-clause-refused : goal.returns-clause-refused
returns-clause-refused c both =
    not_both c.and-5.result
    (λ all. no_longer c.args.self.now c.args.other
    (by_table c.args.self.now c.args.other (apart_of all.0.0.0.0.0) (apart_of all.0.0.0.0.1) (apart_of all.0.0.0.1)
    (apart_of all.0.0.1) (apart_of all.0.1) (apart_of all.1)) both)
    (on_both _ _ c.and-4.result c.take_all-in_stocks.result c.and-5.result c.and-5.ensures
    (on_both _ _ c.and-3.result c.take_all-in_items.result c.and-4.result c.and-4.ensures
    (on_both _ _ c.and-2.result c.take_all-in_new_orders.result c.and-3.result c.and-3.ensures
    (on_both _ _ c.and.result c.take_all-in_histories.result c.and-2.result c.and-2.ensures
    (on_both _ _ c.take_all-in_warehouses.result c.take_all-in_districts.result c.and.result c.and.ensures
    c.take_all-in_warehouses.ensures.taken c.take_all-in_districts.ensures.taken)
    c.take_all-in_histories.ensures.taken)
    c.take_all-in_new_orders.ensures.taken)
    c.take_all-in_items.ensures.taken)
    c.take_all-in_stocks.ensures.taken)
