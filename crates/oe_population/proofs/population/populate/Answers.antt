use Rattle.std.proofs.Common.{rules, sym, subst}
use Rattle.oe_model.specs.Population.{IsScale, IsPopulated}
use Rattle.oe_store.specs.Places.{rows}
use Rattle.oe_population.proofs.PopulatedFacts.{populated, sound_filled}
use Rattle.oe_population.proofs.population.populate.Goals as goal

pub of-requires : goal.of-requires
of-requires c =
    let scale : IsScale c.args.scale =
    record { warehouses = search rules; customers = search rules; items = search rules } in
    sound_filled c.args.scale scale _
    (record {
      warehouses = c.in_ok-first.ensures.warehouses;
      districts = c.in_ok-first.ensures.districts;
      customers = c.in_ok-first.ensures.customers;
      histories = c.in-Ok.ensures.histories;
      new_orders =
          c.in-Ok.ensures.new_orders;
      orders = c.in-Ok.ensures.orders;
      order_lines =
          c.in-Ok-fill_goods.ensures.order_lines;
      items = c.in-Ok-fill_goods.ensures.items;
      stocks =
          c.in-Ok-fill_goods.ensures.stocks;
    })

pub returns : goal.returns
returns c =
    subst (λ p. IsPopulated c.args.scale (rows p)) (sym c.of.ensures)
    (populated c.args.scale _
    (record {
      warehouses = c.in_ok-first.ensures.warehouses;
      districts = c.in_ok-first.ensures.districts;
      customers = c.in_ok-first.ensures.customers;
      histories = c.in-Ok.ensures.histories;
      new_orders =
          c.in-Ok.ensures.new_orders;
      orders = c.in-Ok.ensures.orders;
      order_lines =
          c.in-Ok-fill_goods.ensures.order_lines;
      items = c.in-Ok-fill_goods.ensures.items;
      stocks =
          c.in-Ok-fill_goods.ensures.stocks;
    }))
