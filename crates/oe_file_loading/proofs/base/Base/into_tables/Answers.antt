use Rattle.std.proofs.Common.{ap, ◌∙◌}
use Rattle.oe_store.specs.Places.{rows}
use Rattle.oe_file_loading.specs.Base.{base_rows}
use Rattle.oe_file_loading.proofs.BaseFacts.{base_sound, base_is}
use Rattle.oe_file_loading.proofs.base.Base.into_tables.Goals as goal

pub of-requires : goal.of-requires
of-requires c =
    base_sound
    (record {
      warehouses = c.self.inside.warehouses;
      districts = c.self.inside.districts;
      customers = c.self.inside.customers.places;
      items = c.self.inside.items;
      stocks = c.self.inside.stocks;
    }) c.new.result c.new-2.result c.new-3.result.places c.new-4.result c.self.invariant
    c.new.ensures.rows c.new-2.ensures.rows c.new-3.ensures.rows c.new-4.ensures.rows

pub returns : goal.returns
returns c =
    ap rows c.of.ensures
    ∙ base_is
    (record {
      warehouses = c.self.inside.warehouses;
      districts = c.self.inside.districts;
      customers = c.self.inside.customers.places;
      items = c.self.inside.items;
      stocks = c.self.inside.stocks;
    }) c.new.result c.new-2.result c.new-3.result.places c.new-4.result c.self.invariant
    c.new.ensures.rows c.new-2.ensures.rows c.new-3.ensures.rows c.new-4.ensures.rows
    ∙ ap base_rows c.self.view_is
