use Rattle.std.proofs.lemmas.Result.{on_ok_weaker}
use Rattle.oe_rows.proofs.KeyFacts.{item_total, exact_item}
use Rattle.oe_rows.specs.declared.keys.Key.TheVariants as key
use Rattle.oe_rows.specs.declared.rows.Row.TheVariants as row
use Rattle.std.proofs.Common.{subst}
use Rattle.oe_file_loading.proofs.BaseFacts.{base_item}
use Rattle.oe_file_loading.proofs.PlaceFacts.{only_put}
use Rattle.oe_file_loading.specs.Base.{BasePlaces, base_rows}
use Rattle.oe_file_loading.specs.Placing.{OnlyAdds}
use Rattle.oe_file_loading.proofs.base.BasePlacingItemKeyItem.put.Goals as goal

pub invariant_of-self : goal.invariant_of-self
invariant_of-self c =
    base_item c.put_new.result _ c.self.invariant c.put_new.new.self c.args.key c.args.row
    c.put_new.ensures.rows c.put_new.ensures.err

pub returns-clause-only : goal.returns-clause-only
returns-clause-only c =
    let new : BasePlaces = record {
      warehouses = c.self.inside.warehouses;
      districts =
          c.self.inside.districts;
      customers = c.self.inside.customers.places;
      items = c.put_new.new.self;
      stocks =
          c.self.inside.stocks;
    } in
    on_ok_weaker c.put_new.result
    (λ e. subst (λ (s : BasePlaces). OnlyAdds (λ k. key.Item k) c.args.key (base_rows s) (base_rows new)) c.self.view_is
    (only_put item_total exact_item row.Item _ _ c.args.key c.args.row e))
    c.put_new.ensures.rows
