use Rattle.std.proofs.lemmas.Result.{on_ok_weaker}
use Rattle.oe_rows.proofs.KeyFacts.{stock_total, exact_stock}
use Rattle.oe_rows.specs.declared.keys.Key.TheVariants as key
use Rattle.oe_rows.specs.declared.rows.Row.TheVariants as row
use Rattle.std.proofs.Common.{[], ◌∷◌, sym, subst, refl}
use Rattle.std.specs.Prelude.{IsSome}
use Rattle.std.specs.FinMap.{get}
use Rattle.oe_model.specs.Keys.{warehouse_of_stock, item_of_stock}
use Rattle.oe_file_loading.proofs.BaseFacts.{base_stock}
use Rattle.oe_file_loading.proofs.PlaceFacts.{met_there, only_put}
use Rattle.oe_file_loading.specs.Base.{BasePlaces, base_rows}
use Rattle.oe_file_loading.specs.Placing.{OnlyAdds}
use Rattle.oe_file_loading.proofs.base.BasePlacingStockKeyStock.put.Goals as goal

pub invariant_of-self : goal.invariant_of-self
invariant_of-self c =
    let r = base_rows c.args.self.now in
    let house = warehouse_of_stock c.args.key in
    let item = item_of_stock c.args.key in
    let first = met_there row.Warehouse (get r.warehouses house) (key.Warehouse house)
    (key.Item item ∷ []) r refl c.requires.met in
    let second = met_there row.Item (get r.items item) (key.Item item) [] r refl first.1 in
    base_stock c.put_new.result _ c.self.invariant c.put_new.new.self c.args.key c.args.row
    (subst (λ (s : BasePlaces). IsSome (get (base_rows s).warehouses house)) (sym c.self.view_is) first.0)
    (subst (λ (s : BasePlaces). IsSome (get (base_rows s).items item)) (sym c.self.view_is) second.0)
    c.put_new.ensures.rows c.put_new.ensures.err

pub returns-clause-only : goal.returns-clause-only
returns-clause-only c =
    let new : BasePlaces = record {
      warehouses = c.self.inside.warehouses;
      districts =
          c.self.inside.districts;
      customers = c.self.inside.customers.places;
      items = c.self.inside.items;
      stocks =
          c.put_new.new.self;
    } in
    on_ok_weaker c.put_new.result
    (λ e. subst (λ (s : BasePlaces). OnlyAdds (λ k. key.Stock k) c.args.key (base_rows s) (base_rows new))
    c.self.view_is
    (only_put stock_total exact_stock row.Stock _ _ c.args.key c.args.row e))
    c.put_new.ensures.rows
