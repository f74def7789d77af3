use Rattle.std.proofs.lemmas.Result.{on_ok_weaker}
use Rattle.oe_rows.proofs.KeyFacts.{customer_total, exact_customer}
use Rattle.oe_rows.specs.declared.keys.Key.TheVariants as key
use Rattle.oe_rows.specs.declared.rows.Row.TheVariants as row
use Rattle.std.proofs.Common.{[], sym, subst, refl, rules}
use Rattle.std.specs.Prelude.{IsSome}
use Rattle.std.specs.FinMap.{get}
use Rattle.oe_model.specs.Keys.{district_of_customer}
use Rattle.oe_file_loading.proofs.BaseFacts.{base_customer}
use Rattle.oe_file_loading.proofs.PlaceFacts.{met_there, only_put}
use Rattle.oe_file_loading.specs.Base.{BasePlaces, base_rows}
use Rattle.oe_file_loading.specs.Placing.{OnlyAdds}
use Rattle.oe_file_loading.proofs.base.BasePlacingCustomerKeyCustomer.put.Goals as goal

pub invariant_of-self : goal.invariant_of-self
invariant_of-self c =
    let r = base_rows c.args.self.now in
    let own = district_of_customer c.args.key in
    let there = met_there row.District (get r.districts own) (key.District own) [] r refl c.requires.met in
    base_customer c.put_new.result _ c.self.invariant c.put_new.new.self.places c.args.key c.args.row
    (subst (λ (s : BasePlaces). IsSome (get (base_rows s).districts own)) (sym c.self.view_is) there.0) (search rules)
    c.put_new.ensures.rows c.put_new.ensures.err

pub returns-clause-only : goal.returns-clause-only
returns-clause-only c =
    let new : BasePlaces = record {
      warehouses = c.self.inside.warehouses;
      districts =
          c.self.inside.districts;
      customers = c.put_new.new.self.places;
      items = c.self.inside.items;
      stocks =
          c.self.inside.stocks;
    } in
    on_ok_weaker c.put_new.result
    (λ e. subst (λ (s : BasePlaces). OnlyAdds (λ k. key.Customer k) c.args.key (base_rows s) (base_rows new))
    c.self.view_is
    (only_put customer_total exact_customer row.Customer _ _ c.args.key c.args.row e))
    c.put_new.ensures.rows
