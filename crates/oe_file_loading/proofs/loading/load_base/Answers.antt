use Rattle.std.proofs.Common.{refl, ◌∙◌}
use Rattle.oe_rows.specs.declared.rows.Row.TheVariants as row
use Rattle.oe_model.specs.Rows.{Rows}
use Rattle.oe_file_loading.specs.Loading.{nine_of}
use Rattle.oe_file_loading.proofs.BaseFacts.{none_at}
use Rattle.oe_file_loading.proofs.LoadedFacts.{base_loaded, customers_keep, items_keep}
use Rattle.oe_file_loading.proofs.loading.load_base.Goals as goal

pub load_table-requires : goal.load_table-requires
load_table-requires g c = none_at row.Customer _ c.in_ok-homes.ensures.only.customers

pub load_table-requires-2 : goal.load_table-requires-2
load_table-requires-2 g c =
    none_at row.Item _
    (customers_keep (λ (r : Rows). r.items) (λ k x r. refl) _ _ _ _ _ _ _ _ _ c.in_ok-customers.ensures
    ∙ c.in_ok-homes.ensures.only.items)

pub load_table-requires-3 : goal.load_table-requires-3
load_table-requires-3 g c =
    none_at row.Stock _
    (items_keep (λ (r : Rows). r.stocks) (λ k x r. refl) _ _ _ _ _ _ _ _ _ c.in_ok-items.ensures
    ∙ customers_keep (λ (r : Rows). r.stocks) (λ k x r. refl) _ _ _ _ _ _ _ _ _ c.in_ok-customers.ensures
    ∙ c.in_ok-homes.ensures.only.stocks)

pub returns-clause-loaded : goal.returns-clause-loaded
returns-clause-loaded g c =
    base_loaded c.args.format (nine_of g.S.Intake.source c.args.sources.now) _ _ _ _ _ _ _ _ _ _ _ _ _ _ _ _ _
    c.in_ok-homes.ensures.loaded c.in_ok-customers.ensures c.in_ok-items.ensures c.in_ok-stocks.ensures
    c.into_tables.ensures
