use Rattle.std.proofs.Common.{refl, ◌∙◌}
use Rattle.oe_rows.specs.declared.rows.Row.TheVariants as row
use Rattle.oe_model.specs.Rows.{Rows}
use Rattle.oe_file_loading.specs.Loading.{nine_of}
use Rattle.oe_file_loading.proofs.BaseFacts.{none_at}
use Rattle.oe_file_loading.proofs.LoadedFacts.{deeds_loaded, orders_keep, lines_keep, new_orders_keep}
use Rattle.oe_file_loading.proofs.loading.load_deeds.Goals as goal

pub load_table-requires : goal.load_table-requires
load_table-requires g c = none_at row.Order _ c.requires.orders

pub load_table-requires-2 : goal.load_table-requires-2
load_table-requires-2 g c =
    none_at row.OrderLine _
    (orders_keep (λ (r : Rows). r.order_lines) (λ k x r. refl) _ _ _ _ _ _ _ _ _ c.in_ok-orders.ensures
    ∙ c.requires.order_lines)

pub load_table-requires-3 : goal.load_table-requires-3
load_table-requires-3 g c =
    none_at row.NewOrder _
    (lines_keep (λ (r : Rows). r.new_orders) (λ k x r. refl) _ _ _ _ _ _ _ _ _ c.in_ok-order_lines.ensures
    ∙ orders_keep (λ (r : Rows). r.new_orders) (λ k x r. refl) _ _ _ _ _ _ _ _ _ c.in_ok-orders.ensures
    ∙ c.requires.new_orders)

pub load_table-requires-4 : goal.load_table-requires-4
load_table-requires-4 g c =
    none_at row.History _
    (new_orders_keep (λ (r : Rows). r.histories) (λ k x r. refl) _ _ _ _ _ _ _ _ _ c.in_ok-new_orders.ensures
    ∙ lines_keep (λ (r : Rows). r.histories) (λ k x r. refl) _ _ _ _ _ _ _ _ _ c.in_ok-order_lines.ensures
    ∙ orders_keep (λ (r : Rows). r.histories) (λ k x r. refl) _ _ _ _ _ _ _ _ _ c.in_ok-orders.ensures
    ∙ c.requires.histories)

pub returns-clause-loaded : goal.returns-clause-loaded
returns-clause-loaded g c =
    deeds_loaded c.args.format (nine_of g.S.Intake.source c.args.sources.now) _ _ _ _ _ _ _ _ _ _ _ _ _ _ _ _ _
    c.in_ok-orders.ensures c.in_ok-order_lines.ensures c.in_ok-new_orders.ensures c.in_ok-histories.ensures
