use Rattle.std.proofs.Common.{sym, ◌∙◌, ap, not, option_map, List}
use Rattle.std.specs.Prelude.{find}
use Rattle.std.specs.FinMap.{entries}
use Rattle.oe_rows.specs.declared.keys.Key.TheVariants as key
use Rattle.oe_rows.specs.declared.keys.WarehouseKey.{WarehouseKey}
use Rattle.oe_rows.specs.declared.warehouses.Warehouse.{Warehouse}
use Rattle.oe_model.specs.Audits.{Verdict, verdict_of, passes_1}
use Rattle.oe_model.specs.Rows.{Rows}
use Rattle.oe_store.specs.Places.{rows}
use Rattle.oe_audit.specs.Walks.{entries_then}
use Rattle.oe_audit.proofs.StoodFacts.{warehouses_are}
use Rattle.oe_audit.proofs.conditions.first.Goals as goal

abbrev verdict_in : Rows → List (WarehouseKey × Warehouse) → Verdict
verdict_in r es = verdict_of key.Warehouse (option_map (λ e. e.0) (find (λ e. not (passes_1 r e.0 e.1)) es))

pub loop-key-init : goal.loop-key-init
loop-key-init g c =
    let t = c.args.then.now in
    let past : Rows = g.R.RowsOf.rows_of t in
    ap (λ (es : List (WarehouseKey × Warehouse)). verdict_in past (entries_then
    (g.R.RowsOf.are_now t) past.warehouses es))
    (c.into_iter-key-iterator.ensures.into_iter_gives ∙ c.warehouses-key-items.ensures
    ∙ ap (λ ts. entries (rows ts).warehouses) c.tables.ensures)
    ∙ ap (verdict_in past) (sym (warehouses_are (rows (g.R.RowsOf.tables_of t)) past
    (g.R.RowsOf.are_now t) (g.met.R.RowsOf.same t) c.requires))
