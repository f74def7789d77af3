use Rattle.std.proofs.Common.{ℕ, sym, ◌∙◌, ap}
use Rattle.std.specs.Prelude.{◌==◌, sum_by}
use Rattle.oe_rows.specs.declared.keys.DistrictKey.{DistrictKey}
use Rattle.oe_rows.specs.declared.districts.District.{District}
use Rattle.oe_rows.specs.Key.{warehouse_cmp}
use Rattle.oe_model.specs.Rows.{Rows}
use Rattle.oe_model.specs.Keys.{warehouse_of_district}
use Rattle.oe_store.specs.Places.{entries_of, rows}
use Rattle.oe_audit.specs.Walks.{entries_then}
use Rattle.oe_audit.proofs.StoodFacts.{ytd_was}
use Rattle.oe_audit.proofs.warehouses.passes_first.Goals as goal

abbrev ytd : DistrictKey × District → ℕ
ytd e = e.1.ytd

pub loop-district-init : goal.loop-district-init
loop-district-init g c =
    let t = c.args.then.now in
    let past : Rows = g.R.RowsOf.rows_of t in
    (λ i. c.cents-rest.ensures.value i == sum_by ytd
    (entries_then (g.R.RowsOf.are_now t) past.districts
    ((c.into_iter-district-iterator.ensures.into_iter_gives ∙ c.districts_of-district-items.ensures
    ∙ ap (λ ts. entries_of warehouse_cmp warehouse_of_district c.args.key.now (rows ts).districts) c.tables.ensures)
    i)))
    ∙ ap (λ n. c.args.ytd == n) (sym (ytd_was (rows (g.R.RowsOf.tables_of t)) past
    (g.R.RowsOf.are_now t) (g.met.R.RowsOf.same t) c.requires c.args.key.now))
