use Rattle.std.proofs.lemmas.Result.{on_ok_weaker}
use Rattle.oe_rows.proofs.KeyFacts.{warehouse_total, exact_warehouse}
use Rattle.oe_rows.specs.declared.rows.Row.TheVariants as row
use Rattle.oe_file_loading.proofs.PlaceFacts.{only_put}
use Rattle.oe_file_loading.proofs.homes.HomesPlacingWarehouseKeyWarehouse.put.Goals as goal

pub returns-clause-only : goal.returns-clause-only
returns-clause-only c =
    on_ok_weaker c.put_new.result (only_put warehouse_total exact_warehouse row.Warehouse _ _ c.args.key c.args.row)
    c.put_new.ensures.rows
