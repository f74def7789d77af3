use Rattle.std.proofs.Common.{subst, sym}
use Rattle.oe_rows.specs.declared.rows.Row.TheVariants as row
use Rattle.oe_model.specs.Rows.{Rows}
use Rattle.oe_file_loading.specs.Loaded.{HomesPut}
use Rattle.oe_file_loading.proofs.BaseFacts.{none_at}
use Rattle.oe_file_loading.proofs.HomeFacts.{homes_put, homes_are}
use Rattle.oe_file_loading.proofs.putting.keep_homes.Goals as goal

pub put_rows-requires-clause-new : goal.put_rows-requires-clause-new
put_rows-requires-clause-new c = λ k is. none_at row.Warehouse _ c.new.ensures.rows k

pub put_rows-requires-2-clause-new : goal.put_rows-requires-2-clause-new
put_rows-requires-2-clause-new c = λ k is. none_at row.District _ c.new-2.ensures.rows k

pub of-requires : goal.of-requires
of-requires c =
    let h =
    homes_put c.args.warehouse_rows c.args.district_rows c.in_ok-all_districts.field-0 c.new.result
    c.new-2.result c.put_rows.new.into c.put_rows-2.new.into _ _ _ c.new.ensures.rows c.new-2.ensures.rows
    c.in_ok-all_districts.ensures
    c.in_ok-put_rows.ensures.put c.in_ok-put_rows-2.ensures.put in
    let are = homes_are _ _ _ _ _ h in record { ten = are.ten; home = are.home }

pub returns-clause-put : goal.returns-clause-put
returns-clause-put c =
    subst
    (λ (r : Rows). HomesPut c.args.warehouse_rows c.args.district_rows r c.args.apart.now.items
    c.put_rows-2.new.apart.items)
    (sym c.of.ensures)
    (homes_put c.args.warehouse_rows c.args.district_rows c.in_ok-all_districts.field-0 c.new.result
    c.new-2.result c.put_rows.new.into c.put_rows-2.new.into _ _ _ c.new.ensures.rows c.new-2.ensures.rows
    c.in_ok-all_districts.ensures
    c.in_ok-put_rows.ensures.put c.in_ok-put_rows-2.ensures.put)
