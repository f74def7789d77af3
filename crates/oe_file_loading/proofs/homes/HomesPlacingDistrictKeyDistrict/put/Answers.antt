use Rattle.std.proofs.lemmas.Result.{on_ok_weaker}
use Rattle.oe_rows.proofs.KeyFacts.{district_total, exact_district}
use Rattle.oe_rows.specs.declared.rows.Row.TheVariants as row
use Rattle.oe_file_loading.proofs.PlaceFacts.{only_put}
use Rattle.oe_file_loading.proofs.homes.HomesPlacingDistrictKeyDistrict.put.Goals as goal

pub returns-clause-only : goal.returns-clause-only
returns-clause-only c =
    on_ok_weaker c.put_new.result (only_put district_total exact_district row.District _ _ c.args.key c.args.row)
    c.put_new.ensures.rows
