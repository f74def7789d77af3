use Rattle.std.proofs.Common.{rules}
use Rattle.std.specs.Int.{IsInRange}
use Rattle.std.proofs.lemmas.Result.{on_ok_weaker}
use Rattle.oe_file_loading.proofs.HomeFacts.{put_one_district}
use Rattle.oe_file_loading.proofs.homes.put_district.Goals as goal

pub returns : goal.returns
returns c =
    let range : IsInRange 1 10 c.args.key.district = search rules in
    on_ok_weaker c.put_new.result (put_one_district _ _ c.args.key c.args.row range) c.put_new.ensures.rows
