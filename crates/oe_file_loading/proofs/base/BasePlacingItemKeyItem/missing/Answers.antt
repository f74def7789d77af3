use Rattle.std.proofs.Common.{sym}
use Rattle.oe_file_loading.specs.Base.{base_rows}
use Rattle.oe_file_loading.proofs.PlaceFacts.{none_missing}
use Rattle.oe_file_loading.proofs.base.BasePlacingItemKeyItem.missing.Goals as goal

pub returns : goal.returns
returns c = sym (none_missing (base_rows c.args.self.now))
