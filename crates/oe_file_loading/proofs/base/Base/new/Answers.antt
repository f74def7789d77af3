use Rattle.oe_file_loading.proofs.BaseFacts.{homes_start}
use Rattle.oe_file_loading.proofs.base.Base.new.Goals as goal

pub of-requires : goal.of-requires
of-requires c = homes_start _ _ c.new.ensures.rows c.new-2.ensures.rows
