use Rattle.oe_file_loading.proofs.BaseFacts.{base_start}
use Rattle.oe_file_loading.proofs.base.Base.of.Goals as goal

pub invariant_of-result : goal.invariant_of-result
invariant_of-result c =
    base_start c.args.homes.warehouses c.args.homes.districts c.new.result.places c.new-2.result c.new-3.result
    (record { ten = c.requires.ten; home = c.requires.home }) c.new.ensures.rows c.new-3.ensures.rows
