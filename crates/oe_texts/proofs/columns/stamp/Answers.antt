use Rattle.std.proofs.Common.{◌≡◌}
use Rattle.oe_texts.specs.Stamp.{stamp_text}
use Rattle.oe_texts.proofs.StampFacts.{stamp_text_says}
use Rattle.oe_texts.proofs.columns.stamp.Goals as goal

pub returns-clause-items : goal.returns-clause-items
returns-clause-items c =
    let one : stamp_text c.args.stamp ≡ c.bytes.result = c.bytes.ensures.only _
    (stamp_text_says _ c.bytes.ensures.says.counted.before_2101) in
    cc
