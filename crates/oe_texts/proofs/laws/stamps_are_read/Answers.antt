use Rattle.oe_values.proofs.StampFacts.{says_alone}
use Rattle.oe_texts.specs.Stamp.{stamp_text}
use Rattle.oe_texts.proofs.StampFacts.{stamp_text_says}
use Rattle.oe_texts.proofs.laws.stamps_are_read.Goals as goal

pub returns-clause-says : goal.returns-clause-says
returns-clause-says c = stamp_text_says

pub returns-clause-only : goal.returns-clause-only
returns-clause-only c n s says = says_alone s (stamp_text n) n says (stamp_text_says n says.counted.before_2101)
