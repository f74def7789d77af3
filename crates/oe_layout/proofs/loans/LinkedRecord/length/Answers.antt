-- Key, row and 18 bytes beside them, of which two at each end are the length.
use Rattle.oe_layout.specs.Records.{record_of_lent}
use Rattle.oe_layout.proofs.FrameFacts.{whole_length, record_framed}
use Rattle.oe_layout.proofs.loans.LinkedRecord.length.Goals as goal

pub returns-clause-image : goal.returns-clause-image
returns-clause-image c =
    whole_length c.args.self.now.previous (record_of_lent c.args.self.now.record) c.contents_length.result
    c.contents_length.ensures.image

pub returns-clause-framed : goal.returns-clause-framed
returns-clause-framed c =
    record_framed c.args.self.now.previous (record_of_lent c.args.self.now.record) c.contents_length.result
    c.contents_length.ensures.image c.contents_length.ensures.sum c.contents_length.ensures.short
