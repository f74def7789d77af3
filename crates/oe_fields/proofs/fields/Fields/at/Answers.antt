use Rattle.oe_fields.specs.Parting.{text_of, parted_of, fields_of}
use Rattle.oe_fields.proofs.PartFacts.{none_at}
use Rattle.oe_fields.proofs.fields.Fields.at.Goals as goal

pub returns-in-None-clause-value : goal.returns-in-None-clause-value
unfolding fields_of
returns-in-None-clause-value c =
    let before = c.go_back.ensures in
    let none = c.in-None.ensures.none in
    none_at (text_of c.args.self.now.format) (parted_of c.args.self.now.format c.args.self.now.text) c.args.place
    (rw (← before.format, ← before.text) none)
