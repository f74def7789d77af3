-- What stands between the lengths, and then the lengths.
use Rattle.std.proofs.Common.{◌+◌, ◌-◌, ◌++◌, sym, ◌∙◌, subst, refl}
use Rattle.oe_extent.specs.Images.{Writes}
use Rattle.oe_layout.specs.Kinds.{kind_image}
use Rattle.oe_layout.specs.Links.{previous_image}
use Rattle.oe_layout.specs.Records.{contents, body_image, record_of_lent}
use Rattle.oe_layout.specs.declared.kinds.RecordKind.{RecordKind}
use Rattle.oe_layout.proofs.FrameFacts.{record_written}
use Rattle.oe_layout.proofs.loans.LinkedRecordWritten.write.Goals as goal

pub returns : goal.returns
returns c =
    let p = c.args.self.now.previous in
    let b = record_of_lent c.args.self.now.record in
    let between : Writes c.args.bytes.now (c.args.start + 2) (body_image p b) c.write-end.new.bytes c.write-end.result =
    subst
    (λ (k : RecordKind). Writes c.args.bytes.now (c.args.start + 2) (kind_image k ++ (previous_image p ++ contents b))
    c.write-end.new.bytes c.write-end.result)
    c.kind.ensures c.write-end.ensures in
    record_written c.args.bytes.now c.write-end.new.bytes c.write-middle.new.bytes c.write.new.bytes c.args.start
    c.write-middle.result
    c.write-end.result c.write.result (c.write-end.result + 2 - c.args.start) p b
    (sym c.length-length.ensures.image ∙ c.length-length.ensures.sum)
    c.requires refl between c.write-middle.ensures c.write.ensures
