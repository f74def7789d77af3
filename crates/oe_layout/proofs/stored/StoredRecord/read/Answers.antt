-- The bytes are read as their record.
use Rattle.std.proofs.Common.{◌∙◌, refl, sym, ap}
use Rattle.oe_decode.specs.FrontFacts.{some_is}
use Rattle.oe_layout.specs.Records.{record_of_own}
use Rattle.oe_layout.specs.declared.links.Previous.{Previous}
use Rattle.oe_layout.specs.declared.records.OwnRecord.{OwnRecord}
use Rattle.oe_layout.proofs.StoredFacts.{read_is}
use Rattle.oe_layout.proofs.stored.StoredRecord.read.Goals as goal

pub unwrap-requires : goal.unwrap-requires
unwrap-requires c =
    let r = read_is c.self.inside.bytes.now c.whole_record.result c.self.invariant c.whole_record.ensures in
    rw r.1 refl

pub returns : goal.returns
returns c =
    let r = read_is c.self.inside.bytes.now c.whole_record.result c.self.invariant c.whole_record.ensures in
    let same = some_is c.unwrap.result r.0 (sym c.unwrap.ensures ∙ r.1) in
    rw (← c.self.view_is) (ap (λ (y : Previous × OwnRecord). record_of_own y.1) same ∙ r.2)
