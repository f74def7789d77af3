-- What the bytes are is read exactly, and none of the other layout.
use Rattle.std.proofs.Common.{sym, ap, ◌∙◌, arith}
use Rattle.oe_layout.specs.Kinds.{is_kind_of}
use Rattle.oe_layout.proofs.RecordFacts.{record_of_layout, no_record, record_of_other}
use Rattle.oe_layout.proofs.reading.read_record.Goals as goal

pub returns-in_default : goal.returns-in_default
returns-in_default c = no_record c.args.layout c.args.bytes.now (sym c.whole_record.ensures ∙ c.in_default.is)

pub returns-then-is_of : goal.returns-then-is_of
returns-then-is_of c =
    record_of_layout c.args.layout c.args.bytes.now (c.in-Some.previous, c.in-Some.record)
    (λ i. omega (arith, c.type_inv.bytes i)) (sym c.whole_record.ensures ∙ c.in-Some.is)
    (ap (is_kind_of c.args.layout) (sym c.kind.ensures) ∙ sym c.is_of.ensures ∙ c.if-is_of.true)

pub returns-else-is_of : goal.returns-else-is_of
returns-else-is_of c =
    record_of_other c.args.layout c.args.bytes.now (c.in-Some.previous, c.in-Some.record)
    (sym c.whole_record.ensures ∙ c.in-Some.is)
    (ap (is_kind_of c.args.layout) (sym c.kind.ensures) ∙ sym c.is_of.ensures ∙ c.if-is_of.false)
