-- The kind stands behind the length.
use Rattle.std.proofs.Common.{◌∙◌}
use Rattle.oe_layout.specs.Kinds.{kind_of}
use Rattle.oe_layout.specs.Stored.{record_in_bytes}
use Rattle.oe_layout.proofs.StoredFacts.{kind_there, seen_first, some_front}
use Rattle.oe_layout.proofs.stored.StoredRecord.kind.Goals as goal

pub unwrap-requires : goal.unwrap-requires
unwrap-requires c =
    let k = kind_there c.self.inside.bytes.now c.self.invariant in
    some_front c.read_kind.result (kind_of (record_in_bytes c.self.inside.bytes.now), k.0) (c.read_kind.ensures ∙ k.1)

pub returns : goal.returns
returns c =
    let k = kind_there c.self.inside.bytes.now c.self.invariant in
    rw (← c.self.view_is)
    (seen_first c.read_kind.result c.unwrap.result
    (kind_of (record_in_bytes c.self.inside.bytes.now)) k.0 c.unwrap.ensures
    (c.read_kind.ensures ∙ k.1))
