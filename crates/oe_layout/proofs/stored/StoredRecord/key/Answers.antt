-- The key is read from the front of the contents.
use Rattle.std.proofs.Common.{◌∙◌, ap}
use Rattle.oe_model.specs.Changes.{record_key}
use Rattle.oe_layout.specs.Stored.{table_changed}
use Rattle.oe_layout.proofs.StoredFacts.{key_read, seen_first, none_front}
use Rattle.oe_layout.proofs.stored.StoredRecord.key.Goals as goal

pub unreachable-requires : goal.unreachable-requires
unreachable-requires c =
    let k = key_read c.args.self.now c.table_changed-table.result c.contents.result.now _ c.contents.ensures.key
    (c.table_changed-table.ensures ∙ ap table_changed c.kind.ensures) c.contents.ensures.bytes c.read_key.ensures in
    none_front c.read_key.result (record_key c.args.self.now, k.0) c.in_default.is k.1

pub returns : goal.returns
returns c =
    let k = key_read c.args.self.now c.table_changed-table.result c.contents.result.now _ c.contents.ensures.key
    (c.table_changed-table.ensures ∙ ap table_changed c.kind.ensures) c.contents.ensures.bytes c.read_key.ensures in
    seen_first c.read_key.result (c.in-Some.key, c.in-Some._row) (record_key c.args.self.now) k.0 c.in-Some.is k.1
