-- The link stands behind the kind.
use Rattle.std.proofs.Common.{◌∙◌}
use Rattle.oe_layout.specs.Records.{record_of_own}
use Rattle.oe_layout.proofs.StoredFacts.{link_there, seen_first, none_front}
use Rattle.oe_layout.proofs.stored.linked_record.Goals as goal

pub unreachable-requires : goal.unreachable-requires
unreachable-requires c =
    let k = link_there c.args.bytes.now c.requires.previous (record_of_own c.requires.before) c.requires.link
    c.requires.image in
    none_front c.read_previous.result (c.requires.previous, k.0) c.in_default.is (c.read_previous.ensures ∙ k.1)

pub returns : goal.returns
returns c p b hp hb e =
    let k = link_there c.args.bytes.now p (record_of_own b) hp e in
    let link = seen_first c.read_previous.result (c.in-Some.previous, c.in-Some._contents) p k.0 c.in-Some.is
    (c.read_previous.ensures ∙ k.1) in
    λ i. (link i, c.of.ensures.record p b hp hb e i)
