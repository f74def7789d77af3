-- The newest string is the newest record's.
use Rattle.std.proofs.Common.{◌<◌, Some, [], length, get_or, sym, ap, ◌∙◌, arith}
use Rattle.oe_log.specs.Log as seen
use Rattle.oe_log.specs.Kept.{log_from}
use Rattle.oe_log.specs.Records.{newest_of}
use Rattle.oe_log.proofs.RecordFacts.{newest_stored, newest_is, at_slot, are_at}
use Rattle.oe_log.proofs.CallFacts.{inside, records_are}
use Rattle.oe_log.proofs.KeptFacts.{len_lies, none_newest}
use Rattle.oe_log.proofs.log.Log.newest_record.Goals as goal

pub newest-requires-clause-some : goal.newest-requires-clause-some
newest-requires-clause-some c =
    let len = len_lies c.self.inside.layout c.self.invariant.kept c.terminal-terminal.result c.at.result.now
    c.at.ensures.high c.at.ensures.value
    ∙ ap (λ t. length (get_or c.self.inside.ring.active t [])) (sym c.get-slot.ensures.value) in
    omega (arith, len, c.if-at-eq0.false)

pub linked_record-previous-requires : goal.linked_record-previous-requires
linked_record-previous-requires c =
    let len = len_lies c.self.inside.layout c.self.invariant.kept c.terminal-terminal.result c.at.result.now
    c.at.ensures.high c.at.ensures.value
    ∙ ap (λ t. length (get_or c.self.inside.ring.active t [])) (sym c.get-slot.ensures.value) in
    let some : 0 < length (get_or c.self.inside.ring.active c.get-slot.result []) =
    omega (arith, len, c.if-at-eq0.false) in
    newest_stored (get_or c.self.inside.ring.active c.get-slot.result []) c.newest.result.now
    (are_at c.self.inside.ring.active c.get-slot.result c.self.invariant.kept.lie.active_are) some
    (sym c.newest.ensures)

pub returns-then-at-eq0-clause-record : goal.returns-then-at-eq0-clause-record
returns-then-at-eq0-clause-record c =
    rw (← c.self.view_is)
    (none_newest c.self.inside.layout c.self.invariant.kept c.terminal-terminal.result c.args.segment c.at.result.now
    c.terminal-terminal.ensures
    c.at.ensures.high c.at.ensures.value c.if-at-eq0.true)

pub returns-clause-record : goal.returns-clause-record
returns-clause-record c =
    let len = len_lies c.self.inside.layout c.self.invariant.kept c.terminal-terminal.result c.at.result.now
    c.at.ensures.high c.at.ensures.value
    ∙ ap (λ t. length (get_or c.self.inside.ring.active t [])) (sym c.get-slot.ensures.value) in
    let are = are_at c.self.inside.ring.active c.get-slot.result c.self.invariant.kept.lie.active_are in
    let some : 0 < length (get_or c.self.inside.ring.active c.get-slot.result []) =
    omega (arith, len, c.if-at-eq0.false) in
    rw (← c.self.view_is)
    ((λ i. Some (c.linked_record-previous.result.0, c.read.ensures i))
    ∙ newest_is (get_or c.self.inside.ring.active c.get-slot.result []) c.newest.result.now
    (c.linked_record-previous.result.0, c.linked_record-previous.result.1) are some
    (sym c.newest.ensures) c.linked_record-previous.ensures
    ∙ ap newest_of (sym (at_slot c.self.inside.ring.active c.get-slot.result))
    ∙ ap newest_of (sym (records_are c.self.inside.layout (inside c.self.invariant.kept) c.get-slot.result))
    ∙ ap (λ t. newest_of (seen.records_at
    (log_from c.self.inside.layout c.self.inside.terminals c.self.inside.commits.items c.self.inside.ring) t))
    (c.get-slot.ensures.value
    ∙ c.terminal-terminal.ensures))
