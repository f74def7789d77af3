use Rattle.std.proofs.Common.{refl, sym, ◌∙◌, take}
use Rattle.oe_file_serial.specs.Files.{lines_of}
use Rattle.oe_file_serial.proofs.ChangeFacts.{hint_query, hint_of}
use Rattle.oe_file_serial.proofs.changes.last_change.Goals as goal

pub transaction-requires : goal.transaction-requires
transaction-requires c = c.requires.line.2.short

pub returns-in_default : goal.returns-in_default
returns-in_default c =
    hint_query (take c.args.count (lines_of c.args.lines.now)) c.args.line.now c.args.ours.now _ c.requires.line
    c.in_default.ensures refl

pub returns-in_default-row_told : goal.returns-in_default-row_told
returns-in_default-row_told c =
    hint_of (take c.args.count (lines_of c.args.lines.now)) c.args.line.now c.args.ours.now _ c.in-Some.told.request
    c.in-Some.told.reply.now _ c.in-Some.ensures (sym c.in_default-row_told.is ∙ c.row_told.ensures) refl

pub returns : goal.returns
returns c =
    hint_of (take c.args.count (lines_of c.args.lines.now)) c.args.line.now c.args.ours.now _ c.in-Some.told.request
    c.in-Some.told.reply.now _ c.in-Some.ensures (sym c.in-Some-row_told.is ∙ c.row_told.ensures)
    c.changed_before.ensures
