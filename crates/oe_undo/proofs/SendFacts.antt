-- That the undo log beside the links may go to another thread, where the log of segments may.
use denote.Param.Send.{IsSend, view_send, recorded_send, struct_send}
use denote.Struct.Declared.{shape}
use Rattle.oe_log.specs.contracts.log.Log.{the_row as log_row}
use Rattle.oe_values.proofs.terminals.PerTerminal.TheSendSync as per_terminal
use Rattle.oe_undo.specs.contracts.undo.Undo.{the_row}
use Rattle.oe_undo.specs.contracts.undo.Undo.TheInside as inside
use Rattle.oe_undo.proofs.links.Links.TheSendSync as links
use Rattle.oe_undo.proofs.moments.TerminalMoments.TheSendSync as moments

pub undo_send : IsSend log_row → IsSend the_row
undo_send log_send =
    view_send _ _ _ _ _ (recorded_send inside.the_field.row _ _ inside.the_type.to_one
    (struct_send (shape inside.the_type) (log_send, (links.the_send, (per_terminal.the_send _ moments.the_send, tt)))))
