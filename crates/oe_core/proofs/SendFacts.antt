-- That a core may go to another thread.
use denote.Param.Send.{IsSend, view_send, recorded_send, struct_send}
use denote.Struct.Declared.{shape}
use Rattle.std.proofs.alloc.Global.TheSendSync as heap
use Rattle.std.proofs.option.Option.TheSendSync as option
use Rattle.oe_values.proofs.terminals.PerTerminal.TheSendSync as per_terminal
use Rattle.oe_engine.specs.contracts.engine.Engine.{the_row as engine_row}
use Rattle.oe_engine.proofs.engine.Tx.TheSendSync as tx
use Rattle.oe_core.specs.contracts.cores.Core.{the_row}
use Rattle.oe_core.specs.contracts.cores.Core.TheInside as inside
use Rattle.oe_core.proofs.works.Work.TheSendSync as work

pub core_send : IsSend engine_row → IsSend the_row
core_send engine_send = view_send _ _ _ _ _
    (recorded_send inside.the_field.row _ _ inside.the_type.to_one
    (struct_send (shape inside.the_type) (
      engine_send,
      (
        per_terminal.the_send _ (option.the_send _ tx.the_send),
        (per_terminal.the_send _ (option.the_send _ work.the_send), (heap.the_field_send, tt)),
      ),
    )))
