-- That an engine may go to another thread.
use denote.Param.Send.{IsSend, view_send, recorded_send, struct_send, sendable}
use denote.Struct.Declared.{shape}
use Rattle.std.proofs.alloc.Global.TheSendSync as heap
use Rattle.oe_locks.proofs.Locks.TheSendSync as locks
use Rattle.oe_store.proofs.tables.Tables.TheSendSync as tables
use Rattle.oe_engine.proofs.renames.Renames.TheSendSync as renames
use Rattle.oe_undo.specs.contracts.undo.Undo.{the_row as undo_row}
use Rattle.oe_engine.specs.contracts.engine.Engine.{the_row}
use Rattle.oe_engine.specs.contracts.engine.Engine.TheInside as inside

pub engine_send : IsSend undo_row → IsSend the_row
engine_send undo_send = view_send _ _ _ _ _
    (recorded_send inside.the_field.row _ _ inside.the_type.to_one
    (struct_send (shape inside.the_type) (
      tables.the_send,
      (
        undo_send,
        (
          locks.the_send,
          (
            renames.the_field_send,
            (
              search sendable,
              (
                search sendable,
                (heap.the_field_send, tt),
              ),
            ),
          ),
        ),
      ),
    )))
