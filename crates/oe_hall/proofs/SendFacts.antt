-- That a hall may go to another thread, and a front may be lent to others, if their machine may go to another thread.
use denote.RattleType.{RattleType}
use denote.Param.Send.{IsSend, IsSync, view_send, view_sync, recorded_send, recorded_sync, struct_send, struct_sync}
use denote.Param.Send.{sendable}
use denote.Struct.Declared.{shape}
use Rattle.std.proofs.Crossing.{frees}
use Rattle.std.proofs.alloc.Global.TheSendSync as heap
use Rattle.std.proofs.sync.Arc.TheSendSync as arc
use Rattle.std.proofs.sync.Mutex.TheSendSync as mutex
use Rattle.oe_machine.specs.declared.machines.Machine
use Rattle.oe_moments.proofs.words.Moments.TheSendSync as moments
use Rattle.oe_moments.proofs.words.KeeperSeat.TheSendSync as keeper
use Rattle.oe_hall.specs.declared.naming.Naming
use Rattle.oe_history.proofs.histories.History.TheSendSync as history
use Rattle.oe_hall.specs.contracts.records.Recorded.{the_row as recorded_row}
use Rattle.oe_hall.specs.contracts.records.Recorded.TheInside as recorded
use Rattle.oe_hall.specs.contracts.hall.Hall.{the_row as hall_row}
use Rattle.oe_hall.specs.contracts.hall.Hall.TheInside as hall
use Rattle.oe_hall.specs.contracts.shop.Front.{the_row as front_row}
use Rattle.oe_hall.specs.contracts.shop.Front.TheInside as front
use Rattle.oe_hall.proofs.counts.Totals.TheSendSync as totals

module _ (J M : RattleType) (j : Naming.Ghosts J.Denot) (m : Machine.Ghosts M.Denot) where
  recorded_is_sent : IsSend M → IsSend (recorded_row J M j m)
  recorded_is_sent machine_send =
      view_send _ _ _ _ _ (recorded_send (recorded.the_field J M j m).row _ _ (recorded.the_type J M j m).to_one
      (struct_send (shape (recorded.the_type J M j m)) (machine_send, (history.the_send, (search sendable, tt)))))

  pub hall_send : IsSend M → IsSend (hall_row J M j m)
  hall_send machine_send =
      view_send _ _ _ _ _ (recorded_send (hall.the_field J M j m).row _ _ (hall.the_type J M j m).to_one
      (struct_send (shape (hall.the_type J M j m)) (
        recorded_is_sent machine_send,
        (
          totals.the_send J j,
          (
            arc.the_send _ _ _ moments.the_send heap.the_send moments.the_sync heap.the_sync frees,
            (keeper.the_send, tt),
          ),
        ),
      )))

  pub front_sync : IsSend M → IsSync (front_row J M j m)
  front_sync machine_send =
      view_sync _ _ _ _ _ (recorded_sync (front.the_field J M j m).row _ _
      (front.the_type J M j m).to_one
      (struct_sync (shape (front.the_type J M j m)) (
        mutex.the_sync _ (hall_send machine_send),
        (arc.the_sync _ _ _ moments.the_send heap.the_send moments.the_sync heap.the_sync frees, tt),
      )))
