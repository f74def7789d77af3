use Rattle.std.proofs.Common.{◌≡◌, ◌+◌, ◌≤◌, true}
use Rattle.oe_hall.specs.Histories.{is_open}
use Rattle.oe_hall.specs.Desks.{IsOwn}
use Rattle.oe_drive.proofs.ErrandFacts.{LeadsFrom}
use Rattle.oe_drive.proofs.idle.advance_to_end.Given as goal

abbrev pub invariant-loop : goal.invariant-loop
invariant-loop g l = (l.desk.told.begun ≡ l.desk.told.committed + l.desk.told.rolled_back + 1)
    × (l.desk.seat ≡ l.fn.desk.seat) × (is_open l.desk.calls.mine ≡ true) × IsOwn l.desk.seat l.work
    × (l.desk.told.begun ≡ l.fn.desk.told.begun) × (l.desk.calls.by ≡ l.fn.desk.calls.by)
    × (1 ≤ l.left) × (l.left ≤ 100)
    × LeadsFrom l.fn.desk.seat.terminal l.left l.fn.desk.calls.mine l.desk.calls.mine
