use Rattle.std.proofs.Common.{rules, ◌≡◌, ◌∙◌}
use Rattle.oe_drive.proofs.ErrandFacts.{has_read}
use Rattle.oe_drive.proofs.idle.Idle.read.Goals as goal

pub returns-in-Ok-clause-called : goal.returns-in-Ok-clause-called
returns-in-Ok-clause-called g c =
    let same : c.pin.new.self.seat.terminal ≡ c.args.self.now.seat.terminal = search rules in
    let before : c.pin.new.self.calls.mine ≡ c.args.self.now.calls.mine = search rules in
    let after : c.unpin.new.self.calls.mine ≡ c.read-read.new.self.calls.mine = search rules in
    has_read g.M.Machine.world c.pin.new.self c.read-read.new.self c.in-Ok.pin c.args.query.now c.read-read.result
    c.args.self.now.seat.terminal c.args.self.now.calls.mine c.unpin.new.self.calls.mine same before after
    c.read-read.ensures.turn
