use Rattle.std.proofs.Common.{sym, subst}
use Rattle.oe_load.specs.declared.picks.Pick.{Pick}
use Rattle.oe_load.specs.declared.picks.Pick.TheVariants as pick
use Rattle.oe_load.specs.Scripts.{gives_way}
use Rattle.oe_load.specs.Turns.{counts_of, Turned}
use Rattle.oe_load.proofs.turns.carried_out.Goals as goal

pub returns-in-GiveWay : goal.returns-in-GiveWay
returns-in-GiveWay g c =
    subst (λ (k : Pick). Turned c.args.plan.now (g.M.Machine.world c.args.core.now) (counts_of c.args.served.now) k
    c.args.out.now.items c.give_way.result (g.M.Machine.world c.give_way.new.core) (counts_of c.args.served.now)
    c.give_way.new.out.items) (sym c.in-GiveWay.is)
    (c.give_way.ensures (pick.GiveWay c.in-GiveWay.terminal) (gives_way c.in-GiveWay.terminal))

pub returns-in-Turn : goal.returns-in-Turn
returns-in-Turn g c =
    subst (λ (k : Pick). Turned c.args.plan.now (g.M.Machine.world c.args.core.now) (counts_of c.args.served.now) k
    c.args.out.now.items c.take_turn.result (g.M.Machine.world c.take_turn.new.core) (counts_of c.take_turn.new.served)
    c.take_turn.new.out.items) (sym c.in-Turn.is) c.take_turn.ensures
