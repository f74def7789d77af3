use Rattle.std.proofs.Common.{refl, sym, ◌∙◌}
use Rattle.oe_core.proofs.MoveFacts.{lent_tx, lent_work}
use Rattle.oe_core.proofs.AdvanceFacts.{told_of}
use Rattle.oe_core.proofs.cores.Core.last_reply.Goals as goal

-- it is open still
pub returns-in-Some : goal.returns-in-Some
returns-in-Some c =
    rw (← c.self.view_is)
    (sym (told_of (record { engine = c.self.inside.engine; txs = c.self.inside.txs; works = c.self.inside.works })
    c.args.terminal (lent_tx c.self.invariant refl c.at.ensures.high c.at.ensures.value c.in-Some.is) refl))

-- it has ended, and what it carried out has its reply or none
pub returns-in-Some-at : goal.returns-in-Some-at
returns-in-Some-at c =
    rw (← c.self.view_is)
    (c.reply.ensures
    ∙ sym
    (told_of (record { engine = c.self.inside.engine; txs = c.self.inside.txs; works = c.self.inside.works })
    c.args.terminal (lent_tx c.self.invariant refl c.at.ensures.high c.at.ensures.value c.in_default.is)
    (lent_work c.self.invariant refl c.at-2.ensures.high c.at-2.ensures.value c.in-Some-at.is)))

-- nothing was carried out there
pub returns-in-None : goal.returns-in-None
returns-in-None c =
    rw (← c.self.view_is)
    (sym
    (told_of (record { engine = c.self.inside.engine; txs = c.self.inside.txs; works = c.self.inside.works })
    c.args.terminal (lent_tx c.self.invariant refl c.at.ensures.high c.at.ensures.value c.in_default.is)
    (lent_work c.self.invariant refl c.at-2.ensures.high c.at-2.ensures.value c.in-None.is)))
