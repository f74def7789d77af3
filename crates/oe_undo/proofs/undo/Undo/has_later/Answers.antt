use Rattle.std.proofs.Common.{sym, ap, ◌∙◌}
use Rattle.oe_undo.specs.Undo.{link_seen}
use Rattle.oe_undo.specs.Walks.{leads_later}
use Rattle.oe_undo.proofs.ChainedLinkFacts.{link_tells}
use Rattle.oe_undo.proofs.undo.Undo.has_later.Goals as goal

pub returns-in-Some : goal.returns-in-Some
returns-in-Some c =
    c.is_later.ensures ∙ ap (leads_later c.args.moment) (sym c.in-Some.is ∙ c.link.ensures)
    ∙ link_tells c.args.self.now.log (link_seen c.args.self.now) c.args.key.now c.args.moment
    c.is_chained.ensures.chained c.requires

pub returns-in-None : goal.returns-in-None
returns-in-None c =
    ap (leads_later c.args.moment) (sym c.in-None.is ∙ c.link.ensures)
    ∙ link_tells c.args.self.now.log (link_seen c.args.self.now) c.args.key.now c.args.moment
    c.is_chained.ensures.chained c.requires
