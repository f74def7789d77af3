use Rattle.oe_versions.proofs.FoundFacts.{all_stand}
use Rattle.oe_versions.proofs.moments.Version.stands.Goals as goal

pub returns-then-self : goal.returns-then-self
returns-then-self c = λ on. rw (← c.self.view_is)
    (all_stand c.self.inside.tables.now c.self.inside.undo.now.log c.self.inside.moment c.self.inside.is_settled
    c.self.inside.names_stand c.args.key.now c.self.invariant c.if-self.true)
