use Rattle.oe_engine.proofs.RenameFacts.{names_stood}
use Rattle.oe_engine.proofs.engine.Engine.version.Goals as goal

pub at-requires : goal.at-requires
at-requires c = λ on. names_stood c.self.inside.tables c.self.inside.undo.log c.self.inside.locks c.self.inside.renames
    c.args.moment c.self.invariant.named (c.stand-names_stand.ensures.0 on)
