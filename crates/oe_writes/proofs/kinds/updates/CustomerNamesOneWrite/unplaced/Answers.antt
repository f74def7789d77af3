use Rattle.oe_change.specs.declared.writes.Write.TheVariants as writes
use Rattle.oe_writes.proofs.UnplacedFacts.{write_unplaced}
use Rattle.oe_writes.proofs.kinds.updates.CustomerNamesOneWrite.unplaced.Goals as goal

pub returns : goal.returns
returns c =
    write_unplaced (writes.CustomerNames c.args.self.now.customer c.args.self.now.last c.args.self.now.first)
    c.args._tables.now (λ k x e. cc) (λ k e. cc) (λ k x e. cc) (λ k x e. cc)
    c.requires.there c.requires.unplaced
