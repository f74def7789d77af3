use Rattle.oe_versions.proofs.PassedFacts.{passed_at}
use Rattle.oe_versions.proofs.looks.VersionRowsOf.are_passed.Goals as goal

pub returns : goal.returns
returns c = passed_at c.args.self.now.tables c.args.self.now.log c.args.self.now.moment c.requires
