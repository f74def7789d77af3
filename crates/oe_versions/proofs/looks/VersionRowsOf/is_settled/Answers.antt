use Rattle.oe_versions.proofs.QuietFacts.{nothing_since}
use Rattle.oe_versions.proofs.looks.VersionRowsOf.is_settled.Goals as goal

pub returns : goal.returns
returns c = λ on.
    let settled = c.is_settled.ensures.0 on in
    nothing_since c.args.self.now.tables c.args.self.now.log c.args.self.now.moment settled.0 settled.1
