use Rattle.std.proofs.Common.{subst, arith}
use Rattle.oe_store.specs.Numbered.{AreNumbered}
use Rattle.oe_store.specs.Places.{rows}
use Rattle.oe_versions.proofs.NameFacts.{AreSame, all_same}
use Rattle.oe_versions.proofs.moments.Version.keeps_names.Goals as goal

pub returns : goal.returns
returns c = λ t.
    all_same c.args.self.now.tables c.args.self.now.log c.args.self.now.moment c.args.district.now c.args.last.now
    c.requires (subst (λ ts. AreNumbered (rows ts)) c.tables.ensures c.numbers_hold.ensures)
    (subst (AreSame c.args.self.now.tables c.args.self.now.log c.args.self.now.moment c.args.district.now
    c.args.last.now) (omega arith) c.loop-number.invariant)
