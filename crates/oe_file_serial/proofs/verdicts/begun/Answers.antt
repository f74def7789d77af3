use Rattle.std.proofs.Common.{subst}
use Rattle.oe_file_serial.specs.Files.{IsOpening}
use Rattle.oe_file_serial.specs.Verdicts.{opening_of}
use Rattle.oe_file_serial.specs.declared.origins.Origin.{Origin}
use Rattle.oe_file_serial.proofs.WorkFacts.{begun_of, begun_on}
use Rattle.oe_file_serial.proofs.verdicts.begun.Goals as goal

pub unreachable-requires : goal.unreachable-requires
unreachable-requires g c =
    let o = subst (λ (z : Origin). IsOpening (opening_of z) c.args.line.now) c.in-Population.is c.requires.opening in
    c.in_default.ensures o.0 o.1

pub returns-in-Some : goal.returns-in-Some
returns-in-Some g c =
    begun_of g.M.Machine.world c.args.origin c.args.line.now c.in-Some.scale c.in-Population.is c.in-Some.ensures
    c.opened.result c.opened.ensures

pub returns-in-Tables : goal.returns-in-Tables
returns-in-Tables g c =
    let o = subst (λ (z : Origin). IsOpening (opening_of z) c.args.line.now) c.in-Tables.is c.requires.opening in
    begun_on g.M.Machine.world c.args.origin c.args.line.now c.in-Tables.tables c.in-Tables.is o
    c.opened_on.result c.opened_on.ensures
