use Rattle.oe_writes.proofs.SetFacts.{district_made}
use Rattle.oe_writes.proofs.kinds.updates.DistrictYtdPlainWrite.set.Goals as goal

pub returns-clause-made : goal.returns-clause-made
returns-clause-made c =
    district_made c.args.tables.now c.set_district_ytd.new.self c.set_district_ytd.ensures.places
    c.args.self.now.district
    (λ x. record x { ytd = c.args.self.now.ytd }) c.set_district_ytd.ensures.names c.requires
    c.set_district_ytd.ensures.rows
