use Rattle.std.proofs.Common.{Option, Vec, Global, ap}
use Rattle.std.specs.Option.{option_map}
use Rattle.oe_file_audit.specs.declared.reading.TableSource.{TableSource}
use Rattle.oe_file_audit.proofs.EarlierFacts.{earlier_read}
use Rattle.oe_file_audit.proofs.earlier.read_earlier.Goals as goal

pub returns-in-Ok-clause-read : goal.returns-in-Ok-clause-read
returns-in-Ok-clause-read g c =
    let told = c.in-Ok.ensures.read in
    earlier_read g.S.Read.remaining c.args.format c.in-Some.sources.items told.0 c.in-Ok.spelled.faults.items told.1
    (option_map (λ (v : Vec (TableSource g.row.S.Denot) Global). v.items) c.args.before) c.kept.result
    (ap (λ (o : Option (Vec (TableSource g.row.S.Denot) Global)). option_map
    (λ (v : Vec (TableSource g.row.S.Denot) Global). v.items) o) c.in-Some.is)
    (c.kept.ensures told.0 told.2.traces)
