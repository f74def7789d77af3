use Rattle.std.proofs.Common.{Vec, Global, subst, refl}
use Rattle.std.specs.Option.{option_map}
use Rattle.oe_file_audit.specs.declared.reading.TableSource.{TableSource}
use Rattle.oe_file_audit.specs.Audits.{Ends}
use Rattle.oe_file_audit.specs.Earlier.{EarlierIsRead}
use Rattle.oe_file_audit.proofs.audits.audit_tables.Goals as goal

pub returns-in-Ok-Sound : goal.returns-in-Ok-Sound
returns-in-Ok-Sound g c =
    let read =
    subst (EarlierIsRead g.S.Read.remaining c.args.format
    (option_map (λ (v : Vec (TableSource g.row.S.Denot) Global). v.items) c.args.before))
    c.in-Ok-Sound.field-0-is c.in-Ok-Sound.ensures.read in
    Ends.behind read.0 read.1 read.2 read.3 c.audit_tables_behind.result (c.audit_tables_behind.ensures read.0 read.4)

pub returns-in-Ok-Faulty : goal.returns-in-Ok-Faulty
returns-in-Ok-Faulty g c =
    let read =
    subst (EarlierIsRead g.S.Read.remaining c.args.format
    (option_map (λ (v : Vec (TableSource g.row.S.Denot) Global). v.items) c.args.before))
    c.in-Ok-Faulty.field-0-is c.in-Ok-Faulty.ensures.read in
    Ends.faulty read.0 c.in-Ok-Faulty.faults read.1 read.2 refl

pub returns-in-Err : goal.returns-in-Err
returns-in-Err g c = Ends.stopped c.in-Err.unread c.in-Err.ensures.unread refl
