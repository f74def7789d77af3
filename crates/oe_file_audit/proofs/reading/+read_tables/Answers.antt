use Rattle.std.proofs.Common.{List, subst, arith}
use Rattle.std.specs.Prelude.{IfOk, IfErr}
use Rattle.std.proofs.lemmas.List.{nil_from_length}
use Rattle.oe_file_audit.specs.declared.reading.TableSource.{TableSource}
use Rattle.oe_file_audit.specs.Reading.{TablesRead, StopsAt}
use Rattle.oe_file_audit.proofs.BehindFacts.{last_off, first_of_both, none_read, read_behind}
use Rattle.oe_file_audit.proofs.BehindFacts.{stops_before, stops_behind, stops_read}
use Rattle.oe_file_audit.proofs.reading.+read_tables.Goals as goal

pub returns-in_default-clause-read : goal.returns-in_default-clause-read
returns-in_default-clause-read g t c =
    none_read g.S.Read.remaining c.args.wanted c.args.format c.args.given c.args.sources.items c.new.result
    (nil_from_length c.args.sources.items (omega (arith, c.args.sources.ok.0, c.in_default.ensures.cases.0)))
    c.new.ensures.faults c.new.ensures.entered

pub returns-in-Ok-clause-unread : goal.returns-in-Ok-clause-unread
returns-in-Ok-clause-unread g t c =
    let rest = c.pop.new.self.items in
    let source = c.in-Some.source in
    subst (λ (all : List (TableSource g.row.S.Denot)). IfErr c.read_next.result (StopsAt all))
    (last_off c.args.sources.items rest c.pop.result source c.pop.ensures.items c.in-Some.is)
    (stops_read rest source c.read_next.result c.read_next.ensures.unread)

pub returns-in-Err-clause-unread : goal.returns-in-Err-clause-unread
returns-in-Err-clause-unread g t c =
    let rest = c.pop.new.self.items in
    let source = c.in-Some.source in
    subst (λ (all : List (TableSource g.row.S.Denot)). StopsAt all c.in-Err.unread)
    (last_off c.args.sources.items rest c.pop.result source c.pop.ensures.items c.in-Some.is)
    (stops_before rest source c.in-Err.unread c.in-Err.ensures.unread)

pub returns-clause-read : goal.returns-clause-read
returns-clause-read g t c =
    let rest = c.pop.new.self.items in
    let source = c.in-Some.source in
    let read = c.join-own.result in
    subst (λ (all : List (TableSource g.row.S.Denot)). IfOk c.put_behind.result
    (TablesRead g.S.Read.remaining c.args.wanted c.args.format c.args.given all))
    (last_off c.args.sources.items rest c.pop.result source c.pop.ensures.items c.in-Some.is)
    (read_behind g.S.Read.remaining c.args.wanted c.args.format source c.args.given rest
    (first_of_both c.is_alone.result _ _ c.is_alone.ensures c.if-not-is_alone.false) read.1 read.0 c.put_behind.result
    c.join-own.ensures.second.0 c.join-own.ensures.first.0 c.put_behind.ensures.read)

pub returns-clause-unread : goal.returns-clause-unread
returns-clause-unread g t c =
    let rest = c.pop.new.self.items in
    let source = c.in-Some.source in
    subst (λ (all : List (TableSource g.row.S.Denot)). IfErr c.put_behind.result (StopsAt all))
    (last_off c.args.sources.items rest c.pop.result source c.pop.ensures.items c.in-Some.is)
    (stops_behind rest source c.join-own.result.1 c.put_behind.result c.join-own.ensures.second.1
    c.put_behind.ensures.unread)
